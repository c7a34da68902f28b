use Rattle.std.proofs.Common.{◌≡◌, length}
use Rattle.std.specs.List.{range_with_len}
use Rattle.elf_format.specs.Chain.{each_ok, on_ok}
use Rattle.elf_format.specs.VersionName.{defined_version, version_names, version_index_count}
use Rattle.elf_versions.specs.steps.Names.{names_after}
use Rattle.elf_versions.proofs.defined.VersionNames.new.Given as goal

abbrev pub invariant-loop-definition : goal.invariant-loop-definition
invariant-loop-definition l = record {
  left : on_ok (names_after (λ i. i) (range_with_len 0 (version_index_count l.last)) l.names) (each_ok (defined_version l.last l.strings) l.definition-iterator)
      ≡ version_names l.last l.strings l.fn.definitions;
  len : length l.names ≡ version_index_count l.last;
}

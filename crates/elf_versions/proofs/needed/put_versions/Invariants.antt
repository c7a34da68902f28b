use Rattle.std.proofs.Common.{◌≡◌}
use Rattle.elf_format.specs.Chain.{each_ok, on_ok}
use Rattle.elf_format.specs.VersionName.{needed_version}
use Rattle.elf_versions.specs.steps.Names.{put_names}
use Rattle.elf_versions.proofs.needed.put_versions.Given as goal

abbrev pub invariant-loop-version : goal.invariant-loop-version
invariant-loop-version l =
    on_ok (put_names l.names) (each_ok (needed_version l.strings) l.version-iterator) ≡ on_ok (put_names l.fn.names) (each_ok (needed_version l.strings) l.fn.versions)

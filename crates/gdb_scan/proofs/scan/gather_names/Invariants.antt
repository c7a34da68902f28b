use Rattle.std.proofs.Common.{◌≡◌, ℕ, List, ◌++◌}
use Rattle.std.specs.List.{enumerate_from, filter}
use Rattle.elf_format.specs.Section.{sections}
use Rattle.gdb_index_format.specs.Objects.{is_pubnames_section}
use Rattle.gdb_scan.specs.Marks.{all_marked}
use Rattle.gdb_scan.specs.steps.Gathered.{Gathers}
use Rattle.gdb_scan.proofs.scan.gather_names.Given as goal

abbrev pub invariant-loop-index : goal.invariant-loop-index
invariant-loop-index g l = record {
  parts : (done : List (ℕ × List ℕ)) × (done ++ l.index-iterator ≡ enumerate_from 0 (sections g.C.ElfClass.class l.file.bytes)) × Gathers g.C.ElfClass.class l.file.bytes l.units.units.now (filter (λ s. is_pubnames_section g.C.ElfClass.class l.file.bytes s.1) done) (all_marked l.names.items);
}

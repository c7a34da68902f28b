use Rattle.std.proofs.Common.{◌≡◌, drop}
use Rattle.gdb_tables.specs.Files.{all_parsed, file_bytes}
use Rattle.gdb_tables.specs.Misplaced.{misplaced}
use Rattle.gdb_tables.proofs.Misplacing.{misplaced_from}
use Rattle.gdb_tables.proofs.misplaced.first_misplaced.Given as goal

abbrev pub invariant-loop-index : goal.invariant-loop-index
invariant-loop-index l = record {
  left : misplaced (file_bytes (all_parsed l.files)) l.placements ≡ misplaced_from (file_bytes (all_parsed l.files)) l.index l.before (drop l.index l.placements);
}

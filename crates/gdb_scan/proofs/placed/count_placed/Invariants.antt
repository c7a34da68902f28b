use Rattle.std.proofs.Common.{◌≡◌, ◌+◌, ◌≤◌, drop, length}
use Rattle.std.specs.List.{filter}
use Rattle.gdb_index_format.specs.Placed.{is_counted}
use Rattle.gdb_scan.proofs.placed.count_placed.Given as goal

abbrev pub invariant-loop-placement : goal.invariant-loop-placement
invariant-loop-placement g l = record {
  left : l.count + length (filter (is_counted g.C.ElfClass.class l.file.bytes) (drop l.placement-index l.placements)) ≡ length (filter (is_counted g.C.ElfClass.class l.file.bytes) l.placements);
  small : l.count ≤ l.placement-index;
}

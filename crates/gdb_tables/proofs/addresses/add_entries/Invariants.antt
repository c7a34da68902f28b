use Rattle.std.proofs.Common.{◌≡◌, ◌++◌, drop}
use Rattle.gdb_tables.specs.steps.ObjectEntries.{entries_at, unit_mapped}
use Rattle.gdb_tables.proofs.addresses.add_entries.Given as goal

abbrev pub invariant-loop-placement : goal.invariant-loop-placement
invariant-loop-placement g l = record {
  left : l.entries.items ++ entries_at g.C.ElfClass.class l.file.bytes l.first (unit_mapped l.map) (drop l.placement-index l.placements) ≡ l.initial.entries.items ++ entries_at g.C.ElfClass.class l.file.bytes l.first (unit_mapped l.map) l.placements;
}

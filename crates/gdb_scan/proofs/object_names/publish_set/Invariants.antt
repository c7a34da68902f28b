use Rattle.std.proofs.Common.{◌≡◌, ◌++◌, drop, map}
use Rattle.dwarf_sections.specs.Entries.{entries_in}
use Rattle.gdb_scan.specs.Marks.{mark_of, all_marked}
use Rattle.gdb_scan.proofs.object_names.publish_set.Given as goal

abbrev pub invariant-loop-entry : goal.invariant-loop-entry
invariant-loop-entry l = record {
  left : all_marked l.names.items ++ map (mark_of l.unit) (entries_in (drop l.entry-index l.set.entries.items)) ≡ all_marked l.initial.names.items ++ map (mark_of l.unit) (entries_in l.set.entries.items);
}

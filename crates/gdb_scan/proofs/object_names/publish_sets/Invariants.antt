use Rattle.std.proofs.Common.{◌≡◌, ◌++◌, drop}
use Rattle.dwarf_sections.specs.Sets.{sets_in}
use Rattle.gdb_scan.specs.Marks.{all_marked, marks_of}
use Rattle.gdb_scan.proofs.object_names.publish_sets.Given as goal

abbrev pub invariant-loop-set : goal.invariant-loop-set
invariant-loop-set l = record {
  left : all_marked l.names.items ++ marks_of l.units (sets_in (drop l.set-index l.sets)) ≡ all_marked l.initial.names.items ++ marks_of l.units (sets_in l.sets);
}

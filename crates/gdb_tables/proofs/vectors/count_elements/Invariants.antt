use Rattle.std.proofs.Common.{◌≡◌, take}
use Rattle.gdb_tables.specs.steps.Vectors.{element_counts}
use Rattle.gdb_tables.proofs.vectors.count_elements.Given as goal

abbrev pub invariant-loop-element : goal.invariant-loop-element
invariant-loop-element l = record {
  counted : l.counts.items ≡ element_counts l.names (take l.element-index l.elements);
}

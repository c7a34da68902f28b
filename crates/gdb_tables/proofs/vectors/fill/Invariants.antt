use Rattle.std.proofs.Common.{◌≡◌, length, drop}
use Rattle.gdb_index_format.specs.Named.{all_named}
use Rattle.gdb_tables.specs.steps.Vectors.{with_elements}
use Rattle.gdb_tables.proofs.vectors.fill.Given as goal

abbrev pub invariant-loop-element : goal.invariant-loop-element
invariant-loop-element l = record {
  left : with_elements (all_named l.names.items) (drop l.element-index l.elements) ≡ with_elements (all_named l.initial.names.items) l.elements;
  long : length l.names.items ≡ length l.initial.names.items;
}

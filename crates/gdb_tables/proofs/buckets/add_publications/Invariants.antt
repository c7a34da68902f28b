use Rattle.std.proofs.Common.{◌≡◌, length, drop}
use Rattle.gdb_scan.specs.Marks.{all_marked}
use Rattle.gdb_tables.specs.steps.Distributed.{lists_shown, words_of_marks, with_pairs}
use Rattle.gdb_tables.proofs.buckets.add_publications.Given as goal

abbrev pub invariant-loop-publication : goal.invariant-loop-publication
invariant-loop-publication l = record {
  left : with_pairs (lists_shown l.lists.items) (words_of_marks l.first (all_marked (drop l.publication-index l.publications))) ≡ with_pairs (lists_shown l.initial.lists.items) (words_of_marks l.first (all_marked l.publications));
  buckets : length l.lists.items ≡ 32;
}

use Rattle.std.proofs.Common.{◌-◌, ◌≤◌, length}
use Rattle.index_merge.specs.Joined.{moved_element}
use Rattle.index_merge.proofs.Pushing.{IsPushed}
use Rattle.index_merge.proofs.names.push_elements.Given as goal

abbrev pub invariant-loop-element : goal.invariant-loop-element
invariant-loop-element l = record {
  pushed : IsPushed (moved_element l.units) l.vector l.initial.words.items l.words.items l.index;
  within : l.index ≤ length l.vector;
}

abbrev pub decreases-loop-element : goal.decreases-loop-element
decreases-loop-element l = length l.vector - l.index

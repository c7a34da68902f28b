use Rattle.std.proofs.Common.{◌-◌, ◌≤◌, length}
use Rattle.sframe_find.proofs.Searching.{IsBetween, AreSteps}
use Rattle.sframe_find.proofs.frames.OrderedFrames.find.Given as goal

abbrev pub invariant-loop-low : goal.invariant-loop-low
invariant-loop-low g l = record {
  between : IsBetween l.self l.address l.low l.high;
  later : l.fn.steps ≤ l.steps;
  steps : AreSteps (length l.self.functions) (l.steps - l.fn.steps) (l.high - l.low);
}

abbrev pub decreases-loop-low : goal.decreases-loop-low
decreases-loop-low g l = l.high - l.low

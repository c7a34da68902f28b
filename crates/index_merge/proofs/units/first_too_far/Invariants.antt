use Rattle.gdb_index_format.specs.Units.{index_units}
use Rattle.index_merge.specs.Merged.{is_too_far}
use Rattle.index_merge.proofs.Pushing.{NoneBefore}
use Rattle.index_merge.proofs.units.first_too_far.Given as goal

abbrev pub invariant-loop-number : goal.invariant-loop-number
invariant-loop-number l = NoneBefore (is_too_far l.offset) (index_units l.index) l.number

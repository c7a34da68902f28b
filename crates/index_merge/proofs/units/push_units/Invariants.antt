use Rattle.gdb_index_format.specs.Units.{index_units}
use Rattle.index_merge.specs.Merged.{moved_unit}
use Rattle.index_merge.proofs.Pushing.{IsPushed}
use Rattle.index_merge.proofs.units.push_units.Given as goal

abbrev pub invariant-loop-number : goal.invariant-loop-number
invariant-loop-number l = IsPushed (moved_unit l.offset) (index_units l.index) l.initial.units.items l.units.items l.number

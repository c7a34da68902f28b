use Rattle.gdb_index_format.specs.Units.{index_units}
use Rattle.index_merge.specs.Merged.{moved_unit}
use Rattle.index_merge.proofs.Pushing.{push_more}
use Rattle.index_merge.proofs.units.push_units.Goals as goal

pub loop-number-preserved : goal.loop-number-preserved
loop-number-preserved c =
    push_more (moved_unit c.args.offset) (index_units c.args.index.now) c.args.units.now.items c.loop-number.units.items c.push.new.self.items c.loop-number.number c.unit_at-unit.result c.unit_at-unit.ensures
    c.in_ok-push.ensures.items c.loop-number.invariant

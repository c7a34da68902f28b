use Rattle.std.proofs.Common.{sym, arith}
use Rattle.gdb_index_format.specs.Units.{index_units}
use Rattle.index_merge.specs.Merged.{is_too_far}
use Rattle.index_merge.proofs.Pushing.{first_found, none_more, none_found}
use Rattle.index_merge.proofs.units.first_too_far.Goals as goal

pub returns-then-is_too_far : goal.returns-then-is_too_far
returns-then-is_too_far c = first_found (is_too_far c.args.offset) (index_units c.args.index.now) c.loop-number.number c.unit_at.result c.unit_at.ensures (sym (c.if-is_too_far.ensures {u = tt})) c.loop-number.invariant

pub loop-number-preserved : goal.loop-number-preserved
loop-number-preserved c = none_more (is_too_far c.args.offset) (index_units c.args.index.now) c.loop-number.number c.unit_at.result c.unit_at.ensures (sym (c.if-is_too_far.ensures {u = tt})) c.loop-number.invariant

pub returns : goal.returns
returns c = none_found (is_too_far c.args.offset) (index_units c.args.index.now) c.loop-number.number (omega (arith, c.loop-number-test.false)) c.loop-number.invariant

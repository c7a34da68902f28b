use Rattle.std.proofs.Common.{sym, arith}
use Rattle.gdb_index.proofs.Passing.{steps_read, none_outside}
use Rattle.gdb_index.proofs.passed.steps_passed.Goals as goal

pub returns-then-at-passed : goal.returns-then-at-passed
returns-then-at-passed c = sym (none_outside c.args.passed.now c.args.slot (omega (arith, c.if-at-passed.true)))

pub returns : goal.returns
returns c = steps_read c.args.passed.now c.args.slot c.from.result c.from-2.result c.from-3.result (omega (arith, c.if-at-passed.false)) c.from.ensures c.from-2.ensures c.from-3.ensures

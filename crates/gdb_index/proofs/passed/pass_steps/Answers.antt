use Rattle.std.proofs.Common.{◌/◌, ◌%◌, arith, ◌∙◌}
use Rattle.gdb_index.proofs.Passing.{steps_written, steps_kept, none_outside}
use Rattle.gdb_index.proofs.passed.pass_steps.Goals as goal

pub returns-then-at-passed-clause-at_most : goal.returns-then-at-passed-clause-at_most
returns-then-at-passed-clause-at_most c = omega (arith, none_outside c.args.passed.now c.args.slot (omega (arith, c.if-at-passed.true)))

pub returns-clause-at_most : goal.returns-clause-at_most
returns-clause-at_most c = omega (arith, steps_written c.args.passed.now c.args.slot c.min-noted.result (omega (arith, c.if-at-passed.false)), c.min-noted.ensures)

pub returns-clause-noted : goal.returns-clause-noted
returns-clause-noted c = λ room. steps_written c.args.passed.now c.args.slot c.min-noted.result room ∙ c.min-noted.ensures

pub returns-clause-others : goal.returns-clause-others
returns-clause-others c = λ s other. steps_kept c.args.passed.now c.args.slot (c.min-noted.result % 256) (c.min-noted.result / 256 % 256) (c.min-noted.result / 65536) s other

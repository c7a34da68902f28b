use Rattle.sframe_find.proofs.OneCause.{one_cause, no_cause}
use Rattle.sframe_find.proofs.check.check_sframe.Goals as goal

pub returns-in-Ok-clause-exact : goal.returns-in-Ok-clause-exact
returns-in-Ok-clause-exact c = λ e cause. no_cause c.args.section.now c.args.base e c.in-Ok.ensures.ordered cause

pub returns-in-Err-clause-exact : goal.returns-in-Err-clause-exact
returns-in-Err-clause-exact c = λ e cause. one_cause c.args.section.now c.args.base c.in-Err.fault e c.in-Err.ensures.cause cause

pub returns-in-Err-clause-complete : goal.returns-in-Err-clause-complete
returns-in-Err-clause-complete c = λ ordered. no_cause c.args.section.now c.args.base c.in-Err.fault ordered c.in-Err.ensures.cause

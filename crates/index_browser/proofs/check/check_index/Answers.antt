use Rattle.index_browser.proofs.Checking.{refused, accepted}
use Rattle.index_browser.proofs.check.check_index.Goals as goal

pub returns-in-Some-clause-checked : goal.returns-in-Some-clause-checked
returns-in-Some-clause-checked c = refused c.args.index.now c.in-Some.fault (c.in-Some.ensures {u = tt})

pub returns-in-None-clause-checked : goal.returns-in-None-clause-checked
returns-in-None-clause-checked c = accepted c.args.index.now (c.in-None.ensures {u = tt})

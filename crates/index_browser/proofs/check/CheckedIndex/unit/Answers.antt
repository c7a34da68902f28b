use Rattle.index_browser.proofs.Checking.{unit_of_none}
use Rattle.index_browser.proofs.check.CheckedIndex.unit.Goals as goal

pub returns-in-None : goal.returns-in-None
returns-in-None c = unit_of_none c.args.self.now c.args.number c.in-None.ensures

use Rattle.index_browser.proofs.Checking.{address_of_none}
use Rattle.index_browser.proofs.check.CheckedIndex.address.Goals as goal

pub returns-in-None : goal.returns-in-None
returns-in-None c = address_of_none c.args.self.now c.args.number c.in-None.ensures

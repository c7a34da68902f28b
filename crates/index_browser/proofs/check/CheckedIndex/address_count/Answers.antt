use Rattle.index_browser.proofs.Checking.{addresses_of_none}
use Rattle.index_browser.proofs.check.CheckedIndex.address_count.Goals as goal

pub returns-in-None : goal.returns-in-None
returns-in-None c = addresses_of_none c.args.self.now c.in-None.ensures

use Rattle.index_browser.specs.NameList.{all_listed}
use Rattle.index_browser.proofs.NameOrders.{listed_all}
use Rattle.index_browser.proofs.check.CheckedIndex.names.Goals as goal

pub returns-clause-names : goal.returns-clause-names
returns-clause-names c = listed_all c.args.self.now (all_listed c.in_ok-entries.entries.items) c.in_ok-entries.ensures.names

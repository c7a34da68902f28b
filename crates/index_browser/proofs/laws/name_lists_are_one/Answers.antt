use Rattle.index_browser.proofs.NameOrders.{name_lists_are_one_lem}
use Rattle.index_browser.proofs.laws.name_lists_are_one.Goals as goal

pub returns : goal.returns
returns c = name_lists_are_one_lem

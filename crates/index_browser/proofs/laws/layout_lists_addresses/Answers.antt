use Rattle.index_browser.proofs.ListedAddresses.{layout_lists_addresses_lem}
use Rattle.index_browser.proofs.laws.layout_lists_addresses.Goals as goal

pub returns : goal.returns
returns c = layout_lists_addresses_lem

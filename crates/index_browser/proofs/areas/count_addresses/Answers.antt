use Rattle.index_browser.proofs.AreaLists.{addresses_counted}
use Rattle.index_browser.proofs.areas.count_addresses.Goals as goal

pub returns : goal.returns
returns c = addresses_counted c.args.index.now c.args.areas.now c.requires.format c.requires.areas

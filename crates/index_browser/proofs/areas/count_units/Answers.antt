use Rattle.index_browser.proofs.AreaLists.{units_counted}
use Rattle.index_browser.proofs.areas.count_units.Goals as goal

pub returns : goal.returns
returns c = units_counted c.args.index.now c.args.areas.now c.requires.format c.requires.areas

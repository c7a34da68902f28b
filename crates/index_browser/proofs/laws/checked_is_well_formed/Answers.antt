use Rattle.index_browser.proofs.Found.{checked_is_well_formed_lem}
use Rattle.index_browser.proofs.laws.checked_is_well_formed.Goals as goal

pub returns : goal.returns
returns c = checked_is_well_formed_lem

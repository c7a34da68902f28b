use Rattle.index_browser.proofs.LaidOut.{layout_is_checked_lem}
use Rattle.index_browser.proofs.laws.layout_is_checked.Goals as goal

pub returns : goal.returns
returns c = layout_is_checked_lem

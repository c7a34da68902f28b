use Rattle.index_browser.proofs.Checking.{checked_has_no_fault_lem}
use Rattle.index_browser.proofs.laws.checked_has_no_fault.Goals as goal

pub returns : goal.returns
returns c = checked_has_no_fault_lem

use Rattle.std.proofs.Common.{subst}
use Rattle.index_browser.specs.Checked.{IsChecked}
use Rattle.index_browser.proofs.Checking.{checked_has_no_fault_lem}
use Rattle.index_browser.proofs.check.CheckedIndex.bytes.Goals as goal

pub returns-clause-checked : goal.returns-clause-checked
returns-clause-checked c = subst IsChecked c.self.view_is ((checked_has_no_fault_lem c.self.inside.bytes.now).1 c.self.invariant)

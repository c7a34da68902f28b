use Rattle.index_browser.proofs.Walks.{TestsElements}
use Rattle.index_browser.proofs.fault.are_elements.Given as goal

abbrev pub invariant-loop-number : goal.invariant-loop-number
invariant-loop-number l = TestsElements l.vector l.units l.number

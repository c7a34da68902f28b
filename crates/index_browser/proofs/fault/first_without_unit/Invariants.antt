use Rattle.index_browser.proofs.Walks.{SearchesEntries}
use Rattle.index_browser.proofs.fault.first_without_unit.Given as goal

abbrev pub invariant-loop-number : goal.invariant-loop-number
invariant-loop-number l = SearchesEntries l.index l.areas l.units l.number

use Rattle.index_browser.specs.Fault.{slot_fault}
use Rattle.index_browser.specs.steps.Placing.{misplaced_fault_at}
use Rattle.index_browser.proofs.Walks.{TestsSlots, FindsSlots}
use Rattle.index_browser.proofs.fault.table_fault.Given as goal

abbrev pub invariant-loop-slot : goal.invariant-loop-slot
invariant-loop-slot l = record {
  stored : TestsSlots l.index (slot_fault l.units) l.slot;
  placed : FindsSlots l.index (misplaced_fault_at l.index) l.misplaced l.slot;
}

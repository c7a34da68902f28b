use Rattle.std.proofs.Common.{ℕ, ap, ◌∙◌, arith}
use Rattle.std.specs.Option.{option_or}
use Rattle.gdb_index_format.specs.Probe.{slot_count}
use Rattle.index_browser.specs.Stored.{stored_in, stored}
use Rattle.index_browser.specs.Fault.{first_found, slot_fault, stored_fault, order_fault}
use Rattle.index_browser.specs.steps.Placing.{misplaced_fault_at}
use Rattle.index_browser.proofs.Walks.{slots_begin, first_kept, first_met, first_over, found_more, found_all}
use Rattle.index_browser.proofs.fault.table_fault.Goals as goal

pub loop-slot-init : goal.loop-slot-init
loop-slot-init c = record {
  stored = slots_begin c.args.index.now (slot_fault c.args.units);
  placed = slots_begin c.args.index.now (misplaced_fault_at c.args.index.now);
}

pub loop-slot-preserved : goal.loop-slot-preserved
loop-slot-preserved c =
    let b = c.args.index.now in
    record {
      stored = first_kept (slot_fault c.args.units) (stored_in b) c.loop-slot.slot (slot_count b) _ c.loop-slot.invariant.stored (omega (arith, c.requires.parts.slots, c.loop-slot-test.true)) (c.in-Ok.ensures.fault);
      placed = found_more (misplaced_fault_at b) (stored_in b) c.loop-slot.slot (slot_count b) _ c.loop-slot.misplaced c.loop-slot.invariant.placed c.misplaced_fault-misplaced.result (omega (arith, c.requires.parts.slots, c.loop-slot-test.true)) c.misplaced_fault-misplaced.ensures;
    }

pub returns-in-Err : goal.returns-in-Err
unfolding stored_fault
returns-in-Err c =
    let b = c.args.index.now in
    ap (λ o. option_or o (order_fault b))
    (first_met (slot_fault c.args.units) (stored_in b) c.loop-slot.slot (slot_count b) _ c.loop-slot.invariant.stored c.in-Err.fault (omega (arith, c.requires.parts.slots, c.loop-slot-test.true)) (c.in-Err.ensures.fault)
    ∙ ap (λ (n : ℕ). first_found (slot_fault n) (stored b)) c.requires.units)

pub returns : goal.returns
unfolding stored_fault order_fault
returns c =
    let b = c.args.index.now in
    found_all (misplaced_fault_at b) (stored_in b) c.loop-slot.slot (slot_count b) _ c.loop-slot.misplaced c.loop-slot.invariant.placed (omega (arith, c.requires.parts.slots, c.loop-slot-test.false))
    ∙ ap (λ o. option_or o (order_fault b))
    (first_over (slot_fault c.args.units) (stored_in b) c.loop-slot.slot (slot_count b) _ c.loop-slot.invariant.stored (omega (arith, c.requires.parts.slots, c.loop-slot-test.false))
    ∙ ap (λ (n : ℕ). first_found (slot_fault n) (stored b)) c.requires.units)

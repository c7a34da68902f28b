use Rattle.std.proofs.Common.{ℕ, ◌-◌, ◌<◌}
use Rattle.gdb_index_format.specs.Slots.{slot_of}
use Rattle.gdb_index.specs.steps.FreeSlots.{IsFree}
use Rattle.gdb_index.proofs.table.insert_name.Given as goal

abbrev pub invariant-loop-step : goal.invariant-loop-step
invariant-loop-step l = record {
  within : l.step < l.slots;
  taken : (j : ℕ) → j < l.step → IsFree l.table (slot_of l.slots l.hash j) → ⊥;
}

abbrev pub decreases-loop-step : goal.decreases-loop-step
decreases-loop-step l = l.slots - l.step

use Rattle.std.proofs.Common.{ℕ, ◌+◌, ◌<◌, below_more, subst, sym}
use Rattle.std.proofs.lemmas.Bool.{iff_false}
use Rattle.gdb_index_format.specs.Slots.{slot_of}
use Rattle.gdb_index.specs.steps.FreeSlots.{IsFree}
use Rattle.gdb_index.proofs.Probes.{steps_left}
use Rattle.gdb_index.proofs.table.insert_name.Goals as goal

pub loop-step-init : goal.loop-step-init
loop-step-init c = record { within = steps_left c.args.table.now c.args.slots c.args.hash c.args.passed c.requires.room c.requires.passed; taken = c.requires.passed }

pub loop-step-preserved : goal.loop-step-preserved
loop-step-preserved c =
    let here : IsFree c.args.table.now (slot_of c.args.slots c.args.hash c.loop-step.step) → ⊥ =
    λ free. iff_false c.is_free.ensures c.loop-step-test.true (subst (λ s. IsFree c.args.table.now s) (sym c.slot_at.ensures.is) free) in
    let taken : (j : ℕ) → j < c.loop-step.step + 1 → IsFree c.args.table.now (slot_of c.args.slots c.args.hash j) → ⊥ = below_more _ _ c.loop-step.invariant.taken here in
    record { within = steps_left c.args.table.now c.args.slots c.args.hash (c.loop-step.step + 1) c.requires.room taken; taken = taken }

-- A probe meets every slot, so it meets a free one.
use Rattle.std.proofs.Common.{◌≡◌, ℕ, ◌%◌, ◌<◌, List, sym, subst, arith, inl, inr}
use Rattle.std.specs.Int.{IsPowerOfTwo}
use Rattle.std.proofs.lemmas.Bool.{cases_lt}
use Rattle.gdb_index_format.specs.Slots.{slot_of, step_size, with_lowest_bit}
use Rattle.gdb_index_format.proofs.Probing.{each_slot_once_lem}
use Rattle.gdb_index.specs.steps.FreeSlots.{IsFree, HasFreeSlot}

odd : (n : ℕ) → with_lowest_bit n % 2 ≡ 1
odd n = omega arith

pub probe_reaches : (slots hash s : ℕ) → IsPowerOfTwo slots → s < slots → (k : ℕ) × (k < slots) × (slot_of slots hash k ≡ s)
unfolding slot_of
probe_reaches slots hash s power below = (each_slot_once_lem slots hash (step_size slots hash) power (odd _)).reaches s below

pub probe_once : (slots hash j k : ℕ) → IsPowerOfTwo slots → j < slots → k < slots → slot_of slots hash j ≡ slot_of slots hash k → j ≡ k
unfolding slot_of
probe_once slots hash j k power p q same = (each_slot_once_lem slots hash (step_size slots hash) power (odd _)).once j k p q same

-- while all steps so far met taken slots, there are steps left
pub steps_left : (table : List ℕ) (slots hash step : ℕ) → HasFreeSlot table slots → ((j : ℕ) → j < step → IsFree table (slot_of slots hash j) → ⊥) → step < slots
steps_left table slots hash step room taken =
    let found = probe_reaches slots hash room.free.0 room.power_of_two room.free.1 in
    elim (cases_lt found.0 step) [
      | inl passed ↦ absurd (taken found.0 passed (subst (λ s. IsFree table s) (sym found.2) room.free.2))
      | inr ahead ↦ omega (arith, found.1)
    ]

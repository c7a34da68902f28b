-- The hash table of an index: how many slots it has, and which slot each step of a probe reads (GDB manual,
-- "Index Section Format": the symbol table is an open addressed hash table whose size is a power of two).
use Rattle.std.specs.Prelude.{◌≡◌, ℕ, zero, suc, ◌+◌, ◌*◌, ◌/◌, ◌%◌, ◌^◌, ◌<◌, ◌≤◌}
use Rattle.std.specs.Int.{IsPowerOfTwo}

-- the least power of two that is not below n
pub record IsLeastPower (n power : ℕ) : Type 0 where
  pub power_of_two : IsPowerOfTwo power
  pub not_below : n ≤ power
  pub least : (k : ℕ) → n ≤ 2 ^ k → power ≤ 2 ^ k

-- so many slots for so many names
abbrev pub IsSlotCount : ℕ → ℕ → Type 0
IsSlotCount zero slots = slots ≡ 0
IsSlotCount (suc names) slots = IsLeastPower (4 * suc names / 3 + 1) slots

-- a number with its lowest bit set
abbrev pub with_lowest_bit : ℕ → ℕ
with_lowest_bit n = n / 2 * 2 + 1

-- how many slots one step of a probe moves on (GDB manual: the step size)
abbrev pub step_size : ℕ → ℕ → ℕ
step_size slots hash = with_lowest_bit (hash * 17 % 4294967296 % slots)

-- the slot of step k, from 0
unfoldable pub slot_of : ℕ → ℕ → ℕ → ℕ
slot_of slots hash k = (hash + k * step_size slots hash) % slots

-- the steps of a probe reach each slot below m, and each at one step only
pub record ReachesEachOnce (m h t : ℕ) : Type 0 where
  pub reaches : (s : ℕ) → s < m → (k : ℕ) × (k < m) × ((h + k * t) % m ≡ s)
  pub once : (j k : ℕ) → j < m → k < m → (h + j * t) % m ≡ (h + k * t) % m → j ≡ k

abbrev pub EachSlotOnce : Type 0
EachSlotOnce = (m h t : ℕ) → IsPowerOfTwo m → t % 2 ≡ 1 → ReachesEachOnce m h t

-- Private steps: only private contracts cite this module.
-- The slots of the symbol hash table while it is filled.
use Rattle.std.specs.Prelude.{◌≡◌, ℕ, ◌+◌, ◌*◌, ◌<◌, List, ◌++◌, length, take, drop, replicate}
use Rattle.std.specs.Int.{IsPowerOfTwo}
use Rattle.elf_format.specs.Bytes.{u32_at}
use Rattle.gdb_index_format.specs.Slots.{slot_of}
use Rattle.gdb_index.specs.Table.{Slot, slot_bytes}

-- the bytes of a table of free slots
abbrev pub zero_table : ℕ → List ℕ
zero_table slots = replicate (8 * slots) 0

-- whether a slot is free, by the bytes of its table
abbrev pub IsFree : List ℕ → ℕ → Type 0
IsFree table s = (u32_at table (8 * s) ≡ 0) × (u32_at table (8 * s + 4) ≡ 0)

-- the bytes of a table with one slot written
abbrev pub with_slot : List ℕ → ℕ → Slot → List ℕ
with_slot table s slot = take (8 * s) table ++ slot_bytes slot ++ drop (8 * s + 8) table

-- a table of so many slots that has a free one
pub record HasFreeSlot (table : List ℕ) (slots : ℕ) : Type 0 where
  pub power_of_two : IsPowerOfTwo slots
  pub len : length table ≡ 8 * slots
  pub free : (s : ℕ) × (s < slots) × IsFree table s

-- step k is the first of a probe that meets a free slot
pub record IsFirstFree (table : List ℕ) (slots hash k : ℕ) : Type 0 where
  pub below : k < slots
  pub free : IsFree table (slot_of slots hash k)
  pub first : (j : ℕ) → j < k → IsFree table (slot_of slots hash j) → ⊥

-- what a slot is to hold stands in the first free slot of its probe, and every other slot is as before
pub record Inserts (old new : List ℕ) (slots hash : ℕ) (slot : Slot) : Type 0 where
  pub step : ℕ
  pub first : IsFirstFree old slots hash step
  pub puts : new ≡ with_slot old (slot_of slots hash step) slot

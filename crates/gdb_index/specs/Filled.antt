-- A symbol hash table in which the first names of a list stand.
use Rattle.std.specs.Prelude.{◌≡◌, ℕ, ◌<◌, List, length, take, slice_index, slice_index_or}
use Rattle.std.specs.List.{Contains}
use Rattle.gdb_index_format.specs.Hash.{name_hash}
use Rattle.gdb_index_format.specs.Slots.{slot_of}
use Rattle.gdb_index_format.specs.Named.{Named}
use Rattle.gdb_index.specs.Table.{Slot, free_slot}
use Rattle.gdb_index.specs.Pool.{vector_offset, name_offset}

-- s is the first slot of a probe that is not among the used ones
pub record IsFirstUnused (slots : ℕ) (used : List ℕ) (hash s : ℕ) : Type 0 where
  pub step : ℕ
  pub below : step < slots
  pub is : slot_of slots hash step ≡ s
  pub unused : Contains used s → ⊥
  pub others : (j : ℕ) → j < step → Contains used (slot_of slots hash j)

-- what is put for name i
abbrev pub slot_for : List Named → ℕ → Slot
slot_for ns i = record { name = name_offset ns i; vector = vector_offset ns i }

-- Name i stands in the first slot of its probe that no earlier name holds, for each i below n, and every
-- other slot is free.
pub record IsFilledTo (table : List Slot) (slots : ℕ) (ns : List Named) (n : ℕ) : Type 0 where
  pub used_slots : List ℕ
  pub count : length used_slots ≡ n
  pub len : length table ≡ slots
  pub placed : (i : ℕ) (d : Named) → i < n → IsFirstUnused slots (take i used_slots) (name_hash (slice_index_or ns i d).name) (slice_index used_slots i)
  pub stands : (i : ℕ) → i < n → slice_index_or table (slice_index used_slots i) free_slot ≡ slot_for ns i
  pub free : (s : ℕ) → s < slots → (Contains used_slots s → ⊥) → slice_index_or table s free_slot ≡ free_slot

-- all names stand in the table
abbrev pub IsFilled : List Slot → ℕ → List Named → Type 0
IsFilled table slots ns = IsFilledTo table slots ns (length ns)

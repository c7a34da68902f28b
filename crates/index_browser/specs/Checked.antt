-- The indexes that can be browsed.
use Rattle.std.specs.Prelude.{◌≡◌, ◌≢◌, ◌⊎◌, ℕ, ◌-◌, ◌*◌, ◌/◌, ◌%◌, ◌^◌, ◌<◌, ◌≤◌, List, [], length, Some, None, Ok}
use Rattle.std.specs.List.{All}
use Rattle.elf_format.specs.Bytes.{u32_at}
use Rattle.gdb_index_format.specs.Version.{header_len}
use Rattle.gdb_index_format.specs.Probe.{index_fault, probe}
use Rattle.index_browser.specs.Areas.{index_addresses, unit_count}
use Rattle.index_browser.specs.Stored.{StoredSlot, stored, last_slot}

-- an element of a CU vector in an index of so many units: its reserved bits 24 to 27 are zero
pub record IsElement (units element : ℕ) : Type 0 where
  pub reserved : element / 2 ^ 24 % 16 ≡ 0
  pub unit : element % 2 ^ 24 < units

-- a taken slot: its name has an end, its CU vector has elements, and the probe for its name ends at it
pub record IsWellStored (b : List ℕ) (e : StoredSlot) : Type 0 where
  pub name : List ℕ
  pub elements : List ℕ
  pub named : e.name ≡ Some name
  pub vector : e.vector ≡ Ok (Some elements)
  pub some : elements ≢ []
  pub well_formed : All (IsElement (unit_count b)) elements
  pub found_here : last_slot b name ≡ e.slot

-- An index with a header: probes can be made, the types CU list is empty, the CU list and the address area are whole
-- entries, each address entry names a unit, and each taken slot is well formed and found where it stands.
pub record PassesTests (b : List ℕ) : Type 0 where
  pub long : header_len (u32_at b 0) ≤ length b
  pub format : index_fault b ≡ None
  pub no_types : u32_at b 8 ≡ u32_at b 12
  pub whole_units : (u32_at b 8 - u32_at b 4) % 16 ≡ 0
  pub whole_addresses : (u32_at b 16 - u32_at b 12) % 20 ≡ 0
  pub units_exist : All (λ a. a.unit < unit_count b) (index_addresses b)
  pub slots : All (IsWellStored b) (stored b)

-- An index that can be browsed. One without a unit may have no bytes.
abbrev pub IsChecked : List ℕ → Type 0
IsChecked b = (b ≡ []) ⊎ PassesTests b

-- A name that a probe finds in an index that can be browsed, with its CU vector: no zero byte stands in the name, and the
-- vector has elements, each well formed.
pub record IsFoundName (b name elements : List ℕ) : Type 0 where
  pub no_zero : All (λ c. c ≢ 0) name
  pub some : elements ≢ []
  pub well_formed : All (IsElement (unit_count b)) elements

-- what holds of an index that can be browsed
pub record IsWellFormedIndex (b : List ℕ) : Type 0 where
  pub units_within : 16 * unit_count b ≤ length b
  pub addresses_within : 20 * length (index_addresses b) ≤ length b
  pub units_exist : All (λ a. a.unit < unit_count b) (index_addresses b)
  pub found : (name elements : List ℕ) → (probe b name).answer ≡ Ok (Some elements) → IsFoundName b name elements

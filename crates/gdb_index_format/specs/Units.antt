-- The compilation units (CUs) of `.debug_info` (DWARF 5, 7.4 "32-Bit and 64-Bit DWARF Formats" and 7.5.1 "Unit Headers"),
-- and those that an index lists (GDB manual, "Index Section Format": the CU list).
use Rattle.std.specs.Prelude.{◌≡◌, ℕ, ◌+◌, ◌<◌, ◌≤◌, ◌==◌, ◌≢◌, ◌⊎◌, ◌||◌, ◌&&◌, Bool, Option, position, nat_le, not, List, [], map, length, take, nat_lt, slice_index_or, slice_range, if◌then◌else◌}
use Rattle.std.specs.List.{All, sum_by}
use Rattle.elf_format.specs.Bytes.{u32_at, u64_at, whole_records}
use Rattle.gdb_index_format.specs.declared.unit.CuBoundary.{CuBoundary}
use Rattle.gdb_index_format.specs.declared.unit.UnitFault.{UnitFault}
use Rattle.gdb_index_format.specs.declared.unit.UnitFault.TheVariants.{Truncated, InvalidLength}
use Rattle.gdb_index_format.specs.Version.{is_known, header_len}

-- The length in bytes of the compilation unit (CU) at an offset, its initial length included: four bytes of length,
-- or 0xffffffff and eight bytes of length. No other length is an escape here.
unfoldable pub unit_length : List ℕ → ℕ → ℕ
unit_length b at = if u32_at b at == 0xffffffff then 12 + u64_at b (at + 4) else 4 + u32_at b at

abbrev pub total_length : List CuBoundary → ℕ
total_length us = sum_by (λ u. u.length) us

-- The units tile the bytes from the first on: each begins where those before it end, and has the
-- length that its first bytes say.
pub record IsUnitFront (b : List ℕ) (us : List CuBoundary) : Type 0 where
  pub offsets : (k : ℕ) (d : CuBoundary) → k < length us → (slice_index_or us k d).offset ≡ total_length (take k us)
  pub lengths : All (λ u. u.length ≡ unit_length b u.offset) us
  pub within : total_length us ≤ length b

-- They tile all of the bytes, up to a rest of fewer than four.
pub record IsUnitList (b : List ℕ) (us : List CuBoundary) : Type 0 where
  pub front : IsUnitFront b us
  pub rest : length b < total_length us + 4

-- why no unit begins at an offset that four bytes follow
abbrev pub IsFault : List ℕ → ℕ → UnitFault → Type 0
IsFault b at Truncated = (u32_at b at ≡ 0xffffffff) × (length b < at + 12)
IsFault b at InvalidLength = ((u32_at b at ≢ 0xffffffff) ⊎ (at + 12 ≤ length b)) × (length b < at + unit_length b at)

-- The units tile the bytes up to an offset where none begins.
pub record FailsAt (b : List ℕ) (at : ℕ) (fault : UnitFault) : Type 0 where
  pub units : List CuBoundary
  pub front : IsUnitFront b units
  pub ends : total_length units ≡ at
  pub room : at + 4 ≤ length b
  pub cause : IsFault b at fault

-- Bytes have one list of units, or fail at one offset by one cause.
pub record UnitsAreOne : Type 0 where
  pub one_list : (b : List ℕ) (us vs : List CuBoundary) → IsUnitList b us → IsUnitList b vs → us ≡ vs
  pub no_list : (b : List ℕ) (us : List CuBoundary) (at : ℕ) (fault : UnitFault) → IsUnitList b us → FailsAt b at fault → ⊥
  pub one_offset : (b : List ℕ) (p q : ℕ) (e f : UnitFault) → FailsAt b p e → FailsAt b q f → p ≡ q
  pub one_cause : (b : List ℕ) (p q : ℕ) (e f : UnitFault) → FailsAt b p e → FailsAt b q f → e ≡ f

-- whether an offset lies in a unit
abbrev pub holds_offset : ℕ → CuBoundary → Bool
holds_offset offset u = nat_le u.offset offset && nat_lt offset (u.offset + u.length)

-- the index of the unit that holds an offset
abbrev pub unit_holding : List CuBoundary → ℕ → Option ℕ
unit_holding us offset = position (holds_offset offset) us

-- a unit as an index lists it: its offset and its length, of eight bytes each
abbrev pub unit_in : List ℕ → CuBoundary
unit_in pair = record { offset = u64_at pair 0; length = u64_at pair 8 }

-- The units that an index lists, between its first and its second offset: none where the version is
-- unknown, or the bytes are shorter than its header.
unfoldable pub index_units : List ℕ → List CuBoundary
index_units b =
    if not (is_known (u32_at b 0)) || nat_lt (length b) (header_len (u32_at b 0)) then []
    else map unit_in (whole_records 16 (slice_range b (u32_at b 4) (u32_at b 8)))

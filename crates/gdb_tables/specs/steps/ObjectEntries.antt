-- Private steps: only private contracts cite this module.
-- The entries of the address area of one object.
use Rattle.std.specs.Prelude.{◌≡◌, ℕ, ◌+◌, ◌^◌, ◌<◌, nat_eq, nat_lt, Bool, ◌&&◌, if◌then◌else◌, List, [], map, Option, Some, unwrap_or}
use Rattle.std.specs.List.{filter}
use Rattle.std.specs.HashMap.{HashMap, get}
use Rattle.elf_format.specs.declared.error.ElfError.{ElfError}
use Rattle.elf_format.specs.Class.{Class}
use Rattle.elf_view.specs.Parsed.{Parsed}
use Rattle.gdb_index_format.specs.declared.placement.Placement.{Placement}
use Rattle.gdb_index_format.specs.declared.placement.AddressEntry.{AddressEntry}
use Rattle.gdb_index_format.specs.declared.unit.CuBoundary.{CuBoundary}
use Rattle.gdb_index_format.specs.Objects.{IsUnitsOf}
use Rattle.gdb_index_format.specs.Placed.{has_unit, is_counted}
use Rattle.gdb_index_format.specs.Units.{total_length}
use Rattle.gdb_scan.specs.Moved.{moved}
use Rattle.gdb_index_format.specs.Addresses.{unit_of_section}
use Rattle.gdb_scan.specs.declared.map_error.MapError.{MapError}
use Rattle.gdb_scan.specs.declared.map_error.MapError.TheVariants.{Elf}
use Rattle.gdb_scan.specs.declared.map_error.MapError.TheVariants as maps
use Rattle.gdb_scan.specs.declared.error.GdbError.{GdbError}
use Rattle.gdb_scan.specs.declared.error.GdbError.TheVariants.{BadElf, CompressedSection, BadUnit, BadPubnames, TooManyUnits, IndexTooLarge, NoMemory}

-- the entry of a placement, by the index of its object's first unit and the units of the object's sections
abbrev pub entry_at : ℕ → (ℕ → ℕ) → Placement → AddressEntry
entry_at first units p = record { low = p.address; high = p.address + p.size; unit = first + units p.section }

-- the unit that a map assigns to a section: the object's first unit where it assigns none
abbrev pub unit_mapped : {S : Type 0} → HashMap ℕ ℕ S → ℕ → ℕ
unit_mapped map section = unwrap_or (get nat_eq map section) 0

-- whether a placement of an object with a unit has an entry
abbrev pub has_entry : Class → List ℕ → Placement → Bool
has_entry c file p = is_counted c file p && nat_lt 0 p.address

-- the entries of placements of an object with a unit
abbrev pub entries_at : Class → List ℕ → ℕ → (ℕ → ℕ) → List Placement → List AddressEntry
entries_at c file first units ps = map (entry_at first units) (filter (has_entry c file) ps)

-- the same of an object with these units
abbrev pub entries_of : Class → Parsed → ℕ → List CuBoundary → List Placement → List AddressEntry
entries_of c file first us ps = if has_unit us then entries_at c file.bytes first (unit_of_section c file.is_dynamic file.bytes us) ps else []

abbrev pub of_map_error : ℕ → MapError → GdbError
of_map_error object (Elf e) = BadElf object e
of_map_error object maps.NoMemory = NoMemory

-- why the entries of an object are not made: its relocations have this fault. `NoMemory` needs no cause
abbrev pub IsEntriesCause : ℕ → Option ElfError → GdbError → Type 0
IsEntriesCause object fault (BadElf i e) = (i ≡ object) × (fault ≡ Some e)
IsEntriesCause object fault (CompressedSection i s) = ⊥
IsEntriesCause object fault (BadUnit i offset kind) = ⊥
IsEntriesCause object fault (BadPubnames i s) = ⊥
IsEntriesCause object fault (TooManyUnits n) = ⊥
IsEntriesCause object fault (IndexTooLarge n) = ⊥
IsEntriesCause object fault NoMemory = Unit {0}

-- The units of an object as the index lists them: the object's own units, whose offsets are all greater by so many bytes.
pub record AreListedUnits (c : Class) (file : List ℕ) (listed : List CuBoundary) : Type 0 where
  pub own : List CuBoundary
  pub base : ℕ
  pub held : IsUnitsOf c file own
  pub listed_are : listed ≡ moved base own
  pub fit : base + total_length own < 2 ^ 64

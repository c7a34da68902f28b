-- The entries of the address area (GDB manual, "Index Section Format"), and the first object whose relocations are not
-- read.
use Rattle.std.specs.Prelude.{◌≡◌, ℕ, ◌+◌, nat_lt, List, [], ◌∷◌, length, map, take, slice_get, Option, Some, None, option_map}
use Rattle.std.specs.List.{filter}
use Rattle.std.specs.Option.{option_or}
use Rattle.elf_format.specs.declared.error.ElfError.{ElfError}
use Rattle.elf_view.specs.Parsed.{Parsed}
use Rattle.gdb_index.specs.Scan.{Scan}
use Rattle.gdb_index_format.specs.declared.placement.Placement.{Placement}
use Rattle.gdb_index_format.specs.declared.placement.AddressEntry.{AddressEntry}
use Rattle.gdb_index_format.specs.declared.unit.CuBoundary.{CuBoundary}
use Rattle.gdb_index_format.specs.Published.{units_in_lists, units_of_lists}
use Rattle.gdb_index_format.specs.Objects.{class_in}
use Rattle.gdb_index_format.specs.Placed.{placed}
use Rattle.gdb_index_format.specs.Addresses.{unit_of_section, unit_relocation_fault}
use Rattle.gdb_scan.specs.declared.error.GdbError.{GdbError}
use Rattle.gdb_scan.specs.declared.error.GdbError.TheVariants.{BadElf, CompressedSection, BadUnit, BadPubnames, TooManyUnits, IndexTooLarge, NoMemory}
use Rattle.gdb_tables.specs.Files.{file_bytes}

-- What the address area needs of a scan: the units of all objects, how many each object has, and how many placements
-- count.
pub record IsScanOfUnits (uss : List (List CuBoundary)) (count : ℕ) (scan : Scan) : Type 0 where
  pub units : scan.units ≡ units_of_lists uss
  pub counts : scan.unit_counts ≡ map (λ us. length us) uss
  pub placed : scan.placed ≡ count

-- the index of a section's unit among the units of its object
abbrev pub unit_in_object : Option Parsed → Option (List CuBoundary) → ℕ → ℕ
unit_in_object None us section = 0
unit_in_object (Some file) None section = 0
unit_in_object (Some file) (Some us) section = unit_of_section (class_in file.bytes) file.is_dynamic file.bytes us section

-- the index of a placed section's unit among the units of all objects
abbrev pub unit_index : List Parsed → List (List CuBoundary) → Placement → ℕ
unit_index files uss p = length (units_in_lists (take p.object uss)) + unit_in_object (slice_get files p.object) (slice_get uss p.object) p.section

-- the addresses from the first to one past the last, with their unit
abbrev pub address_entry : List Parsed → List (List CuBoundary) → Placement → AddressEntry
address_entry files uss p = record { low = p.address; high = p.address + p.size; unit = unit_index files uss p }

-- one for each placement that counts and has an address, in the order of the placements
abbrev pub addresses : List Parsed → List (List CuBoundary) → List Placement → List AddressEntry
addresses files uss ps = map (address_entry files uss) (filter (λ p. nat_lt 0 p.address) (placed (file_bytes files) uss ps))

-- of some objects, of which the first has the index `object`: the first with two units or more whose relocations have a
-- fault, and the fault
abbrev pub fault_from : ℕ → List Parsed → List (List CuBoundary) → Option (ℕ × ElfError)
fault_from object [] uss = None
fault_from object (file ∷ files) [] = None
fault_from object (file ∷ files) (us ∷ uss) = option_or (option_map (λ e. (object, e)) (unit_relocation_fault (class_in file.bytes) file.is_dynamic file.bytes us)) (fault_from (object + 1) files uss)

abbrev pub first_relocation_fault : List Parsed → List (List CuBoundary) → Option (ℕ × ElfError)
first_relocation_fault files uss = fault_from 0 files uss

-- why the entries of all objects are not made: this is the first object whose relocations have a fault. `NoMemory` needs
-- no cause
abbrev pub IsAddressCause : Option (ℕ × ElfError) → GdbError → Type 0
IsAddressCause fault (BadElf i e) = fault ≡ Some (i, e)
IsAddressCause fault (CompressedSection i s) = ⊥
IsAddressCause fault (BadUnit i offset kind) = ⊥
IsAddressCause fault (BadPubnames i s) = ⊥
IsAddressCause fault (TooManyUnits n) = ⊥
IsAddressCause fault (IndexTooLarge n) = ⊥
IsAddressCause fault NoMemory = Unit {0}

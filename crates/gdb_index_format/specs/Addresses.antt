-- Which unit a placed section belongs to, for the address area (GDB manual, "Index Section Format"): the one that the
-- relocations of its object's `.debug_info` tell (gABI, Relocation), and where they tell none the object's first.
use Rattle.std.specs.Prelude.{ℕ, zero, suc, Bool, true, false, ◌&&◌, ◌==◌, nat_lt, if◌then◌else◌, List, [], length, slice_get, codes, Option, Some, None, is_some, option_and_then, unwrap_or, find, Result, Ok, Err}
use Rattle.std.specs.List.{list_any}
use Rattle.elf_format.specs.declared.error.ElfError.{ElfError}
use Rattle.elf_format.specs.declared.error.ElfError.TheVariants.{SectionData, RelocationTable, SymbolIndex}
use Rattle.elf_format.specs.declared.crel.Crel.{Crel}
use Rattle.elf_format.specs.Bytes.{get}
use Rattle.elf_format.specs.Class.{Class, sh_type}
use Rattle.elf_format.specs.Rela.{rela_list}
use Rattle.elf_format.specs.SectionType.{sht_rela}
use Rattle.elf_format.specs.Section.{sections, section_bytes, section_of_name}
use Rattle.elf_format.specs.Symbol.{SymbolSection, no_section, in_section, missing, symbols, section_of_symbol}
use Rattle.gdb_index_format.specs.declared.unit.CuBoundary.{CuBoundary}
use Rattle.gdb_index_format.specs.Units.{unit_holding}

-- the header of the section that holds the relocations of an object's units: the first of its name
abbrev pub relocation_header : Class → List ℕ → Option (List ℕ)
relocation_header c file = option_and_then (slice_get (sections c file)) (section_of_name c file (codes ".rela.debug_info"))

-- its bytes are out of range, or are no whole records, or are these records
abbrev pub whole_or_not : Option (List Crel) → Result (List Crel) ElfError
whole_or_not None = Err RelocationTable
whole_or_not (Some records) = Ok records

abbrev pub records_or_not : Class → Option (List ℕ) → Result (List Crel) ElfError
records_or_not c None = Err SectionData
records_or_not c (Some bytes) = whole_or_not (rela_list c bytes)

abbrev pub records_in : Class → List ℕ → Option (List ℕ) → Result (List Crel) ElfError
records_in c file None = Ok []
records_in c file (Some header) = if get (sh_type c) header == sht_rela then records_or_not c (section_bytes c file header) else Ok []

-- the relocations of an object's units: none where it has no section of that name, or one of another type than that
-- of RELA records
unfoldable pub unit_relocations : Class → List ℕ → Result (List Crel) ElfError
unit_relocations c file = records_in c file (relocation_header c file)

-- where the symbol of a relocation stands: symbol 0 is none
abbrev pub section_by_symbol : Class → Bool → List ℕ → ℕ → Option (List ℕ) → SymbolSection
section_by_symbol c is_dynamic file index None = missing
section_by_symbol c is_dynamic file index (Some symbol) = section_of_symbol c is_dynamic file symbol index

abbrev pub section_of_relocation : Class → Bool → List ℕ → ℕ → SymbolSection
section_of_relocation c is_dynamic file zero = no_section
section_of_relocation c is_dynamic file (suc index) = section_by_symbol c is_dynamic file (suc index) (slice_get (symbols c is_dynamic file) (suc index))

abbrev pub is_missing : SymbolSection → Bool
is_missing no_section = false
is_missing (in_section index) = false
is_missing missing = true

abbrev pub is_in : ℕ → SymbolSection → Bool
is_in section no_section = false
is_in section (in_section index) = index == section
is_in section missing = false

-- what is wrong with the relocations of an object's units: they are not read, or a symbol of one, or the section
-- index of that symbol, is not there
abbrev pub fault_in : Class → Bool → List ℕ → Result (List Crel) ElfError → Option ElfError
fault_in c is_dynamic file (Err e) = Some e
fault_in c is_dynamic file (Ok records) = if list_any (λ r. is_missing (section_of_relocation c is_dynamic file r.symbol)) records then Some SymbolIndex else None

unfoldable pub relocation_fault : Class → Bool → List ℕ → Option ElfError
relocation_fault c is_dynamic file = fault_in c is_dynamic file (unit_relocations c file)

-- whether a relocation assigns the unit of a section: it lies in a unit, and its symbol stands in the section
abbrev pub assigns : Class → Bool → List ℕ → List CuBoundary → ℕ → Crel → Bool
assigns c is_dynamic file us section r = is_in section (section_of_relocation c is_dynamic file r.symbol) && is_some (unit_holding us r.offset)

-- the unit of a section, by its index among the units of its object: that of the first relocation that assigns it
abbrev pub assigned_unit : Class → Bool → List ℕ → List CuBoundary → ℕ → Result (List Crel) ElfError → Option ℕ
assigned_unit c is_dynamic file us section (Err e) = None
assigned_unit c is_dynamic file us section (Ok records) = option_and_then (λ r. unit_holding us r.offset) (find (assigns c is_dynamic file us section) records)

unfoldable pub section_unit : Class → Bool → List ℕ → List CuBoundary → ℕ → Option ℕ
section_unit c is_dynamic file us section = assigned_unit c is_dynamic file us section (unit_relocations c file)

-- where the object has one unit, no relocation is looked at
abbrev pub unit_of_section : Class → Bool → List ℕ → List CuBoundary → ℕ → ℕ
unit_of_section c is_dynamic file us section = if nat_lt 1 (length us) then unwrap_or (section_unit c is_dynamic file us section) 0 else 0

-- The relocations of an object's units are read where it has two units or more: what is then wrong with them.
abbrev pub unit_relocation_fault : Class → Bool → List ℕ → List CuBoundary → Option ElfError
unit_relocation_fault c is_dynamic file us = if nat_lt 1 (length us) then relocation_fault c is_dynamic file else None

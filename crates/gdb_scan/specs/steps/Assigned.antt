-- The unit that relocations assign to a section, one relocation after another. Only private contracts cite this.
use Rattle.std.specs.Prelude.{ℕ, ◌+◌, ◌==◌, Bool, if◌then◌else◌, List, [], ◌∷◌, Option, Some, None, Result, Ok, Err}
use Rattle.std.specs.Option.{option_or}
use Rattle.elf_format.specs.declared.crel.Crel.{Crel}
use Rattle.elf_format.specs.declared.error.ElfError.{ElfError}
use Rattle.elf_format.specs.Class.{Class}
use Rattle.elf_format.specs.Symbol.{SymbolSection, no_section, in_section, missing}
use Rattle.gdb_index_format.specs.declared.unit.CuBoundary.{CuBoundary}
use Rattle.gdb_index_format.specs.Units.{unit_holding}
use Rattle.gdb_index_format.specs.Addresses.{section_of_relocation, is_missing}

-- without a list there are no relocations
abbrev pub as_relocations : Result (Option (List Crel)) ElfError → Result (List Crel) ElfError
as_relocations (Err e) = Err e
as_relocations (Ok None) = Ok []
as_relocations (Ok (Some records)) = Ok records

-- the unit that holds an offset counted from a base, where the relocation's symbol is defined in the section
abbrev pub assigned_at : List CuBoundary → ℕ → ℕ → ℕ → ℕ → Option ℕ
assigned_at us base offset found section = if found == section then unit_holding us (base + offset) else None

abbrev pub assigned_by_symbol : List CuBoundary → ℕ → ℕ → SymbolSection → ℕ → Option ℕ
assigned_by_symbol us base offset no_section section = None
assigned_by_symbol us base offset (in_section found) section = assigned_at us base offset found section
assigned_by_symbol us base offset missing section = None

-- the unit that a relocation assigns to a section
abbrev pub assigned_by : Class → Bool → List ℕ → List CuBoundary → ℕ → Crel → ℕ → Option ℕ
assigned_by c is_dynamic file us base r section = assigned_by_symbol us base r.offset (section_of_relocation c is_dynamic file r.symbol) section

-- the first that some relocations assign to it
abbrev pub assigned_in : Class → Bool → List ℕ → List CuBoundary → ℕ → List Crel → ℕ → Option ℕ
assigned_in c is_dynamic file us base [] section = None
assigned_in c is_dynamic file us base (r ∷ rs) section = option_or (assigned_by c is_dynamic file us base r section) (assigned_in c is_dynamic file us base rs section)

-- whether the symbol of a relocation, or the section index of it, is missing
abbrev pub lacks_symbol : Class → Bool → List ℕ → Crel → Bool
lacks_symbol c is_dynamic file r = is_missing (section_of_relocation c is_dynamic file r.symbol)

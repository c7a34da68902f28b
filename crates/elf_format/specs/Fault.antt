-- The fault of a file: the first rule that its bytes break.
use Rattle.std.specs.Prelude.{ℕ, ◌+◌, ◌*◌, Bool, not, ◌&&◌, ◌||◌, ◌==◌, nat_le, if◌then◌else◌, List, [], ◌∷◌, ◌++◌, length, take, slice_index, Option, Some, None, is_some}
use Rattle.std.specs.List.{list_all}
use Rattle.std.specs.Str.{bytes_eq}
use Rattle.elf_format.specs.declared.error.ElfError.{ElfError}
use Rattle.elf_format.specs.declared.error.ElfError.TheVariants.{Header, Machine, SectionTable, SymbolTable, VersionTable}
use Rattle.elf_format.specs.Architecture.{architecture_of}
use Rattle.elf_format.specs.Bytes.{get}
use Rattle.elf_format.specs.Class.{Class, class32, class64, class_byte, file_header_size, e_machine, e_shentsize, e_shnum, section_header_size}
use Rattle.elf_format.specs.FileHeader.{elf_magic, elfdata2lsb, ev_current, elfclass32, elfclass64}
use Rattle.elf_format.specs.Section.{file_header, table_offset, has_first_header, section_count, name_table, sections}
use Rattle.elf_format.specs.Symbol.{is_well_formed_symbol_table, is_well_formed_index_table}
use Rattle.elf_format.specs.Version.{is_well_formed_version_section}

-- the first seven bytes: the magic, the class, little endian, and the current version
abbrev pub identification : Class → List ℕ
identification c = elf_magic ++ class_byte c ∷ elfdata2lsb ∷ ev_current ∷ []

-- a whole header of the class
unfoldable pub has_header : Class → List ℕ → Bool
has_header c file = nat_le (file_header_size c) (length file) && bytes_eq (take 7 file) (identification c)

-- one of the machines whose objects are read
unfoldable pub has_machine : Class → List ℕ → Bool
has_machine c file = is_some (architecture_of (get (e_machine c) (file_header c file)))

-- no section headers, or a table of them that is in the file
unfoldable pub has_section_headers : Class → List ℕ → Bool
has_section_headers c file =
    table_offset c file == 0
    || get (e_shentsize c) (file_header c file) == section_header_size c
    && (not (get (e_shnum c) (file_header c file) == 0) || has_first_header c file)
    && nat_le (table_offset c file + section_header_size c * section_count c file) (length file)

-- no sections, or the section that holds their names is in the file
abbrev pub has_section_names : Class → List ℕ → Bool
has_section_names c file = section_count c file == 0 || is_some (name_table c file)

-- each symbol table, and each table of section indexes of symbols, is well formed
unfoldable pub has_symbols : Class → Bool → List ℕ → Bool
has_symbols c is_dynamic file =
    list_all (λ header. is_well_formed_symbol_table c is_dynamic file header && is_well_formed_index_table c is_dynamic file header) (sections c file)

-- each section of versions is well formed
unfoldable pub has_versions : Class → List ℕ → Bool
has_versions c file = list_all (is_well_formed_version_section c file) (sections c file)

-- the first rule that a file of the class breaks
unfoldable pub fault : Class → Bool → List ℕ → Option ElfError
fault c is_dynamic file =
    if not (has_header c file) then Some Header
    else if not (has_machine c file) then Some Machine
    else if not (has_section_headers c file && has_section_names c file) then Some SectionTable
    else if not (has_symbols c is_dynamic file) then Some SymbolTable
    else if not (has_versions c file) then Some VersionTable
    else None

-- the class that a file names
abbrev pub class_of : List ℕ → Option Class
class_of file = if slice_index file 4 == elfclass32 then Some class32 else if slice_index file 4 == elfclass64 then Some class64 else None

-- the first rule that a file of either class breaks
abbrev pub any_fault : Bool → List ℕ → Option ElfError
any_fault is_dynamic file = fault_in (class_of file) where
  fault_in : Option Class → Option ElfError
  fault_in None = Some Header
  fault_in (Some c) = fault c is_dynamic file

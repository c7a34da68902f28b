-- The sections of a file that hold relocations (gABI, Relocation; CREL as LLVM defines it), by the section that
-- they apply to, and the list that such a section holds.
use Rattle.std.specs.Prelude.{ℕ, Bool, true, not, ◌&&◌, ◌||◌, ◌==◌, nat_lt, if◌then◌else◌, List, [], length, slice_get, Option, Some, None, option_and_then, position, Result, Ok, Err}
use Rattle.std.specs.Option.{option_flatten}
use Rattle.std.specs.List.{list_all}
use Rattle.elf_format.specs.declared.error.ElfError.{ElfError}
use Rattle.elf_format.specs.declared.error.ElfError.TheVariants.{SectionData, RelocationTable}
use Rattle.elf_format.specs.declared.crel.Crel.{Crel}
use Rattle.elf_format.specs.declared.crel.CrelError.{CrelError}
use Rattle.elf_format.specs.Bytes.{get}
use Rattle.elf_format.specs.Class.{Class, sh_type, sh_link, sh_info}
use Rattle.elf_format.specs.Section.{sections, section_bytes}
use Rattle.elf_format.specs.Symbol.{symbol_table}
use Rattle.elf_format.specs.Rela.{rela_list}
use Rattle.elf_format.specs.SectionType.{sht_rela, sht_rel, sht_crel}
use Rattle.elf_format.specs.Crel.{Listing, listing}
use Rattle.elf_relocs.specs.Lists.{rela_listing}

-- whether a section holds relocations and is linked to the symbol table at an index
abbrev pub relocates : Class → ℕ → List ℕ → Bool
relocates c table header =
    (get (sh_type c) header == sht_rela || get (sh_type c) header == sht_rel || get (sh_type c) header == sht_crel)
    && get (sh_link c) header == table

-- whether it does, and applies to a section, which is not the null section
abbrev pub relocates_section : Class → ℕ → ℕ → List ℕ → Bool
relocates_section c table target header = relocates c table header && (nat_lt 0 target && get (sh_info c) header == target)

-- the first section that holds the relocations of a section: none where the file has no symbol table
unfoldable pub relocation_section : Class → Bool → List ℕ → ℕ → Option ℕ
relocation_section c is_dynamic file target =
    option_and_then (λ table. position (relocates_section c table.0 target) (sections c file)) (symbol_table c is_dynamic file)

-- a section that holds relocations applies to a section of the file
abbrev pub has_target : Class → ℕ → ℕ → List ℕ → Bool
has_target c table count header = not (relocates c table header) || nat_lt (get (sh_info c) header) count

-- each section that holds relocations and is linked to the symbol table at an index applies to a section
unfoldable pub all_have_targets : Class → List ℕ → ℕ → Bool
all_have_targets c file table = list_all (has_target c table (length (sections c file))) (sections c file)

-- each section that holds relocations and is linked to the file's symbol table applies to a section
unfoldable pub has_targets : Class → Bool → List ℕ → Bool
has_targets c is_dynamic file = targets_of (symbol_table c is_dynamic file) where
  targets_of : Option (ℕ × List ℕ) → Bool
  targets_of None = true
  targets_of (Some table) = all_have_targets c file table.0

-- the entry of a section in the table of relocation sections, none past its end
abbrev pub relocation_entry : List (Option ℕ) → ℕ → Option ℕ
relocation_entry entries target = option_flatten (slice_get entries target)

-- RELA records: the bytes have to be whole ones
abbrev pub listed_rela : Option (List Crel) → Result Listing ElfError
listed_rela None = Err RelocationTable
listed_rela (Some relocations) = Ok (rela_listing relocations)

-- a list in CREL: its header has to be well formed, and a malformed record is an item
abbrev pub listed_crel : Result Listing CrelError → Result Listing ElfError
listed_crel (Err e) = Err RelocationTable
listed_crel (Ok list) = Ok list

-- no relocations
abbrev pub listed_none : Result Listing ElfError
listed_none = Ok (record { count = 0; items = [] })

-- the list in a section's bytes, which have to be within the file
abbrev pub of_bytes : (List ℕ → Result Listing ElfError) → Option (List ℕ) → Result Listing ElfError
of_bytes read None = Err SectionData
of_bytes read (Some bytes) = read bytes

-- the list in a section: none where its type is neither RELA nor CREL
unfoldable pub listed_in : Class → List ℕ → List ℕ → Result Listing ElfError
listed_in c file header =
    if get (sh_type c) header == sht_rela then of_bytes (λ bytes. listed_rela (rela_list c bytes)) (section_bytes c file header)
    else if get (sh_type c) header == sht_crel then of_bytes (λ bytes. listed_crel (listing bytes)) (section_bytes c file header)
    else listed_none

-- the list in the section with a header, if it exists
abbrev pub listed_at : Class → List ℕ → Option (List ℕ) → Result Listing ElfError
listed_at c file None = Err RelocationTable
listed_at c file (Some header) = listed_in c file header

-- the list of a section, by the index of the section that holds it, if any
abbrev pub listed_by : Class → List ℕ → Option ℕ → Result Listing ElfError
listed_by c file None = listed_none
listed_by c file (Some index) = listed_at c file (slice_get (sections c file) index)

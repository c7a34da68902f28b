-- The section groups of a file (gABI, Section Groups): a section of type SHT_GROUP holds a word of flags, then the
-- indexes of its members.
use Rattle.std.specs.Prelude.{ℕ, Bool, false, not, ◌||◌, ◌==◌, nat_lt, if◌then◌else◌, List, [], ◌∷◌, map, slice_get, Option, Some, None, is_none, option_and_then, Result, Ok, Err}
use Rattle.std.specs.List.{enumerate_from, filter}
use Rattle.elf_format.specs.Bytes.{get, is_whole, le, whole_records}
use Rattle.elf_format.specs.Chain.{◌>>=◌, each_ok}
use Rattle.elf_format.specs.Class.{Class, sh_type, sh_flags, sh_link, sh_info}
use Rattle.elf_format.specs.Flags.{has_flag, shf_group}
use Rattle.elf_format.specs.Section.{sections, section_bytes}
use Rattle.elf_format.specs.SectionType.{sht_group}
use Rattle.elf_format.specs.Symbol.{symbol_table, symbols, symbol_name}

-- the flags of a group of which one definition is kept (COMDAT)
abbrev pub grp_comdat : ℕ
grp_comdat = 1

-- a group: the index of its section, that of the symbol whose name is its signature, and its members
pub record Group : Type 0 where
  pub index : ℕ
  pub signature_symbol : ℕ
  pub is_comdat : Bool
  pub members : List ℕ

-- what is wrong with a group, by the index of its section
pub data GroupFault : Type 0 where
  other_symbol_table : ℕ → GroupFault
  bad_signature : ℕ → GroupFault
  bad_bytes : GroupFault
  empty_group : ℕ → GroupFault
  unsupported_flags : ℕ → ℕ → GroupFault
  invalid_member : ℕ → ℕ → GroupFault
  member_lacks_flag : ℕ → ℕ → GroupFault

-- whether the symbol table is the section at an index
abbrev pub is_table_at : ℕ → Option (ℕ × List ℕ) → Bool
is_table_at index None = false
is_table_at index (Some table) = index == table.0

-- the name of the symbol at an index, which is the signature of a group
abbrev pub signature : Class → Bool → List ℕ → ℕ → Option (List ℕ)
signature c is_dynamic file symbol = option_and_then (symbol_name c is_dynamic file) (slice_get (symbols c is_dynamic file) symbol)

-- the words in a section's bytes, which are whole
abbrev pub group_words : Option (List ℕ) → Option (List ℕ)
group_words None = None
group_words (Some bytes) = if is_whole 4 bytes then Some (map (λ word. le word 0 4) (whole_records 4 bytes)) else None

-- a member by its header: a section that exists and is no group, with the flag SHF_GROUP
abbrev pub member_with : Class → ℕ → ℕ → Option (List ℕ) → Result ℕ GroupFault
member_with c group member None = Err (invalid_member group member)
member_with c group member (Some header) =
    if get (sh_type c) header == sht_group then Err (invalid_member group member)
    else if has_flag (get (sh_flags c) header) shf_group then Ok member
    else Err (member_lacks_flag group member)

-- a member by its index, which is neither 0 nor that of the group
abbrev pub member_of : Class → List ℕ → ℕ → ℕ → Result ℕ GroupFault
member_of c file group member =
    if member == 0 || member == group then Err (invalid_member group member)
    else member_with c group member (slice_get (sections c file) member)

-- a group by its words
abbrev pub group_of_words : Class → List ℕ → ℕ → ℕ → Option (List ℕ) → Result Group GroupFault
group_of_words c file group symbol None = Err bad_bytes
group_of_words c file group symbol (Some []) = Err (empty_group group)
group_of_words c file group symbol (Some (flags ∷ members)) =
    if nat_lt grp_comdat flags then Err (unsupported_flags group flags)
    else each_ok (member_of c file group) members >>= (λ found. Ok (record { index = group; signature_symbol = symbol; is_comdat = flags == grp_comdat; members = found }))

-- the group in the section with an index and a header
unfoldable pub section_group : Class → Bool → List ℕ → ℕ × List ℕ → Result Group GroupFault
section_group c is_dynamic file section =
    if not (is_table_at (get (sh_link c) section.1) (symbol_table c is_dynamic file)) then Err (other_symbol_table section.0)
    else if is_none (signature c is_dynamic file (get (sh_info c) section.1)) then Err (bad_signature section.0)
    else group_of_words c file section.0 (get (sh_info c) section.1) (group_words (section_bytes c file section.1))

-- the sections of type SHT_GROUP, each by its index and header
abbrev pub group_sections : Class → List ℕ → List (ℕ × List ℕ)
group_sections c file = filter (λ s. get (sh_type c) s.1 == sht_group) (enumerate_from 0 (sections c file))

-- all groups, in the order of their sections
unfoldable pub groups : Class → Bool → List ℕ → Result (List Group) GroupFault
groups c is_dynamic file = each_ok (section_group c is_dynamic file) (group_sections c file)

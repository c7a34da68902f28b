-- The dynamic section of a file (gABI, Dynamic Section): the first section of type SHT_DYNAMIC. Its entries are all those
-- that it holds, also after a null tag. Their strings are those that the symbol table is linked to.
use Rattle.std.specs.Prelude.{ℕ, ◌^◌, ◌%◌, Bool, true, false, not, ◌||◌, ◌&&◌, ◌==◌, nat_lt, if◌then◌else◌, List, [], Option, Some, None, option_map, option_and_then}
use Rattle.std.specs.List.{find, list_all}
use Rattle.elf_format.specs.Bytes.{get, is_whole, string_at, whole_records}
use Rattle.elf_format.specs.Class.{Class, sh_type, dyn_size, d_tag, d_value}
use Rattle.elf_format.specs.Section.{sections, section_bytes}
use Rattle.elf_format.specs.SectionType.{sht_dynamic}
use Rattle.elf_format.specs.Symbol.{last_that}

-- the tag of an entry that names a needed library
abbrev pub dt_needed : ℕ
dt_needed = 1

-- the tag of an entry that names the library itself
abbrev pub dt_soname : ℕ
dt_soname = 14

-- the tag of an entry that has the number of version definitions
abbrev pub dt_verdefnum : ℕ
dt_verdefnum = 0x6ffffffd

-- the entries in a section's bytes, which are whole
abbrev pub dynamic_entries_in : Class → Option (List ℕ) → Option (List (List ℕ))
dynamic_entries_in c None = None
dynamic_entries_in c (Some bytes) = if is_whole (dyn_size c) bytes then Some (whole_records (dyn_size c) bytes) else None

-- the entries of a dynamic section, none without one
abbrev pub dynamic_entries_of : Class → List ℕ → Option (List ℕ) → Option (List (List ℕ))
dynamic_entries_of c file None = Some []
dynamic_entries_of c file (Some header) = dynamic_entries_in c (section_bytes c file header)

-- the entries of a file, or None where they are malformed
unfoldable pub dynamic_entries : Class → List ℕ → Option (List (List ℕ))
dynamic_entries c file = dynamic_entries_of c file (find (λ header. get (sh_type c) header == sht_dynamic) (sections c file))

-- the value of the last entry with a tag
abbrev pub last_value : Class → ℕ → List (List ℕ) → Option ℕ
last_value c tag entries = option_map (get (d_value c)) (last_that (λ entry. get (d_tag c) entry == tag) entries)

-- the library's own name: the string at the low 32 bits of the value
unfoldable pub own_name : Class → List ℕ → List (List ℕ) → Option (List ℕ)
own_name c strings entries = option_and_then (λ value. string_at strings (value % 2 ^ 32)) (last_value c dt_soname entries)

-- whether a name is found in a list by a test
abbrev pub is_known_library : (List ℕ → Bool) → Option (List ℕ) → Bool
is_known_library contains None = false
is_known_library contains (Some name) = contains name

-- whether an entry does not name a needed library, or one that is known
abbrev pub is_met : Class → List ℕ → (List ℕ → Bool) → List ℕ → Bool
is_met c strings contains entry =
    not (get (d_tag c) entry == dt_needed)
    || nat_lt (get (d_value c) entry) (2 ^ 32) && is_known_library contains (string_at strings (get (d_value c) entry))

-- whether each needed library is known, by a test of its name; also where the entries are malformed
abbrev pub are_met : Class → List ℕ → (List ℕ → Bool) → Option (List (List ℕ)) → Bool
are_met c strings contains None = true
are_met c strings contains (Some entries) = list_all (is_met c strings contains) entries

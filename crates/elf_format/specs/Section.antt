-- The sections of a file (gABI, Sections): the section header table, the bytes and the names.
use Rattle.std.specs.Prelude.{ℕ, ◌+◌, Bool, false, ◌||◌, ◌==◌, nat_le, if◌then◌else◌, List, [], length, drop, slice_get, Option, Some, None, option_and_then, position}
use Rattle.std.specs.Str.{bytes_eq}
use Rattle.elf_format.specs.Bytes.{get, bytes_at, string_at, records}
use Rattle.elf_format.specs.Class.{Class, file_header_size, e_shoff, e_shnum, e_shstrndx, section_header_size, sh_name, sh_type, sh_offset, sh_size, sh_link}
use Rattle.elf_format.specs.SectionType.{sht_nobits}
use Rattle.elf_format.specs.SectionIndex.{shn_xindex}

-- the bytes of the file header
abbrev pub file_header : Class → List ℕ → List ℕ
file_header c file = bytes_at file 0 (file_header_size c)

-- the offset of the section header table, 0 where there is none
abbrev pub table_offset : Class → List ℕ → ℕ
table_offset c file = get (e_shoff c) (file_header c file)

-- the bytes of the first section header
abbrev pub first_header : Class → List ℕ → List ℕ
first_header c file = bytes_at file (table_offset c file) (section_header_size c)

abbrev pub has_first_header : Class → List ℕ → Bool
has_first_header c file = nat_le (table_offset c file + section_header_size c) (length file)

-- the number of sections. A number that does not fit e_shnum is sh_size of section 0
unfoldable pub section_count : Class → List ℕ → ℕ
section_count c file =
    if table_offset c file == 0 then 0
    else if get (e_shnum c) (file_header c file) == 0 then get (sh_size c) (first_header c file)
    else get (e_shnum c) (file_header c file)

-- the index of the section that holds the section names, 0 for none. An index that does not fit e_shstrndx is
-- sh_link of section 0
unfoldable pub name_table_index : Class → List ℕ → ℕ
name_table_index c file =
    if get (e_shstrndx c) (file_header c file) == shn_xindex then get (sh_link c) (first_header c file)
    else get (e_shstrndx c) (file_header c file)

-- the section headers, each by its bytes
unfoldable pub sections : Class → List ℕ → List (List ℕ)
sections c file = records (section_header_size c) (section_count c file) (drop (table_offset c file) file)

-- the bytes of a section: none for a section that takes no room in the file
unfoldable pub section_bytes : Class → List ℕ → List ℕ → Option (List ℕ)
section_bytes c file header =
    if get (sh_type c) header == sht_nobits || get (sh_size c) header == 0 then Some []
    else if nat_le (get (sh_offset c) header + get (sh_size c) header) (length file) then
    Some (bytes_at file (get (sh_offset c) header) (get (sh_size c) header))
    else None

-- the bytes of the section that holds the section names, where they are in the file. Empty where the index is 0
unfoldable pub name_table : Class → List ℕ → Option (List ℕ)
name_table c file =
    if name_table_index c file == 0 then Some []
    else option_and_then (section_bytes c file) (slice_get (sections c file) (name_table_index c file))

-- the name of a section, where it is readable
unfoldable pub section_name : Class → List ℕ → List ℕ → Option (List ℕ)
section_name c file header = option_and_then (λ names. string_at names (get (sh_name c) header)) (name_table c file)

-- whether a name is readable and equals another
abbrev pub is_name : List ℕ → Option (List ℕ) → Bool
is_name name None = false
is_name name (Some found) = bytes_eq found name

-- the index of the first section of a name
unfoldable pub section_of_name : Class → List ℕ → List ℕ → Option ℕ
section_of_name c file name = position (λ header. is_name name (section_name c file header)) (sections c file)

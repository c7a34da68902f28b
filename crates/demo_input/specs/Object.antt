-- The object with a number below 1000: of ELFCLASS64 (System V gABI), with one compilation unit (DWARF 5, 7.5.1), which publishes `n` with
-- the three digits of the number, and `common` (GDB manual, "Index Section Format").
use Rattle.std.specs.Prelude.{ℕ, ◌+◌, ◌*◌, ◌/◌, ◌%◌, ◌==◌, if◌then◌else◌, List, [], ◌∷◌, ◌++◌, replicate, codes}
use Rattle.elf_format.specs.Example.{bytes_of_number, unit, object_of, section_of}
use Rattle.elf_format.specs.Flags.{shf_alloc, shf_execinstr}
use Rattle.elf_format.specs.SectionType.{sht_progbits, sht_strtab}
use Rattle.gdb_index_format.specs.declared.placement.Placement.{Placement}
use Rattle.gdb_index_format.specs.Hash.{element_of}
use Rattle.gdb_index_format.specs.Published.{Object, Pair}

-- a function that other units see, and one of the unit's own (GDB manual: symbol kind 3, and the static bit)
abbrev pub global_function : ℕ
global_function = 0x30

abbrev pub static_function : ℕ
static_function = 0xb0

-- `n` with three characters
abbrev pub name_of_digits : ℕ → ℕ → ℕ → List ℕ
name_of_digits hundreds tens ones = 0x6e ∷ hundreds ∷ tens ∷ ones ∷ []

-- an entry of a set: an offset in the unit, the flag byte, and the name with a zero byte after it
abbrev pub entry_bytes : ℕ → List ℕ → List ℕ
entry_bytes flag name = bytes_of_number 4 42 ++ (flag ∷ (name ++ 0 ∷ []))

-- The bytes of the set: its length, version 2, the offset and the length of the unit, two entries, and an offset of 0.
abbrev pub set_with : ℕ → ℕ → ℕ → ℕ → List ℕ
set_with hundreds tens ones flag =
    bytes_of_number 4 36 ++ bytes_of_number 2 2 ++ bytes_of_number 4 0 ++ bytes_of_number 4 12
    ++ entry_bytes global_function (name_of_digits hundreds tens ones) ++ entry_bytes flag (codes "common") ++ bytes_of_number 4 0

-- an object that publishes `n` with three characters, and `common` with a flag
unfoldable pub object_with : ℕ → ℕ → ℕ → ℕ → List ℕ
object_with hundreds tens ones flag = object_of unit (set_with hundreds tens ones flag)

-- the character of the last decimal digit
abbrev pub last_digit : ℕ → ℕ
last_digit n = 48 + n % 10

-- the name of the object with a number: `n` with its three last digits
abbrev pub numbered_name : ℕ → List ℕ
numbered_name number = name_of_digits (last_digit (number / 100)) (last_digit (number / 10)) (last_digit number)

-- the flag of `common`: it is static in each object with an odd number
unfoldable pub common_flag : ℕ → ℕ
common_flag number = if number % 2 == 0 then global_function else static_function

-- the set of the object with a number
unfoldable pub numbered_set : ℕ → List ℕ
numbered_set number = set_with (last_digit (number / 100)) (last_digit (number / 10)) (last_digit number) (common_flag number)

-- the section headers of each object: none, units, the set, code, and section names
abbrev pub section_headers : List ℕ
section_headers =
    replicate 64 0 ++ section_of 1 sht_progbits 0 64 12 ++ section_of 13 sht_progbits 0 76 40 ++ section_of 33 sht_progbits (shf_alloc + shf_execinstr) 116 16 ++ section_of 39 sht_strtab 0 132 49

-- the object with a number
unfoldable pub numbered_object : ℕ → List ℕ
numbered_object number = object_with (last_digit (number / 100)) (last_digit (number / 10)) (last_digit number) (common_flag number)

-- where its code, section 3, is placed
abbrev pub numbered_placement : ℕ → Placement
numbered_placement number = record { object = number; section = 3; address = 4096 + 16 * number; size = 16 }

-- what an object with three such characters and this flag holds: a unit of 12 bytes, and the set of its two names
abbrev pub holding_with : ℕ → ℕ → ℕ → ℕ → Object
holding_with hundreds tens ones flag = record {
  units = record { offset = 0; length = 12 } ∷ [];
  sets = record { unit = 0; entries = record { name = name_of_digits hundreds tens ones; flag = global_function } ∷ record { name = codes "common"; flag = flag } ∷ [] } ∷ [];
}

-- the names of the object with a number, each with its element, where the object's unit has this number among all units
abbrev pub numbered_pairs : ℕ → List Pair
numbered_pairs number =
    record { name = numbered_name number; word = element_of number global_function } ∷ record { name = codes "common"; word = element_of number (common_flag number) } ∷ []

-- what the object with a number holds
abbrev pub numbered_holding : ℕ → Object
numbered_holding number = holding_with (last_digit (number / 100)) (last_digit (number / 10)) (last_digit number) (common_flag number)

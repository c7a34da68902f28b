-- Small symbol table entries.
use Rattle.std.specs.Prelude.{ℕ, List, [], ◌∷◌, ◌++◌}
use Rattle.elf_format.specs.Example.{bytes_of_number}

-- an entry of ELFCLASS64, without a name
abbrev pub symbol_entry : ℕ → ℕ → ℕ → ℕ → List ℕ
symbol_entry info shndx value size = bytes_of_number 4 0 ++ (info ∷ 0 ∷ []) ++ bytes_of_number 2 shndx ++ bytes_of_number 8 value ++ bytes_of_number 8 size

-- a global function in section 3
abbrev pub function_entry : List ℕ
function_entry = symbol_entry 0x12 3 0 16

-- a common block of 13 bytes with alignment 8, and one with alignment 12
abbrev pub common_entry : List ℕ
common_entry = symbol_entry 0x11 0xfff2 8 13

abbrev pub misaligned_entry : List ℕ
misaligned_entry = symbol_entry 0x11 0xfff2 12 13

-- a weak undefined symbol, an entry of ELFCLASS32
abbrev pub undefined_entry : List ℕ
undefined_entry = bytes_of_number 4 1 ++ bytes_of_number 4 0 ++ bytes_of_number 4 0 ++ (0x20 ∷ 0 ∷ []) ++ bytes_of_number 2 0

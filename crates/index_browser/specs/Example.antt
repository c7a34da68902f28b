-- A small index with some of its bytes changed.
use Rattle.std.specs.Prelude.{ℕ, ◌+◌, List, ◌++◌, length, take, drop}
use Rattle.elf_format.specs.Example.{bytes_of_number}
use Rattle.gdb_index_format.specs.Example.{index_of_main}

-- the index of one name with other bytes from an offset on
abbrev pub main_with : ℕ → List ℕ → List ℕ
main_with at bytes = take at index_of_main ++ bytes ++ drop (at + length bytes) index_of_main

-- the index of one name with other numbers of four bytes from an offset on
abbrev pub main_with_number : ℕ → ℕ → List ℕ
main_with_number at number = main_with at (bytes_of_number 4 number)

-- A section of two functions of 16 bytes, for examples.
use Rattle.std.specs.Prelude.{ℕ, List, [], ◌∷◌, ◌++◌}
use Rattle.elf_format.specs.Example.{bytes_of_number}

-- an FDE with this start value and row offset, and one FRE
abbrev pub small_fde : ℕ → ℕ → List ℕ
small_fde start offset = bytes_of_number 4 start ++ bytes_of_number 4 16 ++ bytes_of_number 4 offset ++ bytes_of_number 4 1 ++ bytes_of_number 4 0

-- functions with these start values; the second has this row offset
abbrev pub two_functions : ℕ → ℕ → ℕ → ℕ → List ℕ
two_functions flags first second offset =
    (0xe2 ∷ 0xde ∷ 2 ∷ flags ∷ 3 ∷ 0 ∷ 0xf8 ∷ 0 ∷ []) ++ bytes_of_number 4 2 ++ bytes_of_number 4 2 ++ bytes_of_number 4 6 ++ bytes_of_number 4 0 ++ bytes_of_number 4 40
    ++ small_fde first 0
    ++ small_fde second offset
    ++ (0xb1 ∷ 0xb2 ∷ 0xb3 ∷ 0xa1 ∷ 0xa2 ∷ 0xa3 ∷ [])

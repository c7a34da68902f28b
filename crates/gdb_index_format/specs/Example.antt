-- Small indexes, units and sets, to try the definitions on.
use Rattle.std.specs.Prelude.{ℕ, List, [], ◌∷◌, ◌++◌, replicate}
use Rattle.elf_format.specs.Example.{bytes_of_number}

-- an index of one unit of twelve bytes, which publishes `main`
abbrev pub index_of_main : List ℕ
index_of_main =
    bytes_of_number 4 9 ++ bytes_of_number 4 28 ++ bytes_of_number 4 44 ++ bytes_of_number 4 44 ++ bytes_of_number 4 44 ++ bytes_of_number 4 60 ++ bytes_of_number 4 68
    ++ bytes_of_number 8 0 ++ bytes_of_number 8 12
    ++ bytes_of_number 4 0 ++ bytes_of_number 4 0 ++ bytes_of_number 4 8 ++ bytes_of_number 4 0
    ++ replicate 8 0
    ++ bytes_of_number 4 1 ++ bytes_of_number 4 0x30000000
    ++ 0x6d ∷ 0x61 ∷ 0x69 ∷ 0x6e ∷ 0 ∷ []

-- the same index in version 8
abbrev pub index_of_main_8 : List ℕ
index_of_main_8 =
    bytes_of_number 4 8 ++ bytes_of_number 4 24 ++ bytes_of_number 4 40 ++ bytes_of_number 4 40 ++ bytes_of_number 4 40 ++ bytes_of_number 4 56
    ++ bytes_of_number 8 0 ++ bytes_of_number 8 12
    ++ bytes_of_number 4 0 ++ bytes_of_number 4 0 ++ bytes_of_number 4 8 ++ bytes_of_number 4 0
    ++ bytes_of_number 4 1 ++ bytes_of_number 4 0x30000000
    ++ 0x6d ∷ 0x61 ∷ 0x69 ∷ 0x6e ∷ 0 ∷ []

-- an index of the same unit, which publishes `main` and `MAIN`: their hashes are equal
abbrev pub index_of_two : List ℕ
index_of_two =
    bytes_of_number 4 9 ++ bytes_of_number 4 28 ++ bytes_of_number 4 44 ++ bytes_of_number 4 44 ++ bytes_of_number 4 44 ++ bytes_of_number 4 76 ++ bytes_of_number 4 84
    ++ bytes_of_number 8 0 ++ bytes_of_number 8 12
    ++ replicate 8 0 ++ bytes_of_number 4 16 ++ bytes_of_number 4 0 ++ bytes_of_number 4 21 ++ bytes_of_number 4 8 ++ replicate 8 0
    ++ replicate 8 0
    ++ bytes_of_number 4 1 ++ bytes_of_number 4 0x30000000 ++ bytes_of_number 4 1 ++ bytes_of_number 4 0x30000000
    ++ 0x6d ∷ 0x61 ∷ 0x69 ∷ 0x6e ∷ 0 ∷ 0x4d ∷ 0x41 ∷ 0x49 ∷ 0x4e ∷ 0 ∷ []

-- the header of an index: its version and its six offsets
abbrev pub index_header : ℕ → ℕ → ℕ → ℕ → ℕ → ℕ → ℕ → List ℕ
index_header version units types addresses symbols shortcuts pool =
    bytes_of_number 4 version ++ bytes_of_number 4 units ++ bytes_of_number 4 types ++ bytes_of_number 4 addresses ++ bytes_of_number 4 symbols ++ bytes_of_number 4 shortcuts ++ bytes_of_number 4 pool

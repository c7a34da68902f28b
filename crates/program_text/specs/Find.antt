-- What the arguments of `find` ask for, and the text of its result: `find INDEX NAMEHEX`. Indexes of arguments count from 0.
use Rattle.std.specs.Prelude.{ℕ, List, [], ◌∷◌, map, Result, Ok, Err}
use Rattle.hex.specs.declared.error.FromHexError.{FromHexError}
use Rattle.hex.specs.Hex.{decode_of}
use Rattle.program_text.specs.declared.find.FindCommand.{FindCommand}
use Rattle.program_text.specs.Lines.{text_of}
use Rattle.program_text.specs.Report.{word_digits}

-- the command `find`: the file of an index, and the bytes of a name
pub record Find : Type 0 where
  pub index : List ℕ
  pub name : List ℕ

-- a name, where its digits are such, and what follows it: an argument too many is wrong
abbrev pub with_name : List ℕ → Result (List ℕ) FromHexError → List (List ℕ) → Result Find ℕ
with_name index (Err error) arguments = Err 2
with_name index (Ok name) [] = Ok (record { index = index; name = name })
with_name index (Ok name) (word ∷ arguments) = Err 3

-- the arguments after `find`: the name is an even number of hexadecimal digits of either case, also none
abbrev pub after_find : List (List ℕ) → Result Find ℕ
after_find [] = Err 1
after_find (index ∷ []) = Err 2
after_find (index ∷ (digits ∷ arguments)) = with_name index (decode_of digits) arguments

-- the bytes of digits, which are such
abbrev pub decoded_name : Result (List ℕ) FromHexError → List ℕ
decoded_name (Ok name) = name
decoded_name (Err error) = []

-- a command as it was read
abbrev pub find_of : FindCommand → Find
find_of command = record { index = command.index.now; name = decoded_name (decode_of command.name.now) }

-- the text of a CU vector that was found: each element on a line of its own
abbrev pub found_of : List ℕ → List ℕ
found_of elements = text_of (map word_digits elements)

-- What the arguments of `frame` ask for, and the text of its result: `frame SFRAME BASE ADDRESS`. Indexes of arguments count from 0.
use Rattle.std.specs.Prelude.{ℕ, ℤ, Bool, true, false, List, [], ◌∷◌, ◌++◌, codes, decimal, Option, Some, None, Result, Ok, Err}
use Rattle.std.specs.Fmt.{signed_decimal}
use Rattle.program_text.specs.declared.frame.FrameCommand.{FrameCommand}
use Rattle.program_text.specs.Lines.{text_of}
use Rattle.program_text.specs.Number.{number_of}

-- the command `frame`: the file of an SFrame section, the address of its first byte, and the address whose function is wanted
pub record FrameQuery : Type 0 where
  pub sframe : List ℕ
  pub base : ℕ
  pub address : ℕ

-- an address, where it is a number, and what follows it: an argument too many is wrong
abbrev pub with_address : List ℕ → ℕ → Option ℕ → List (List ℕ) → Result FrameQuery ℕ
with_address sframe base None arguments = Err 3
with_address sframe base (Some address) [] = Ok (record { sframe = sframe; base = base; address = address })
with_address sframe base (Some address) (word ∷ arguments) = Err 4

-- a base, where it is a number, and what follows it
abbrev pub with_base : List ℕ → Option ℕ → List (List ℕ) → Result FrameQuery ℕ
with_base sframe None arguments = Err 2
with_base sframe (Some base) [] = Err 3
with_base sframe (Some base) (address ∷ arguments) = with_address sframe base (number_of address) arguments

-- the arguments after `frame`
abbrev pub after_frame : List (List ℕ) → Result FrameQuery ℕ
after_frame [] = Err 1
after_frame (sframe ∷ []) = Err 2
after_frame (sframe ∷ (base ∷ arguments)) = with_base sframe (number_of base) arguments

-- a command as it was read
abbrev pub frame_query_of : FrameCommand → FrameQuery
frame_query_of command = record { sframe = command.sframe.now; base = command.base; address = command.address }

-- where an address lies: in the range of a function, or past its end
abbrev pub side_of : Bool → List ℕ
side_of true = codes "inside"
side_of false = codes "past"

-- the text of a function that was found: its index, its address, its size in bytes, and where the address that was asked for lies
abbrev pub located_of : ℕ → ℤ → ℕ → Bool → List ℕ
located_of index address size inside =
    text_of ((codes "function " ++ decimal index ++ codes " " ++ signed_decimal address ++ codes " " ++ decimal size ++ codes " " ++ side_of inside) ∷ [])

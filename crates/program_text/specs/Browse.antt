-- What the arguments of `browse` ask for, and the text of its result: `browse INDEX [PREFIXHEX]`. Indexes of arguments count from 0.
use Rattle.std.specs.Prelude.{ℕ, List, [], ◌∷◌, ◌++◌, length, map, codes, Option, Some, None, Result, Ok, Err}
use Rattle.std.specs.Borrow.{Bor}
use Rattle.hex.specs.declared.error.FromHexError.{FromHexError}
use Rattle.hex.specs.Hex.{decode_of}
use Rattle.gdb_index_format.specs.declared.placement.AddressEntry.{AddressEntry}
use Rattle.gdb_index_format.specs.declared.unit.CuBoundary.{CuBoundary}
use Rattle.gdb_index_format.specs.Named.{Named}
use Rattle.program_text.specs.declared.browse.BrowseCommand.{BrowseCommand}
use Rattle.program_text.specs.Find.{decoded_name}
use Rattle.program_text.specs.Lines.{text_of}
use Rattle.program_text.specs.Report.{fields, unit_lines, named_line}

-- the command `browse`: the file of an index, and the bytes that the listed names begin with
pub record Browse : Type 0 where
  pub index : List ℕ
  pub prefix : List ℕ

-- a prefix, where its digits are such, and what follows it: an argument too many is wrong
abbrev pub with_prefix : List ℕ → Result (List ℕ) FromHexError → List (List ℕ) → Result Browse ℕ
with_prefix index (Err error) arguments = Err 2
with_prefix index (Ok prefix) [] = Ok (record { index = index; prefix = prefix })
with_prefix index (Ok prefix) (word ∷ arguments) = Err 3

-- the arguments after `browse`: the prefix is empty where it is left out, else an even number of hexadecimal digits of either case
abbrev pub after_browse : List (List ℕ) → Result Browse ℕ
after_browse [] = Err 1
after_browse (index ∷ []) = Ok (record { index = index; prefix = [] })
after_browse (index ∷ (digits ∷ arguments)) = with_prefix index (decode_of digits) arguments

-- the bytes of the digits of a prefix, where it is there
abbrev pub prefix_in : Option (Bor (List ℕ)) → List ℕ
prefix_in None = []
prefix_in (Some digits) = decoded_name (decode_of digits.now)

-- a command as it was read
abbrev pub browse_of : BrowseCommand → Browse
browse_of command = record { index = command.index.now; prefix = prefix_in command.prefix }

-- the line of an address entry
abbrev pub address_line : AddressEntry → List ℕ
address_line entry = fields (codes "address") (entry.low ∷ entry.high ∷ entry.unit ∷ [])

-- the lines of what an index lists, before its names: its units, its address entries, and the number of names
abbrev pub listing_start_lines : List CuBoundary → List AddressEntry → ℕ → List (List ℕ)
listing_start_lines units addresses count =
    (fields (codes "units") (length units ∷ []) ∷ unit_lines 0 units)
    ++ (fields (codes "addresses") (length addresses ∷ []) ∷ map address_line addresses)
    ++ fields (codes "names") (count ∷ []) ∷ []

-- the text of what an index lists: its units, its address entries, and names with their CU vectors
abbrev pub listed_text : List CuBoundary → List AddressEntry → List Named → List ℕ
listed_text units addresses names = text_of (listing_start_lines units addresses (length names)) ++ text_of (map named_line names)

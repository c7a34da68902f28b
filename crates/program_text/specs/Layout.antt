-- The entries of a layout: a text of lines, numbered from 1. An empty line and a line that begins with `#` have no entry; the others are
-- `place OBJECT SECTION ADDRESS SIZE`, `range START STOP` or `base ADDRESS`, and at most one of them is a base.
use Rattle.std.specs.Prelude.{◌≡◌, ℕ, ◌+◌, ◌==◌, ◌||◌, Bool, true, false, List, [], ◌∷◌, map, codes, if◌then◌else◌, is_some, Option, Some, None, Result, Ok, Err, ⊤}
use Rattle.std.specs.Option.{option_or, unwrap_or}
use Rattle.std.specs.List.{flat_map}
use Rattle.gdb_index_format.specs.declared.placement.Placement.{Placement}
use Rattle.elf_format.specs.declared.index.Span.{Span}
use Rattle.program_text.specs.declared.line.Line.{Line}
use Rattle.program_text.specs.declared.line.Line.TheVariants.{Skipped, Place, Range, Base, Wrong}
use Rattle.program_text.specs.declared.layout.LayoutError.{LayoutError}
use Rattle.program_text.specs.declared.layout.LayoutError.TheVariants.{BadLine, NoMemory}
use Rattle.program_text.specs.Arguments.{is_word}
use Rattle.program_text.specs.Lines.{lines_of, line_words, words_after}
use Rattle.program_text.specs.Number.{number_of}

-- where sections were put, the ranges of the SFrame bytes, and the address of the first of these bytes
pub record LayoutEntries : Type 0 where
  pub placements : List Placement
  pub ranges : List Span
  pub base : ℕ

-- the numbers that the words after a word write
abbrev pub numbers_after : Option (List ℕ) → List (Option ℕ)
numbers_after rest = map number_of (words_after rest)

-- the first of some words' numbers
abbrev pub first_number : List (Option ℕ) → Option ℕ
first_number [] = None
first_number (number ∷ numbers) = number

-- the numbers after `place`: object, section, address and size
abbrev pub place_line : List (Option ℕ) → Line
place_line (Some object ∷ Some section ∷ Some address ∷ Some size ∷ []) =
    Place (record { object = object; section = section; address = address; size = size })
place_line _ = Wrong

-- the numbers after `range`: start and stop
abbrev pub range_of : List (Option ℕ) → Line
range_of (Some start ∷ Some stop ∷ []) = Range (record { start = start; stop = stop })
range_of _ = Wrong

-- the number after `base`
abbrev pub base_of : List (Option ℕ) → Line
base_of (Some address ∷ []) = Base address
base_of _ = Wrong

-- the entry of a keyword and the numbers after it
abbrev pub entry_of : List ℕ → List (Option ℕ) → Line
entry_of keyword numbers =
    if is_word keyword (codes "place") then place_line numbers
    else if is_word keyword (codes "range") then range_of numbers
    else if is_word keyword (codes "base") then base_of numbers
    else Wrong

-- the entry of the words of a line
abbrev pub words_say : List (List ℕ) → Line
words_say [] = Wrong
words_say (keyword ∷ words) = entry_of keyword (map number_of words)

-- the entry of the bytes of a line
abbrev pub line_of : List ℕ → Line
line_of [] = Skipped
line_of (byte ∷ bytes) = if byte == 35 then Skipped else words_say (line_words (byte ∷ bytes))

-- the placements, the ranges and the base of one line
abbrev pub placements_in : Line → List Placement
placements_in (Place placement) = placement ∷ []
placements_in _ = []

abbrev pub ranges_in : Line → List Span
ranges_in (Range range) = range ∷ []
ranges_in _ = []

abbrev pub base_in : Line → Option ℕ
base_in (Base address) = Some address
base_in _ = None

-- whether a line is wrong, where a line before it is a base or none is
abbrev pub is_wrong : Bool → Line → Bool
is_wrong based Wrong = true
is_wrong based (Base address) = based
is_wrong based _ = false

-- the number of the first wrong line, where the first of these lines has this number
abbrev pub first_wrong : Bool → ℕ → List Line → Option ℕ
first_wrong based number [] = None
first_wrong based number (line ∷ lines) = if is_wrong based line then Some number else first_wrong (based || is_some (base_in line)) (number + 1) lines

-- the base of the first line with one
abbrev pub first_base : List Line → Option ℕ
first_base [] = None
first_base (line ∷ lines) = option_or (base_in line) (first_base lines)

-- the entries of lines, none of which is wrong, in their order: the base is 0 where no line is one
abbrev pub said_by : List Line → LayoutEntries
said_by lines = record { placements = flat_map placements_in lines; ranges = flat_map ranges_in lines; base = unwrap_or (first_base lines) 0 }

-- the entries of lines, or the number of the first wrong one
abbrev pub said_or_wrong : List Line → Option ℕ → Result LayoutEntries ℕ
said_or_wrong lines None = Ok (said_by lines)
said_or_wrong lines (Some number) = Err number

-- the entries of a text, or the number of its first wrong line
abbrev pub layout_of : List ℕ → Result LayoutEntries ℕ
layout_of text = let lines = map line_of (lines_of text) in said_or_wrong lines (first_wrong false 1 lines)

-- an error is that of a text: its first wrong line, or out of memory
abbrev pub IsErrorOf : List ℕ → LayoutError → Type 0
IsErrorOf text (BadLine number) = layout_of text ≡ Err number
IsErrorOf text NoMemory = ⊤

-- an error is that of a line of this number: the line is wrong, or memory ran out
abbrev pub IsWrongAt : ℕ → Bool → LayoutError → Type 0
IsWrongAt number wrong (BadLine line) = (line ≡ number) × (wrong ≡ true)
IsWrongAt number wrong NoMemory = ⊤

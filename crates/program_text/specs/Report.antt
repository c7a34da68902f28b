-- The report of a run: a text of lines, with decimal numbers and lower-case hexadecimal.
use Rattle.std.specs.Prelude.{ℕ, ◌+◌, ◌*◌, ◌/◌, List, [], ◌∷◌, ◌++◌, length, take, drop, map, codes, decimal}
use Rattle.std.specs.List.{flat_map, range_with_len}
use Rattle.std.specs.Int.{to_be_bytes, w32}
use Rattle.hex.specs.Hex.{encode_lower}
use Rattle.gdb_index_format.specs.declared.unit.CuBoundary.{CuBoundary}
use Rattle.gdb_index_format.specs.declared.name_words.NameWords.{NameWords}
use Rattle.gdb_index_format.specs.Named.{Named, named}
use Rattle.sframe_format.specs.declared.fault.SframeOutcome.{SframeOutcome}
use Rattle.sframe_format.specs.declared.fault.SframeOutcome.TheVariants.{Sorted, NoDescriptors, OtherVersion}
use Rattle.program_text.specs.Lines.{text_of}

-- a line of words and numbers
abbrev pub fields : List ℕ → List ℕ → List ℕ
fields words numbers = words ++ flat_map (λ n. codes " " ++ decimal n) numbers

-- the line of a unit, by its number
abbrev pub unit_line : ℕ → CuBoundary → List ℕ
unit_line number unit = fields (codes "unit") (number ∷ unit.offset ∷ unit.length ∷ [])

-- the lines of units, numbered from a number on
abbrev pub unit_lines : ℕ → List CuBoundary → List (List ℕ)
unit_lines number [] = []
unit_lines number (unit ∷ units) = unit_line number unit ∷ unit_lines (number + 1) units

-- a name's bytes, `-` for the empty name
abbrev pub name_digits : List ℕ → List ℕ
name_digits [] = codes "-"
name_digits (byte ∷ bytes) = encode_lower (byte ∷ bytes)

-- an element of a CU vector, 32 bits, in eight digits
abbrev pub word_digits : ℕ → List ℕ
word_digits word = encode_lower (to_be_bytes w32 word)

-- the line of a name with its CU vector
abbrev pub named_line : Named → List ℕ
named_line n = codes "name " ++ name_digits n.name ++ flat_map (λ word. codes " " ++ word_digits word) n.words

abbrev pub name_line : NameWords → List ℕ
name_line n = named_line (named n)

-- the line of what was done to the SFrame section
abbrev pub outcome_line : SframeOutcome → List ℕ
outcome_line (Sorted used) = fields (codes "outcome sorted") (used ∷ [])
outcome_line NoDescriptors = fields (codes "outcome none") []
outcome_line (OtherVersion version) = fields (codes "outcome version") (version ∷ [])

-- the bytes of line k, 32 a line
abbrev pub row : List ℕ → ℕ → List ℕ
row bytes k = take 32 (drop (32 * k) bytes)

-- the lines of bytes
abbrev pub byte_lines : List ℕ → List (List ℕ)
byte_lines bytes = map (λ k. encode_lower (row bytes k)) (range_with_len 0 ((length bytes + 31) / 32))

-- the lines of a section: its name and length, then its bytes
abbrev pub section_lines : List ℕ → List ℕ → List (List ℕ)
section_lines name bytes = fields name (length bytes ∷ []) ∷ byte_lines bytes

-- the lines before the tables: the units, the names and the outcome
abbrev pub start_lines : List CuBoundary → List NameWords → SframeOutcome → List (List ℕ)
start_lines units names outcome =
    (fields (codes "units") (length units ∷ []) ∷ unit_lines 0 units)
    ++ (fields (codes "names") (length names ∷ []) ∷ map name_line names)
    ++ outcome_line outcome ∷ []

-- the lines of both tables
abbrev pub table_lines : List ℕ → List ℕ → List (List ℕ)
table_lines index sframe = section_lines (codes "index") index ++ section_lines (codes "sframe") sframe

-- a report by its start
abbrev pub whole_text : List ℕ → List ℕ → List ℕ → List ℕ
whole_text start index sframe = start ++ text_of (table_lines index sframe)

-- the report
abbrev pub report_of : List CuBoundary → List NameWords → SframeOutcome → List ℕ → List ℕ → List ℕ
report_of units names outcome index sframe = whole_text (text_of (start_lines units names outcome)) index sframe

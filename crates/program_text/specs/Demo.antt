-- What the arguments of `demo` ask for, and the text of its result: `demo N`. Indexes of arguments count from 0.
use Rattle.std.specs.Prelude.{ℕ, List, [], ◌∷◌, codes, if◌then◌else◌, nat_le, Option, Some, None, Result, Ok, Err}
use Rattle.program_text.specs.declared.demo.Summary.{Summary}
use Rattle.program_text.specs.Lines.{text_of}
use Rattle.program_text.specs.Number.{number_of}
use Rattle.program_text.specs.Report.{fields, outcome_line}

-- the largest number
abbrev pub demo_limit : ℕ
demo_limit = 1000

-- a number that is at most the largest
abbrev pub up_to_limit : Option ℕ → Option ℕ
up_to_limit None = None
up_to_limit (Some count) = if nat_le count demo_limit then Some count else None

-- the number that a word writes, where it is at most the largest
abbrev pub demo_count : List ℕ → Option ℕ
demo_count word = up_to_limit (number_of word)

-- a number, where it is one, and what follows it: an argument too many is wrong
abbrev pub with_count : Option ℕ → List (List ℕ) → Result ℕ ℕ
with_count None arguments = Err 1
with_count (Some count) [] = Ok count
with_count (Some count) (word ∷ arguments) = Err 2

-- the arguments after `demo`
abbrev pub after_demo : List (List ℕ) → Result ℕ ℕ
after_demo [] = Err 1
after_demo (word ∷ arguments) = with_count (demo_count word) arguments

-- the lines of a summary of tables
abbrev pub summary_lines : Summary → List (List ℕ)
summary_lines summary =
    fields (codes "objects") (summary.objects ∷ [])
    ∷ fields (codes "units") (summary.units ∷ [])
    ∷ fields (codes "names") (summary.names ∷ [])
    ∷ fields (codes "index") (summary.index ∷ [])
    ∷ fields (codes "common") (summary.common ∷ [])
    ∷ outcome_line summary.outcome
    ∷ []

-- its text
abbrev pub shown_of : Summary → List ℕ
shown_of summary = text_of (summary_lines summary)

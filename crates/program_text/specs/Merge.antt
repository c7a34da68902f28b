-- What the arguments of `merge` ask for, and the text of its result: `merge FIRST SECOND OFFSET`. Indexes of arguments count from 0.
use Rattle.std.specs.Prelude.{ℕ, List, [], ◌∷◌, codes, Option, Some, None, Result, Ok, Err}
use Rattle.program_text.specs.declared.merge.MergeCommand.{MergeCommand}
use Rattle.program_text.specs.Lines.{text_of}
use Rattle.program_text.specs.Number.{number_of}
use Rattle.program_text.specs.Report.{section_lines}

-- the command `merge`: the files of two indexes, and how many bytes the units of the second are moved
pub record Merge : Type 0 where
  pub first : List ℕ
  pub second : List ℕ
  pub offset : ℕ

-- an offset, where it is a number, and what follows it: an argument too many is wrong
abbrev pub with_offset : List ℕ → List ℕ → Option ℕ → List (List ℕ) → Result Merge ℕ
with_offset first second None arguments = Err 3
with_offset first second (Some offset) [] = Ok (record { first = first; second = second; offset = offset })
with_offset first second (Some offset) (word ∷ arguments) = Err 4

-- the arguments after `merge`
abbrev pub after_merge : List (List ℕ) → Result Merge ℕ
after_merge [] = Err 1
after_merge (first ∷ []) = Err 2
after_merge (first ∷ (second ∷ [])) = Err 3
after_merge (first ∷ (second ∷ (offset ∷ arguments))) = with_offset first second (number_of offset) arguments

-- a command as it was read
abbrev pub merge_of : MergeCommand → Merge
merge_of command = record { first = command.first.now; second = command.second.now; offset = command.offset }

-- the text of an index: its length, and its bytes as in a report
abbrev pub merged_text : List ℕ → List ℕ
merged_text index = text_of (section_lines (codes "index") index)

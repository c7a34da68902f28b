-- A command that asks one thing of one file, which the argument at index 1 names, or of two, of which the argument at index 2 names the second.
use Rattle.std.specs.Prelude.{ℕ, List, [], ◌∷◌, Option, Some, None}
use Rattle.program_text.specs.declared.query.Query.{Query as Asked}
use Rattle.program_text.specs.declared.query.Query.TheVariants as queries
use Rattle.program_text.specs.Browse.{Browse, browse_of}
use Rattle.program_text.specs.Find.{Find, find_of}
use Rattle.program_text.specs.Frame.{FrameQuery, frame_query_of}
use Rattle.program_text.specs.Merge.{Merge}

-- a query, with what it is given
pub data Query : Type 0 where
  for_find : Find → Query
  for_frame : FrameQuery → Query
  for_browse : Browse → Query
  for_merge : Merge → Query

-- the name of its file, or of the first
abbrev pub file_asked : Query → List ℕ
file_asked (for_find command) = command.index
file_asked (for_frame command) = command.sframe
file_asked (for_browse command) = command.index
file_asked (for_merge command) = command.first

-- the name of its second file, where there is one
abbrev pub second_asked : Query → Option (List ℕ)
second_asked (for_find command) = None
second_asked (for_frame command) = None
second_asked (for_browse command) = None
second_asked (for_merge command) = Some command.second

-- a name after another, where there is one
abbrev pub one_or_two : List ℕ → Option (List ℕ) → List (List ℕ)
one_or_two name None = name ∷ []
one_or_two name (Some second) = name ∷ second ∷ []

-- the names of its files, in the order of the arguments
abbrev pub files_asked : Query → List (List ℕ)
files_asked query = one_or_two (file_asked query) (second_asked query)

-- a query of one file as it was read
abbrev pub query_of : Asked → Query
query_of (queries.Find command) = for_find (find_of command)
query_of (queries.Frame command) = for_frame (frame_query_of command)
query_of (queries.Browse command) = for_browse (browse_of command)

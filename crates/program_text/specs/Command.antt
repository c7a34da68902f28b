-- What the arguments of the command line ask for: `tables`, a query of one file or of two, or `demo`; and the first that is wrong or missing else.
use Rattle.std.specs.Prelude.{◌≡◌, ◌⊎◌, ℕ, List, [], ◌∷◌, length, codes, if◌then◌else◌, Result, Ok, Err, IsSome}
use Rattle.program_text.specs.declared.command.Command.{Command}
use Rattle.program_text.specs.declared.command.Command.TheVariants as commands
use Rattle.program_text.specs.Arguments.{is_word}
use Rattle.program_text.specs.Browse.{after_browse}
use Rattle.program_text.specs.Demo.{after_demo}
use Rattle.program_text.specs.Find.{after_find}
use Rattle.program_text.specs.Frame.{after_frame}
use Rattle.program_text.specs.Merge.{after_merge, merge_of}
use Rattle.program_text.specs.Query.{Query, for_find, for_frame, for_browse, for_merge, second_asked, query_of}
use Rattle.program_text.specs.Tables.{Tables, NamesTablesFile, after_tables, tables_of}

-- a command, with what it is given
pub data Request : Type 0 where
  for_tables : Tables → Request
  for_query : Query → Request
  for_demo : ℕ → Request

-- a command of one kind, or the index of its first wrong or missing argument
abbrev pub as_request : {C : Type 0} → (C → Request) → Result C ℕ → Result Request ℕ
as_request kind (Ok command) = Ok (kind command)
as_request kind (Err index) = Err index

-- what the arguments ask for, or the index of the first wrong or missing argument
abbrev pub command_of : List (List ℕ) → Result Request ℕ
command_of [] = Err 0
command_of (command ∷ arguments) =
    if is_word command (codes "tables") then as_request for_tables (after_tables arguments)
    else if is_word command (codes "find") then as_request (λ c. for_query (for_find c)) (after_find arguments)
    else if is_word command (codes "frame") then as_request (λ c. for_query (for_frame c)) (after_frame arguments)
    else if is_word command (codes "browse") then as_request (λ c. for_query (for_browse c)) (after_browse arguments)
    else if is_word command (codes "merge") then as_request (λ c. for_query (for_merge c)) (after_merge arguments)
    else if is_word command (codes "demo") then as_request for_demo (after_demo arguments)
    else Err 0

-- a command as it was read
abbrev pub request_of : Command → Request
request_of (commands.Tables command) = for_tables (tables_of command)
request_of (commands.Query query) = for_query (query_of query)
request_of (commands.Merge command) = for_query (for_merge (merge_of command))
request_of (commands.Demo command) = for_demo command.count

-- how many objects a command names
abbrev pub object_count : Command → ℕ
object_count (commands.Tables command) = length command.objects.now
object_count (commands.Query query) = 0
object_count (commands.Merge command) = 0
object_count (commands.Demo command) = 0

-- the argument at this index names a file of a command
abbrev pub NamesFile : Request → ℕ → Type 0
NamesFile (for_tables command) index = NamesTablesFile command index
NamesFile (for_query query) index = (index ≡ 1) ⊎ ((index ≡ 2) × IsSome (second_asked query))
NamesFile (for_demo count) index = ⊥

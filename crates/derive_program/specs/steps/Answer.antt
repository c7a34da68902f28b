-- Private steps: only private contracts cite this module.
-- What the program answers for the files that it read.
use Rattle.std.specs.Prelude.{◌≡◌, ◌≢◌, ◌⊎◌, ℕ, List, length, Ok, Err, Option, Some, None}
use Rattle.elf_format.specs.declared.architecture.Architecture.{Architecture}
use Rattle.gdb_index_format.specs.declared.version.IndexVersion.{IndexVersion}
use Rattle.derivation.specs.declared.error.DeriveError.{DeriveError}
use Rattle.derivation.specs.declared.error.DeriveError.TheVariants as errors
use Rattle.program_files.specs.declared.error.ReadError.{ReadError}
use Rattle.program_files.specs.declared.error.ReadError.TheVariants as read
use Rattle.program_files.specs.declared.files_read.FilesRead.{FilesRead}
use Rattle.program_text.specs.Layout.{LayoutEntries, layout_of}
use Rattle.derive_program.specs.declared.ran.Ran.{Ran}
use Rattle.derive_program.specs.declared.ran.Ran.TheVariants.{Done, Shown, Refused, RefusedMerge, BadLayout, ReadFault, FileTooLong, WriteFault, NoMemory}
use Rattle.gdb_index_format.specs.Named.{Named}
use Rattle.gdb_index_format.specs.Units.{index_units}
use Rattle.index_browser.specs.Areas.{index_addresses}
use Rattle.index_browser.specs.NameList.{IsNameListWith}
use Rattle.program_text.specs.Browse.{listed_text}
use Rattle.sframe_format.specs.declared.fault.SframeOutcome.{SframeOutcome}
use Rattle.program_text.specs.declared.demo.Summary.{Summary}
use Rattle.program_text.specs.Demo.{shown_of}
use Rattle.index_merge.specs.declared.error.MergeError.{MergeError}
use Rattle.index_merge.specs.declared.error.MergeError.TheVariants as merging
use Rattle.program_text.specs.Query.{Query}
use Rattle.derive_program.specs.Cause.{HasReport, IsRefused, IsReported, IsCutOff, IsNotWritten}
use Rattle.derive_program.specs.ProgramInput.{ProgramInput}
use Rattle.derive_program.specs.Reply.{Reply, names_listed, index_merged, IsReply, lookup_text, IsListing, IsMergedText, IsReplyText, reply_in}
use Rattle.derive_program.specs.Shown.{HasSummary}
use Rattle.derive_program.specs.Writing.{Writes, IsSilent, IsPutOnce, IsReportWritten, IsPrefixWritten, IsWhole}

-- the input that files are, with a layout
abbrev pub program_input_of : Architecture → IndexVersion → FilesRead → LayoutEntries → ProgramInput
program_input_of machine version files layout =
    record { machine = machine; version = version; layout = layout; buffer = files.buffer.items; objects = files.objects.items; sframe = files.sframe.items }

-- the input is what these files are, with their layout
pub record IsInputOfFiles (machine : Architecture) (version : IndexVersion) (files : FilesRead) (input : ProgramInput) : Type 0 where
  pub layout : LayoutEntries
  pub laid : layout_of files.layout.items ≡ Ok layout
  pub is : input ≡ program_input_of machine version files layout

-- an error of the tables is answered as it is, but for out of memory
abbrev pub IsRefusalOf : DeriveError → Ran → Type 0
IsRefusalOf error (Refused answered) = (answered ≡ error) × (error ≢ errors.NoMemory)
IsRefusalOf error NoMemory = error ≡ errors.NoMemory
IsRefusalOf error ran = ⊥

-- an error of merging is answered as it is, but for out of memory
abbrev pub IsMergeRefusal : MergeError → Ran → Type 0
IsMergeRefusal error (RefusedMerge answered) = (answered ≡ error) × (error ≢ merging.NoMemory)
IsMergeRefusal error NoMemory = error ≡ merging.NoMemory
IsMergeRefusal error ran = ⊥

-- the answer for an error of reading
abbrev pub ran_of_reading : ReadError → Ran
ran_of_reading (read.Unread index) = ReadFault index
ran_of_reading (read.TooLong index) = FileTooLong index
ran_of_reading read.NoMemory = NoMemory

-- the report of the tables of these files
abbrev pub IsReportOfFiles : Architecture → IndexVersion → FilesRead → List ℕ → Type 0
IsReportOfFiles machine version files text = (index sframe : List ℕ) × (outcome : SframeOutcome) × HasReport (IsInputOfFiles machine version files) index sframe outcome text

-- an answer for the files of `tables`
abbrev pub IsAnswerFor : Architecture → IndexVersion → FilesRead → Writes → Ran → Type 0
IsAnswerFor machine version files writes (Done tables) = IsReported (IsInputOfFiles machine version files) tables.index.items tables.sframe.items tables.outcome writes
IsAnswerFor machine version files writes (Refused error) = IsRefused (IsInputOfFiles machine version files) error × IsSilent writes
IsAnswerFor machine version files writes (BadLayout line) = (layout_of files.layout.items ≡ Err line) × IsSilent writes
IsAnswerFor machine version files writes WriteFault = IsCutOff (IsReportOfFiles machine version files) writes
IsAnswerFor machine version files writes NoMemory = IsNotWritten (IsReportOfFiles machine version files) writes
IsAnswerFor machine version files writes ran = ⊥

-- memory ran out before the one call with a text, or in it
abbrev pub IsShortOfMemory : List ℕ → Writes → Type 0
IsShortOfMemory text writes = (writes.now ≡ writes.written) × ((writes.puts_now ≡ writes.puts) ⊎ IsPutOnce writes text)

-- what an answer that was found before any call of the sink is for these files
abbrev pub IsSilentAnswer : Architecture → IndexVersion → FilesRead → Ran → Type 0
IsSilentAnswer machine version files ran = (writes : Writes) → IsSilent writes → IsAnswerFor machine version files writes ran

-- this report was written, a prefix of it was, or memory ran out before or in the one call
abbrev pub IsWritingOf : List ℕ → List ℕ → SframeOutcome → List ℕ → Writes → Ran → Type 0
IsWritingOf index sframe outcome text writes (Done tables) =
    (tables.index.items ≡ index) × (tables.sframe.items ≡ sframe) × (tables.outcome ≡ outcome) × IsReportWritten writes text
IsWritingOf index sframe outcome text writes WriteFault = IsPrefixWritten writes text
IsWritingOf index sframe outcome text writes NoMemory = IsShortOfMemory text writes
IsWritingOf index sframe outcome text writes ran = ⊥

-- the text of a reply was written, a prefix of it was, or memory ran out before or in the one call
abbrev pub IsReplyWriting : Reply → List ℕ → Writes → Ran → Type 0
IsReplyWriting reply text writes WriteFault = IsPrefixWritten writes text
IsReplyWriting reply text writes NoMemory = IsShortOfMemory text writes
IsReplyWriting reply text writes ran = (reply_in ran ≡ Some reply) × IsReportWritten writes text

-- the text of a reply of a query for the bytes of its file
abbrev pub IsTextOfReply : Query → List (List ℕ) → List ℕ → Type 0
IsTextOfReply query bytes text = (reply : Reply) × IsReply query bytes reply × IsReplyText query bytes reply (Some text)

-- the text of what an index lists was written
pub record IsListingWritten (query : Query) (bytes : List (List ℕ)) (writes : Writes) : Type 0 where
  pub text : Option (List ℕ)
  pub is : IsListing query bytes text
  pub whole : IsWhole writes text

-- the text of a merged index was written
pub record IsMergedWritten (query : Query) (bytes : List (List ℕ)) (writes : Writes) : Type 0 where
  pub text : Option (List ℕ)
  pub is : IsMergedText query bytes text
  pub whole : IsWhole writes text

-- the text of a reply was written, where it has one
abbrev pub IsTextWritten : Query → List (List ℕ) → Writes → Reply → Type 0
IsTextWritten query bytes writes (names_listed count) = IsListingWritten query bytes writes
IsTextWritten query bytes writes (index_merged len) = IsMergedWritten query bytes writes
IsTextWritten query bytes writes reply = IsWhole writes (lookup_text query bytes reply)

-- what an index lists, as a text, and how many of its names begin with a prefix
pub record IsListed (bytes prefix text : List ℕ) (count : ℕ) : Type 0 where
  pub names : List Named
  pub list : IsNameListWith bytes prefix names
  pub text_is : text ≡ listed_text (index_units bytes) (index_addresses bytes) names
  pub count_is : length names ≡ count

-- there is a reply of a query, and its text was written
abbrev pub IsReplyOf : Query → List (List ℕ) → Writes → Option Reply → Type 0
IsReplyOf query bytes writes None = ⊥
IsReplyOf query bytes writes (Some reply) = IsReply query bytes reply × IsTextWritten query bytes writes reply

-- an answer for the bytes of the files of a query
abbrev pub IsQueryAnswer : Query → List (List ℕ) → Writes → Ran → Type 0
IsQueryAnswer query bytes writes WriteFault = IsCutOff (IsTextOfReply query bytes) writes
IsQueryAnswer query bytes writes NoMemory = IsNotWritten (IsTextOfReply query bytes) writes
IsQueryAnswer query bytes writes ran = IsReplyOf query bytes writes (reply_in ran)

-- a summary was written, a prefix of it was, or memory ran out before or in the one call
abbrev pub IsSummaryWriting : Summary → List ℕ → List ℕ → SframeOutcome → Writes → Ran → Type 0
IsSummaryWriting summary index sframe outcome writes (Shown shown tables) =
    (shown ≡ summary) × (tables.index.items ≡ index) × (tables.sframe.items ≡ sframe) × (tables.outcome ≡ outcome) × IsReportWritten writes (shown_of summary)
IsSummaryWriting summary index sframe outcome writes WriteFault = IsPrefixWritten writes (shown_of summary)
IsSummaryWriting summary index sframe outcome writes NoMemory = IsShortOfMemory (shown_of summary) writes
IsSummaryWriting summary index sframe outcome writes ran = ⊥

-- the text of the summary of a number's tables
abbrev pub IsTextOfDemo : ℕ → List ℕ → Type 0
IsTextOfDemo count text = (summary : Summary) × (index : List ℕ) × (sframe : List ℕ) × (outcome : SframeOutcome) × HasSummary count summary index sframe outcome text

-- an answer for a number
abbrev pub IsDemoAnswer : ℕ → Writes → Ran → Type 0
IsDemoAnswer count writes (Shown summary tables) =
    (text : List ℕ) × HasSummary count summary tables.index.items tables.sframe.items tables.outcome text × IsReportWritten writes text
IsDemoAnswer count writes WriteFault = IsCutOff (IsTextOfDemo count) writes
IsDemoAnswer count writes NoMemory = IsNotWritten (IsTextOfDemo count) writes
IsDemoAnswer count writes ran = ⊥

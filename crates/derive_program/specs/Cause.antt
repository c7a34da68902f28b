-- Why the program answers as it does: what it read, and what it wrote.
use Rattle.std.specs.Prelude.{◌≡◌, ◌≢◌, ◌+◌, ℕ, ◌⊎◌, Bool, List, length, Ok, Err, Option, Some, IfSome, IsSome, IsTrue}
use Rattle.elf_format.specs.Span.{AreInside}
use Rattle.gdb_index_format.specs.declared.unit.CuBoundary.{CuBoundary}
use Rattle.gdb_index_format.specs.declared.name_words.NameWords.{NameWords}
use Rattle.sframe_format.specs.declared.fault.SframeOutcome.{SframeOutcome}
use Rattle.derivation.specs.declared.error.DeriveError.{DeriveError}
use Rattle.derivation.specs.declared.error.DeriveError.TheVariants as errors
use Rattle.derivation.specs.Cause.{HasCause}
use Rattle.program_io.specs.Contents.{Contents}
use Rattle.program_io.specs.Counting.{Rose, RoseBy}
use Rattle.program_text.specs.Command.{Request, command_of, for_tables, for_query, for_demo, NamesFile}
use Rattle.program_text.specs.declared.demo.Summary.{Summary}
use Rattle.program_text.specs.Query.{Query}
use Rattle.program_text.specs.Tables.{Tables, version_of}
use Rattle.program_text.specs.Layout.{LayoutEntries, layout_of}
use Rattle.program_text.specs.Report.{report_of}
use Rattle.program_files.specs.declared.error.ReadError.TheVariants.{Unread, TooLong}
use Rattle.program_files.specs.Reading.{Texts, file_limit, read_of, reading_fault, asked_files}
use Rattle.derive_program.specs.declared.ran.Ran.{Ran}
use Rattle.derive_program.specs.declared.ran.Ran.TheVariants.{Done, Found, Located, Absent, Listed, Merged, Shown, Refused, RefusedIndex, RefusedFrames, RefusedBrowse, RefusedMerge, BadWords, BadLayout, ReadFault, FileTooLong, WriteFault, NoMemory}
use Rattle.derive_program.specs.ProgramInput.{texts_of_input, ProgramInput, IsInputOf, derived_from, AreTablesOf, HasTables}
use Rattle.derive_program.specs.Reply.{Reply, elements_found, function_found, nothing_found, names_listed, index_merged, bad_index, bad_frames, bad_listing, bad_merge, IsReply, IsReplyText, HasReplyText, reply_in}
use Rattle.derive_program.specs.Shown.{HasSummary, IsShown}
use Rattle.derive_program.specs.Writing.{Writes, IsSilent, IsPutOnce, IsReportWritten, IsPrefixWritten, IsWhole}

-- a file that an argument of the command names was not read: where the files are steady, it is the first that is not held, and each before it was read
pub record IsReadFault (held : Contents) (steady : Bool) (words : List (List ℕ)) (index faults now : ℕ) : Type 0 where
  pub command : Request
  pub said : command_of words ≡ Ok command
  pub names : NamesFile command index
  pub rose : Rose faults now
  pub missing : IsTrue steady → IfSome held (λ files. reading_fault files command ≡ Some (Unread index))

-- a file that an argument of the command names is too long: where the files are known, it is longer than the limit left for it, and each before it was read
pub record IsFileTooLong (held : Contents) (words : List (List ℕ)) (index taken now : ℕ) : Type 0 where
  pub command : Request
  pub said : command_of words ≡ Ok command
  pub names : NamesFile command index
  pub took : RoseBy (file_limit + 1) taken now
  pub longer : IfSome held (λ files. reading_fault files command ≡ Some (TooLong index))

-- the arguments are a command `tables`, its files were read, and this is the first wrong line of its layout
pub record IsBadLayout (held : Contents) (words : List (List ℕ)) (line : ℕ) : Type 0 where
  pub command : Tables
  pub said : command_of words ≡ Ok (for_tables command)
  pub texts : Texts
  pub read : IfSome held (λ files. read_of files command ≡ Ok texts)
  pub wrong : layout_of texts.layout ≡ Err line

-- the cause of an error for an input
abbrev pub HasCauseIn : ProgramInput → DeriveError → Type 0
HasCauseIn input error = HasCause (derived_from input) error

-- an input as described has no tables, by the cause of this error and of no other
pub record IsRefused (Of : ProgramInput → Type 0) (error : DeriveError) : Type 0 where
  pub input : ProgramInput
  pub read : Of input
  pub cause : HasCauseIn input error
  pub not_memory : error ≢ errors.NoMemory
  pub only : (other : DeriveError) → HasCauseIn input other → other ≡ error
  pub no_tables : HasTables input → ⊥

-- an input as described has tables, and this is the report of them
pub record HasReport (Of : ProgramInput → Type 0) (index sframe : List ℕ) (outcome : SframeOutcome) (text : List ℕ) : Type 0 where
  pub input : ProgramInput
  pub read : Of input
  pub units : List CuBoundary
  pub names : List NameWords
  pub tables : AreTablesOf input units names index sframe outcome
  pub no_cause : (error : DeriveError) → HasCauseIn input error → ⊥
  pub report : text ≡ report_of units names outcome index sframe

-- the report was put in one call, and written whole
pub record IsReported (Of : ProgramInput → Type 0) (index sframe : List ℕ) (outcome : SframeOutcome) (writes : Writes) : Type 0 where
  pub text : List ℕ
  pub reported : HasReport Of index sframe outcome text
  pub put : IsReportWritten writes text

-- The arguments are a query, its files were read, and this is the reply for their bytes, with the text that is written for it, where one is.
pub record IsReplied (held : Contents) (words : List (List ℕ)) (reply : Reply) (text : Option (List ℕ)) : Type 0 where
  pub query : Query
  pub said : command_of words ≡ Ok (for_query query)
  pub bytes : List (List ℕ)
  pub read : IfSome held (λ files. asked_files files query ≡ Ok bytes)
  pub replies : IsReply query bytes reply
  pub text_is : IsReplyText query bytes reply text

-- a reply whose text was put in one call, and written whole; there was no call where it has no text
pub record IsReplyWritten (held : Contents) (words : List (List ℕ)) (reply : Reply) (writes : Writes) : Type 0 where
  pub text : Option (List ℕ)
  pub replied : IsReplied held words reply text
  pub whole : IsWhole writes text

-- the text of a command: the report of tables, the text of a reply, or the summary of a number's tables
pub data HasText (held : Contents) (words : List (List ℕ)) (text : List ℕ) : Type 0 where
  of_tables : (index sframe : List ℕ) → (outcome : SframeOutcome) → HasReport (IsInputOf held words) index sframe outcome text → HasText held words text
  of_query : (reply : Reply) → IsReplied held words reply (Some text) → HasText held words text
  of_demo : (count : ℕ) → command_of words ≡ Ok (for_demo count) → (summary : Summary) → (index sframe : List ℕ) → (outcome : SframeOutcome) → HasSummary count summary index sframe outcome text → HasText held words text

-- a text as described was put in one call, which failed after a prefix of it
pub record IsCutOff (Text : List ℕ → Type 0) (writes : Writes) : Type 0 where
  pub text : List ℕ
  pub told : Text text
  pub put : IsPrefixWritten writes text

-- a text as described was put in one call
pub record IsAttempted (Text : List ℕ → Type 0) (writes : Writes) : Type 0 where
  pub text : List ℕ
  pub told : Text text
  pub once : IsPutOnce writes text

-- nothing was written: there was no call of the sink, or one, with the text
pub record IsNotWritten (Text : List ℕ → Type 0) (writes : Writes) : Type 0 where
  pub written : writes.now ≡ writes.written
  pub calls : (writes.puts_now ≡ writes.puts) ⊎ IsAttempted Text writes

-- nothing was written for an answer: there was no call of the sink, but that memory may run out in the one call with the text
abbrev pub IsUnwritten : (List ℕ → Type 0) → Writes → Ran → Type 0
IsUnwritten Text writes NoMemory = IsNotWritten Text writes
IsUnwritten Text writes ran = IsSilent writes

-- Good arguments, files that are known, held and within the limits, and a good layout.
pub record IsReadable (held : Contents) (words : List (List ℕ)) : Type 0 where
  pub command : Tables
  pub said : command_of words ≡ Ok (for_tables command)
  pub files : List (List ℕ × List ℕ)
  pub known : held ≡ Some files
  pub texts : Texts
  pub read : read_of files command ≡ Ok texts
  pub layout : LayoutEntries
  pub laid : layout_of texts.layout ≡ Ok layout

-- an input of what was read, however its objects stand in a buffer
pub record IsInputFrom (held : Contents) (words : List (List ℕ)) (readable : IsReadable held words) (input : ProgramInput) : Type 0 where
  pub machine : input.machine ≡ readable.command.machine
  pub version : input.version ≡ version_of readable.command
  pub layout : input.layout ≡ readable.layout
  pub files : texts_of_input input readable.texts.layout ≡ readable.texts
  pub inside : AreInside (length input.buffer) input.objects

-- What is read has tables.
pub record IsGood (held : Contents) (words : List (List ℕ)) : Type 0 where
  pub readable : IsReadable held words
  pub valid : (input : ProgramInput) → IsInputFrom held words readable input → HasTables input

-- What is read has no tables, by the cause of this error.
pub record IsFaulty (held : Contents) (words : List (List ℕ)) (error : DeriveError) : Type 0 where
  pub readable : IsReadable held words
  pub cause : (input : ProgramInput) → IsInputFrom held words readable input → HasCauseIn input error

-- Good arguments, files that are known, held and within the limits, and a layout whose first wrong line is this one.
pub record IsWrongLayout (held : Contents) (words : List (List ℕ)) (line : ℕ) : Type 0 where
  pub command : Tables
  pub said : command_of words ≡ Ok (for_tables command)
  pub files : List (List ℕ × List ℕ)
  pub known : held ≡ Some files
  pub texts : Texts
  pub read : read_of files command ≡ Ok texts
  pub wrong : layout_of texts.layout ≡ Err line

-- Good arguments of a query, and files that are known, held and within the limit.
pub record IsAskable (held : Contents) (words : List (List ℕ)) : Type 0 where
  pub query : Query
  pub said : command_of words ≡ Ok (for_query query)
  pub files : List (List ℕ × List ℕ)
  pub known : held ≡ Some files
  pub bytes : List (List ℕ)
  pub read : asked_files files query ≡ Ok bytes

-- the reply is answered, or its text was not written, or memory ran out
abbrev pub IsAnswerOf : Query → List (List ℕ) → Reply → Ran → Type 0
IsAnswerOf query bytes reply ran = (reply_in ran ≡ Some reply) ⊎ (((ran ≡ WriteFault) × HasReplyText query bytes reply) ⊎ (ran ≡ NoMemory))

-- a reply is answered, or memory ran out
abbrev pub IsReplyOrNoMemory : Ran → Type 0
IsReplyOrNoMemory NoMemory = Unit {0}
IsReplyOrNoMemory ran = IsSome (reply_in ran)

-- a reply is answered, memory ran out, or the read or the write failed
abbrev pub IsReplyOrFault : Ran → Type 0
IsReplyOrFault (ReadFault index) = Unit {0}
IsReplyOrFault WriteFault = Unit {0}
IsReplyOrFault NoMemory = Unit {0}
IsReplyOrFault ran = IsSome (reply_in ran)

-- the tables are answered, or memory ran out
abbrev pub IsDoneOrNoMemory : Ran → Type 0
IsDoneOrNoMemory (Done tables) = Unit {0}
IsDoneOrNoMemory NoMemory = Unit {0}
IsDoneOrNoMemory ran = ⊥

-- the tables are answered, memory ran out, or a read or the write failed
abbrev pub IsDoneOrFault : Ran → Type 0
IsDoneOrFault (Done tables) = Unit {0}
IsDoneOrFault (ReadFault index) = Unit {0}
IsDoneOrFault WriteFault = Unit {0}
IsDoneOrFault NoMemory = Unit {0}
IsDoneOrFault ran = ⊥

-- the tables of a number are shown, or memory ran out
abbrev pub IsShownOrNoMemory : Ran → Type 0
IsShownOrNoMemory (Shown summary tables) = Unit {0}
IsShownOrNoMemory NoMemory = Unit {0}
IsShownOrNoMemory ran = ⊥

-- the tables of a number are shown, memory ran out, or the write failed
abbrev pub IsShownOrFault : Ran → Type 0
IsShownOrFault (Shown summary tables) = Unit {0}
IsShownOrFault WriteFault = Unit {0}
IsShownOrFault NoMemory = Unit {0}
IsShownOrFault ran = ⊥

-- a fact of the tables that are answered
abbrev pub IfDone : Ran → (List ℕ → List ℕ → SframeOutcome → Type 0) → Type 0
IfDone (Done tables) P = P tables.index.items tables.sframe.items tables.outcome
IfDone ran P = Unit {0}

-- a fact of the summary and the tables that are shown
abbrev pub IfShown : Ran → (Summary → List ℕ → List ℕ → SframeOutcome → Type 0) → Type 0
IfShown (Shown summary tables) P = P summary tables.index.items tables.sframe.items tables.outcome
IfShown ran P = Unit {0}

-- a fact of the error that is answered
abbrev pub IfRefused : Ran → (DeriveError → Type 0) → Type 0
IfRefused (Refused error) P = P error
IfRefused ran P = Unit {0}

-- the files before and after a run
pub record Reads : Type 0 where
  pub held : Contents
  pub steady : Bool
  pub faults : ℕ
  pub faults_now : ℕ
  pub taken : ℕ
  pub taken_now : ℕ

-- the cause of each answer, and what was put and written for it
abbrev pub IsRunOf : List (List ℕ) → Reads → Writes → Ran → Type 0
IsRunOf words reads writes (Done tables) = IsReported (IsInputOf reads.held words) tables.index.items tables.sframe.items tables.outcome writes
IsRunOf words reads writes (Found answer) = IsReplyWritten reads.held words (elements_found answer.words.items) writes
IsRunOf words reads writes (Located index) = IsReplyWritten reads.held words (function_found index) writes
IsRunOf words reads writes (Shown summary tables) = IsShown words summary tables.index.items tables.sframe.items tables.outcome writes
IsRunOf words reads writes Absent = IsReplyWritten reads.held words nothing_found writes
IsRunOf words reads writes (Merged len) = IsReplyWritten reads.held words (index_merged len) writes
IsRunOf words reads writes (Listed count) = IsReplyWritten reads.held words (names_listed count) writes
IsRunOf words reads writes (RefusedIndex fault) = IsReplyWritten reads.held words (bad_index fault) writes
IsRunOf words reads writes (RefusedFrames fault) = IsReplyWritten reads.held words (bad_frames fault) writes
IsRunOf words reads writes (RefusedMerge error) = IsReplyWritten reads.held words (bad_merge error) writes
IsRunOf words reads writes (RefusedBrowse fault) = IsReplyWritten reads.held words (bad_listing fault) writes
IsRunOf words reads writes (Refused error) = IsRefused (IsInputOf reads.held words) error × IsSilent writes
IsRunOf words reads writes (BadWords index) = (command_of words ≡ Err index) × IsSilent writes
IsRunOf words reads writes (BadLayout line) = IsBadLayout reads.held words line × IsSilent writes
IsRunOf words reads writes (ReadFault index) = IsReadFault reads.held reads.steady words index reads.faults reads.faults_now × IsSilent writes
IsRunOf words reads writes (FileTooLong index) = IsFileTooLong reads.held words index reads.taken reads.taken_now × IsSilent writes
IsRunOf words reads writes WriteFault = IsCutOff (HasText reads.held words) writes
IsRunOf words reads writes NoMemory = ((command : Request) × (command_of words ≡ Ok command)) × IsNotWritten (HasText reads.held words) writes

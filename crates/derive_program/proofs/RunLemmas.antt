-- From the answer for the files that were read to the answer of the whole run.
use Rattle.std.proofs.Common.{take, append_assoc, ◌≡◌, ◌+◌, ℕ, ◌++◌, List, [], ◌∷◌, length, IfSome, Some, None, Option, Result, Ok, Err, IsTrue, refl, sym, ap, subst, ◌∙◌, ◌⊎◌, inl, inr}
use Rattle.std.proofs.Math.Seq.{take-length}
use Rattle.sframe_format.specs.declared.fault.SframeOutcome.{SframeOutcome}
use Rattle.elf_format.specs.declared.architecture.Architecture.{Architecture}
use Rattle.elf_format.specs.Span.{AreInside}
use Rattle.gdb_index_format.specs.declared.version.IndexVersion.{IndexVersion}
use Rattle.program_files.specs.declared.files_read.FilesRead.{FilesRead}
use Rattle.program_files.specs.declared.error.ReadError.{ReadError}
use Rattle.program_files.specs.declared.error.ReadError.TheVariants as read
use Rattle.program_files.specs.Reading.{Texts, file_limit, texts_read, read_of, reading_fault, within, before, before_none, first_of, second_file, asked_files, file_names}
use Rattle.program_io.specs.Contents.{Contents, file_of}
use Rattle.program_io.specs.Counting.{Rose, RoseBy}
use Rattle.program_text.specs.Command.{Request, command_of, for_tables, for_query, for_demo, NamesFile}
use Rattle.program_text.specs.Find.{found_of}
use Rattle.program_text.specs.Merge.{Merge}
use Rattle.program_text.specs.Query.{Query, for_merge, file_asked, second_asked, one_or_two, files_asked, query_of}
use Rattle.program_text.specs.declared.query.Query.{Query as Asked}
use Rattle.program_text.specs.declared.query.Query.TheVariants as queries
use Rattle.program_text.specs.Tables.{Tables, version_of}
use Rattle.derive_program.specs.declared.ran.Ran.{Ran}
use Rattle.derive_program.specs.declared.ran.Ran.TheVariants.{Done, Found, Located, Absent, Listed, Merged, Shown, Refused, RefusedIndex, RefusedFrames, RefusedBrowse, RefusedMerge, BadWords, BadLayout, ReadFault, FileTooLong, WriteFault, NoMemory}
use Rattle.derive_program.specs.steps.Answer.{IsInputOfFiles, IsReportOfFiles, IsAnswerFor, IsTextOfReply, IsQueryAnswer, IsTextOfDemo, IsDemoAnswer, ran_of_reading}
use Rattle.derive_program.specs.Calls.{HasReadFor, HasReadOf, read_faults_after}
use Rattle.derive_program.specs.Cause.{HasReport, HasText, of_tables, of_query, of_demo, IsReplyWritten, IsAttempted, IsNotWritten, Reads, IsRunOf}
use Rattle.derive_program.specs.ProgramInput.{ProgramInput, IsInputOf}
use Rattle.std.specs.Result.{result_err}
use Rattle.derive_program.specs.Reply.{Reply, first_in, IsReply, IsReplyText, frame_text}
use Rattle.derive_program.specs.Writing.{Writes, IsSilent, IsWhole}

-- files that a command's arguments name, as an input of the arguments
input_read : (held : Contents) (words : List (List ℕ)) (command : Tables) (version : IndexVersion) (files : FilesRead) → version ≡ version_of command → command_of words ≡ Ok (for_tables command) → IfSome held (λ contents. read_of contents command ≡ Ok (texts_read files)) → AreInside (length files.buffer.items) files.objects.items → (input : ProgramInput) → IsInputOfFiles command.machine version files input → IsInputOf held words input
input_read held words command version files version-is said known inside input of =
    subst (IsInputOf held words) (sym of.is) (record {
      command = command;
      said = said;
      machine = refl;
      version = version-is;
      text = files.layout.items;
      read = known;
      laid = of.laid;
      inside = inside;
    })

report_as : (Of To : ProgramInput → Type 0) (index sframe text : List ℕ) (outcome : SframeOutcome) → ((input : ProgramInput) → Of input → To input) → HasReport Of index sframe outcome text → HasReport To index sframe outcome text
report_as Of To index sframe text outcome onto reported = record {
  input = reported.input;
  read = onto reported.input reported.read;
  units = reported.units;
  names = reported.names;
  tables = reported.tables;
  no_cause = reported.no_cause;
  report = reported.report;
}

calls_as : (Of To : List ℕ → Type 0) (writes : Writes) → ((text : List ℕ) → Of text → To text) → IsNotWritten Of writes → IsNotWritten To writes
calls_as Of To writes onto none = record { written = none.written; calls = at none.calls }
  where
    at : (writes.puts_now ≡ writes.puts) ⊎ IsAttempted Of writes → (writes.puts_now ≡ writes.puts) ⊎ IsAttempted To writes
    at (inl same) = inl same
    at (inr put) = inr (record { text = put.text; told = onto put.text put.told; once = put.once })

-- the report of the files' tables, as the text of the arguments
told_tables : (held : Contents) (words : List (List ℕ)) (command : Tables) (version : IndexVersion) (files : FilesRead) → version ≡ version_of command → command_of words ≡ Ok (for_tables command) → IfSome held (λ contents. read_of contents command ≡ Ok (texts_read files)) → AreInside (length files.buffer.items) files.objects.items → (text : List ℕ) → IsReportOfFiles command.machine version files text → HasText held words text
told_tables held words command version files version-is said known inside text (index, sframe, outcome, reported) =
    of_tables index sframe outcome (report_as _ _ _ _ _ _ (input_read held words command version files version-is said known inside) reported)

pub run_of_answer : (words : List (List ℕ)) (reads : Reads) (writes : Writes) (command : Tables) (version : IndexVersion) (files : FilesRead) (ran : Ran) → version ≡ version_of command → command_of words ≡ Ok (for_tables command) → IfSome reads.held (λ contents. read_of contents command ≡ Ok (texts_read files)) → AreInside (length files.buffer.items) files.objects.items → IsAnswerFor command.machine version files writes ran → IsRunOf words reads writes ran
run_of_answer words reads writes command version files (Done tables) version-is said known inside cause = record {
  text = cause.text;
  reported = report_as _ _ _ _ _ _ (input_read reads.held words command version files version-is said known inside) cause.reported;
  put = cause.put;
}
run_of_answer words reads writes command version files (Refused error) version-is said known inside (cause, silent) = (
  record {
    input = cause.input;
    read = input_read reads.held words command version files version-is said known inside cause.input cause.read;
    cause = cause.cause;
    not_memory = cause.not_memory;
    only = cause.only;
    no_tables = cause.no_tables;
  },
  silent,
)
run_of_answer words reads writes command version files (BadLayout line) version-is said known inside (wrong, silent) = (
  record {
    command = command;
    said = said;
    texts = texts_read files;
    read = known;
    wrong = wrong;
  },
  silent,
)
run_of_answer words reads writes command version files WriteFault version-is said known inside cause = record {
  text = cause.text;
  told = told_tables reads.held words command version files version-is said known inside cause.text cause.told;
  put = cause.put;
}
run_of_answer words reads writes command version files NoMemory version-is said known inside cause = (
  (for_tables command, said),
  calls_as _ _ writes (told_tables reads.held words command version files version-is said known inside) cause,
)
run_of_answer words reads writes command version files ran version-is said known inside never = absurd never

-- what was read for a command, as it was read for its arguments
read_for : (result : Result Request ℕ) (command : Request) (old new : List (List ℕ)) (ran : Ran) → result ≡ Ok command → HasReadFor command old new ran → HasReadOf result old new ran
read_for result command old new ran said has = let P : Result Request ℕ → Type 0 = λ r. HasReadOf r old new ran in subst P (sym said) has

-- all files were read for an answer that comes after the reading
pub after_reading : (machine : Architecture) (version : IndexVersion) (files : FilesRead) (writes : Writes) (command : Tables) (old new : List (List ℕ)) (ran : Ran) → new ≡ old ++ file_names command → IsAnswerFor machine version files writes ran → HasReadFor (for_tables command) old new ran
after_reading machine version files writes command old new NoMemory all cause =
    (length (file_names command), all ∙ ap (λ (l : List (List ℕ)). old ++ l) (sym (take-length (file_names command))))
after_reading machine version files writes command old new (BadWords k) all never = absurd never
after_reading machine version files writes command old new (ReadFault k) all never = absurd never
after_reading machine version files writes command old new (FileTooLong k) all never = absurd never
after_reading machine version files writes command old new ran all cause = all

pub reads_after : (result : Result Request ℕ) (command : Request) (old new : List (List ℕ)) (ran : Ran) → result ≡ Ok command → HasReadFor command old new ran → HasReadOf result old new ran
reads_after result command old new ran said has = read_for result command old new ran said has

-- no read failed where the files were read
pub counted_after : (machine : Architecture) (version : IndexVersion) (files : FilesRead) (writes : Writes) (before now : ℕ) (ran : Ran) → now ≡ before → IsAnswerFor machine version files writes ran → now ≡ read_faults_after ran before
counted_after machine version files writes before now (ReadFault k) same never = absurd never
counted_after machine version files writes before now ran same cause = same

-- the answer to an error of reading, with its cause
pub run_of_error : (words : List (List ℕ)) (reads : Reads) (writes : Writes) (command : Request) (error : ReadError) (ran : Ran) → command_of words ≡ Ok command → ran ≡ ran_of_reading error → IsSilent writes → ((k : ℕ) → error ≡ read.Unread k → NamesFile command k × Rose reads.faults reads.faults_now) → ((k : ℕ) → error ≡ read.TooLong k → NamesFile command k × RoseBy (file_limit + 1) reads.taken reads.taken_now) → ((k : ℕ) → error ≡ read.TooLong k → IfSome reads.held (λ files. reading_fault files command ≡ Some (read.TooLong k))) → ((k : ℕ) → error ≡ read.Unread k → IsTrue reads.steady → IfSome reads.held (λ files. reading_fault files command ≡ Some (read.Unread k))) → IsRunOf words reads writes ran
run_of_error words reads writes command error ran said is silent unread too_long longer missing =
    subst (IsRunOf words reads writes) (sym is) (at error unread too_long longer missing)
  where
    at : (error : ReadError) → ((k : ℕ) → error ≡ read.Unread k → NamesFile command k × Rose reads.faults reads.faults_now) → ((k : ℕ) → error ≡ read.TooLong k → NamesFile command k × RoseBy (file_limit + 1) reads.taken reads.taken_now) → ((k : ℕ) → error ≡ read.TooLong k → IfSome reads.held (λ files. reading_fault files command ≡ Some (read.TooLong k))) → ((k : ℕ) → error ≡ read.Unread k → IsTrue reads.steady → IfSome reads.held (λ files. reading_fault files command ≡ Some (read.Unread k))) → IsRunOf words reads writes (ran_of_reading error)
    at (read.Unread k) unread too_long longer missing = (
      record { command = command; said = said; names = (unread k refl).0; rose = (unread k refl).1; missing = missing k refl },
      silent,
    )
    at (read.TooLong k) unread too_long longer missing = (
      record { command = command; said = said; names = (too_long k refl).0; took = (too_long k refl).1; longer = longer k refl },
      silent,
    )
    at read.NoMemory unread too_long longer missing = ((command, said), record { written = silent.written; calls = inl silent.puts })

pub error_of : {T : Type 0} (a b : ReadError) → a ≡ b → (let r : Result T ReadError = Err a in r) ≡ Err b
error_of a b is = ap (λ e. Err e) is

-- an error of the files of `tables`, as one of the command
pub tables_fault : (held : Contents) (command : Tables) (error : ReadError) → IfSome held (λ files. read_of files command ≡ Err error) → IfSome held (λ files. reading_fault files (for_tables command) ≡ Some error)
tables_fault None command error told = tt
tables_fault (Some files) command error told = ap (λ (r : Result Texts ReadError). result_err r) told

-- what is known of a file by its name is known of the file of a query of one file
asked_as : (held : Contents) (query : Query) (name bytes : List ℕ) → name ≡ file_asked query → None ≡ second_asked query → IfSome held (λ files. within 1 file_limit (file_of files name) ≡ Ok bytes) → IfSome held (λ files. asked_files files query ≡ Ok (bytes ∷ []))
asked_as None query name bytes is alone told = tt
asked_as (Some files) query name bytes is alone told =
    ap (λ (o : Option (List ℕ)). first_of (within 1 file_limit (file_of files (file_asked query))) (λ b. second_file files o)) (sym alone)
    ∙ ap (λ n. first_of (within 1 file_limit (file_of files n)) (λ b. Ok [])) (sym is)
    ∙ ap (λ (r : Result (List ℕ) ReadError). first_of r (λ b. Ok [])) told

-- the same of two files
asked_both : (held : Contents) (command : Merge) (first second : List ℕ) → IfSome held (λ files. within 1 file_limit (file_of files command.first) ≡ Ok first) → IfSome held (λ files. within 2 file_limit (file_of files command.second) ≡ Ok second) → IfSome held (λ files. asked_files files (for_merge command) ≡ Ok (first ∷ second ∷ []))
asked_both None command first second one two = tt
asked_both (Some files) command first second one two =
    ap (λ (r : Result (List ℕ) ReadError). first_of r (λ b. before_none (within 2 file_limit (file_of files command.second)))) one
    ∙ ap (λ (r : Result (List ℕ) ReadError). before first (before_none r)) two

-- the text of a reply, as the text of the arguments
told_query : (held : Contents) (words : List (List ℕ)) (query : Query) (bytes : List (List ℕ)) → command_of words ≡ Ok (for_query query) → IfSome held (λ files. asked_files files query ≡ Ok bytes) → (text : List ℕ) → IsTextOfReply query bytes text → HasText held words text
told_query held words query bytes said known text (reply, replies, is) = of_query reply (record {
  query = query;
  said = said;
  bytes = bytes;
  read = known;
  replies = replies;
  text_is = is;
})

-- a reply for the bytes of the file, as one to the arguments
reply_to : (held : Contents) (words : List (List ℕ)) (query : Query) (bytes : List (List ℕ)) (reply : Reply) (text : Option (List ℕ)) (writes : Writes) → command_of words ≡ Ok (for_query query) → IfSome held (λ files. asked_files files query ≡ Ok bytes) → IsReply query bytes reply → IsReplyText query bytes reply text → IsWhole writes text → IsReplyWritten held words reply writes
reply_to held words query bytes reply text writes said known replies is whole = record {
  text = text;
  replied = record {
    query = query;
    said = said;
    bytes = bytes;
    read = known;
    replies = replies;
    text_is = is;
  };
  whole = whole;
}

pub run_of_query : (words : List (List ℕ)) (reads : Reads) (writes : Writes) (query : Query) (bytes : List (List ℕ)) (ran : Ran) → command_of words ≡ Ok (for_query query) → IfSome reads.held (λ files. asked_files files query ≡ Ok bytes) → IsQueryAnswer query bytes writes ran → IsRunOf words reads writes ran
run_of_query words reads writes query bytes (Found answer) said known (replies, whole) = reply_to reads.held words query bytes _ (Some (found_of answer.words.items)) writes said known replies refl whole
run_of_query words reads writes query bytes (Located index) said known (replies, whole) = reply_to reads.held words query bytes _ (frame_text query (first_in bytes) index) writes said known replies refl whole
run_of_query words reads writes query bytes Absent said known (replies, whole) = reply_to reads.held words query bytes _ None writes said known replies refl whole
run_of_query words reads writes query bytes (Merged len) said known (replies, put) = reply_to reads.held words query bytes _ put.text writes said known replies put.is put.whole
run_of_query words reads writes query bytes (Listed count) said known (replies, put) = reply_to reads.held words query bytes _ put.text writes said known replies put.is put.whole
run_of_query words reads writes query bytes (RefusedIndex fault) said known (replies, whole) = reply_to reads.held words query bytes _ None writes said known replies refl whole
run_of_query words reads writes query bytes (RefusedFrames fault) said known (replies, whole) = reply_to reads.held words query bytes _ None writes said known replies refl whole
run_of_query words reads writes query bytes (RefusedMerge error) said known (replies, whole) = reply_to reads.held words query bytes _ None writes said known replies refl whole
run_of_query words reads writes query bytes (RefusedBrowse fault) said known (replies, whole) = reply_to reads.held words query bytes _ None writes said known replies refl whole
run_of_query words reads writes query bytes WriteFault said known cut = record {
  text = cut.text;
  told = told_query reads.held words query bytes said known cut.text cut.told;
  put = cut.put;
}
run_of_query words reads writes query bytes NoMemory said known none = ((for_query query, said), calls_as _ _ writes (told_query reads.held words query bytes said known) none)
run_of_query words reads writes query bytes ran said known never = absurd never

pub run_of_read : (words : List (List ℕ)) (reads : Reads) (writes : Writes) (query : Query) (name bytes given : List ℕ) (ran : Ran) → command_of words ≡ Ok (for_query query) → name ≡ file_asked query → None ≡ second_asked query → given ≡ bytes → IfSome reads.held (λ files. within 1 file_limit (file_of files name) ≡ Ok bytes) → IsQueryAnswer query (given ∷ []) writes ran → IsRunOf words reads writes ran
run_of_read words reads writes query name bytes given ran said is alone given_is known answer =
    let P : List ℕ → Type 0 = λ b. IsQueryAnswer query (b ∷ []) writes ran in
    run_of_query words reads writes query (bytes ∷ []) ran said (asked_as reads.held query name bytes is alone known) (subst P given_is answer)

pub run_of_both : (words : List (List ℕ)) (reads : Reads) (writes : Writes) (command : Merge) (first second given other : List ℕ) (ran : Ran) → command_of words ≡ Ok (for_query (for_merge command)) → given ≡ first → other ≡ second → IfSome reads.held (λ files. within 1 file_limit (file_of files command.first) ≡ Ok first) → IfSome reads.held (λ files. within 2 file_limit (file_of files command.second) ≡ Ok second) → IsQueryAnswer (for_merge command) (given ∷ other ∷ []) writes ran → IsRunOf words reads writes ran
run_of_both words reads writes command first second given other ran said given_is other_is one two answer =
    let P : List ℕ → Type 0 = λ b. IsQueryAnswer (for_merge command) (b ∷ other ∷ []) writes ran in
    let Q : List ℕ → Type 0 = λ b. IsQueryAnswer (for_merge command) (first ∷ b ∷ []) writes ran in
    run_of_query words reads writes (for_merge command) (first ∷ second ∷ []) ran said (asked_both reads.held command first second one two) (subst Q other_is (subst P given_is answer))

-- the files were read for an answer that comes after the reading, and no read failed
pub after_query : (query : Query) (bytes : List (List ℕ)) (writes : Writes) (old new : List (List ℕ)) (ran : Ran) → new ≡ old ++ files_asked query → IsQueryAnswer query bytes writes ran → HasReadFor (for_query query) old new ran
after_query query bytes writes old new NoMemory all cause = (length (files_asked query), all ∙ ap (λ (l : List (List ℕ)). old ++ l) (sym (take-length (files_asked query))))
after_query query bytes writes old new (BadWords k) all never = absurd never
after_query query bytes writes old new (ReadFault k) all never = absurd never
after_query query bytes writes old new (FileTooLong k) all never = absurd never
after_query query bytes writes old new ran all cause = all

-- the one file that was read is that of the query
pub one_read : (query : Query) (name : List ℕ) (old new : List (List ℕ)) → name ≡ file_asked query → None ≡ second_asked query → new ≡ old ++ name ∷ [] → new ≡ old ++ files_asked query
one_read query name old new is alone all = all ∙ ap (λ n. old ++ n ∷ []) is ∙ ap (λ (o : Option (List ℕ)). old ++ one_or_two (file_asked query) o) alone

-- a query as it was read names one file
pub one_file : (query : Asked) → None ≡ second_asked (query_of query)
one_file (queries.Find command) = refl
one_file (queries.Frame command) = refl
one_file (queries.Browse command) = refl

-- the files that were read for an error of reading
pub read_to_error : (query : Query) (index : ℕ) (error : ReadError) (ran : Ran) (old new : List (List ℕ)) → ran ≡ ran_of_reading error → new ≡ old ++ take index (files_asked query) → ((k : ℕ) → error ≡ read.Unread k → k ≡ index) → ((k : ℕ) → error ≡ read.TooLong k → k ≡ index) → HasReadFor (for_query query) old new ran
read_to_error query index error ran old new is all unread too_long =
    let P : Ran → Type 0 = λ r. HasReadFor (for_query query) old new r in
    subst P (sym is) (at error unread too_long)
  where
    at : (error : ReadError) → ((k : ℕ) → error ≡ read.Unread k → k ≡ index) → ((k : ℕ) → error ≡ read.TooLong k → k ≡ index) → HasReadFor (for_query query) old new (ran_of_reading error)
    at (read.Unread k) unread too_long = all ∙ ap (λ n. old ++ take n (files_asked query)) (sym (unread k refl))
    at (read.TooLong k) unread too_long = all ∙ ap (λ n. old ++ take n (files_asked query)) (sym (too_long k refl))
    at read.NoMemory unread too_long = (index, all)

pub two_read : (old mid new : List (List ℕ)) (first second : List ℕ) → mid ≡ old ++ first ∷ [] → new ≡ mid ++ second ∷ [] → new ≡ old ++ (first ∷ second ∷ [])
two_read old mid new first second one two = two ∙ ap (λ (l : List (List ℕ)). l ++ second ∷ []) one ∙ append_assoc old (first ∷ []) (second ∷ [])

pub counted_query : (query : Query) (bytes : List (List ℕ)) (writes : Writes) (before now : ℕ) (ran : Ran) → now ≡ before → IsQueryAnswer query bytes writes ran → now ≡ read_faults_after ran before
counted_query query bytes writes before now (ReadFault k) same never = absurd never
counted_query query bytes writes before now ran same cause = same

-- the summary of a number's tables, as the text of the arguments
told_demo : (held : Contents) (words : List (List ℕ)) (count : ℕ) → command_of words ≡ Ok (for_demo count) → (text : List ℕ) → IsTextOfDemo count text → HasText held words text
told_demo held words count said text (summary, index, sframe, outcome, has) = of_demo count said summary index sframe outcome has

pub run_of_demo : (words : List (List ℕ)) (reads : Reads) (writes : Writes) (count : ℕ) (ran : Ran) → command_of words ≡ Ok (for_demo count) → IsDemoAnswer count writes ran → IsRunOf words reads writes ran
run_of_demo words reads writes count (Shown summary tables) said (text, has, put) = record {
  count = count;
  said = said;
  text = text;
  summarized = has;
  put = put;
}
run_of_demo words reads writes count WriteFault said cut = record {
  text = cut.text;
  told = told_demo reads.held words count said cut.text cut.told;
  put = cut.put;
}
run_of_demo words reads writes count NoMemory said none = ((for_demo count, said), calls_as _ _ writes (told_demo reads.held words count said) none)
run_of_demo words reads writes count ran said never = absurd never

-- The clauses of a run, each from the cause of its answer.
use Rattle.std.proofs.Common.{◌≡◌, ◌≢◌, ℕ, ◌⊎◌, length, false, List, Option, Some, None, IfSome, Result, Ok, Err, IsTrue, refl, sym, ap, subst, ◌∙◌, inl, inr}
use Rattle.std.proofs.lemmas.Bool.{false≢true}
use Rattle.elf_format.specs.Span.{AreInside}
use Rattle.sframe_format.specs.declared.fault.SframeOutcome.{SframeOutcome}
use Rattle.derivation.specs.Laws.{InsideIsNoBadSpan}
use Rattle.derivation.specs.declared.error.DeriveError.{DeriveError}
use Rattle.derivation.specs.declared.error.DeriveError.TheVariants as errors
use Rattle.program_files.specs.declared.error.ReadError.{ReadError}
use Rattle.program_files.specs.Reading.{Texts, read_of, reading_fault, asked_files}
use Rattle.program_io.specs.Contents.{Contents}
use Rattle.program_io.specs.Counting.{Rose}
use Rattle.program_text.specs.Command.{Request, command_of, for_tables, for_query, for_demo, NamesFile}
use Rattle.program_text.specs.Query.{Query}
use Rattle.program_text.specs.Tables.{Tables, version_of}
use Rattle.program_text.specs.Layout.{layout_of}
use Rattle.derive_program.specs.declared.ran.Ran.{Ran}
use Rattle.derive_program.specs.declared.ran.Ran.TheVariants.{Done, Found, Located, Absent, Listed, Merged, Shown, Refused, RefusedIndex, RefusedFrames, RefusedBrowse, RefusedMerge, BadWords, BadLayout, ReadFault, FileTooLong, WriteFault, NoMemory}
use Rattle.derive_program.specs.Cause.{Reads, IsRunOf, HasCauseIn, IsReadable, IsInputFrom, IsGood, IsFaulty, IsBadLayout, IsWrongLayout, HasReport, IsRefused, IsReported, HasText, of_tables, of_query, of_demo, IsReplied, IsReplyWritten, IsAskable, IsAnswerOf, IsReplyOrNoMemory, IsReplyOrFault, IsUnwritten, IsDoneOrNoMemory, IsDoneOrFault, IsShownOrNoMemory, IsShownOrFault, IfDone, IfShown, IfRefused}
use Rattle.derive_program.specs.Laws.{RepliesAreOne}
use Rattle.derive_program.specs.ProgramInput.{ProgramInput, IsInputOf, texts_of_input, derived_from}
use Rattle.derive_program.specs.Reply.{Reply, IsReply, IsReplyText, reply_in}
use Rattle.derive_program.specs.Shown.{IsShown}
use Rattle.derive_program.specs.Status.{may_write}
use Rattle.derive_program.specs.Writing.{Writes, IsSilent, IsWhole}
use Rattle.std.specs.Result.{result_err}

-- the cause at the answer
pub cause_at : (words : List (List ℕ)) (reads : Reads) (writes : Writes) (ran answered : Ran) → IsRunOf words reads writes ran → ran ≡ answered → IsRunOf words reads writes answered
cause_at words reads writes ran answered cause is = let P : Ran → Type 0 = λ r. IsRunOf words reads writes r in subst P is cause

-- the value, or another where there is none
ok_or : {T E : Type 0} → T → Result T E → T
ok_or other (Ok value) = value
ok_or other (Err error) = other

pub same_ok : {T E : Type 0} (r : Result T E) (a b : T) → r ≡ Ok a → r ≡ Ok b → a ≡ b
unfolding ok_or
same_ok r a b is_a is_b = ap (λ v. ok_or a v) (sym is_a ∙ is_b)

-- the arguments are of one command
one_kind : (r : Result Request ℕ) (t : Tables) (q : Query) → r ≡ Ok (for_tables t) → r ≡ Ok (for_query q) → ⊥
one_kind r t q is_t is_q = cc

not_demo : (r : Result Request ℕ) (t : Tables) (n : ℕ) → r ≡ Ok (for_tables t) → r ≡ Ok (for_demo n) → ⊥
not_demo r t n is_t is_n = cc

no_demo : (r : Result Request ℕ) (q : Query) (n : ℕ) → r ≡ Ok (for_query q) → r ≡ Ok (for_demo n) → ⊥
no_demo r q n is_q is_n = cc

tables_in : Tables → Request → Tables
tables_in other (for_tables command) = command
tables_in other (for_query query) = other
tables_in other (for_demo count) = other

query_in : Query → Request → Query
query_in other (for_tables command) = other
query_in other (for_query query) = query
query_in other (for_demo count) = other

same_tables : (r : Result Request ℕ) (a b : Tables) → r ≡ Ok (for_tables a) → r ≡ Ok (for_tables b) → a ≡ b
unfolding tables_in
same_tables r a b is_a is_b = ap (tables_in a) (same_ok r (for_tables a) (for_tables b) is_a is_b)

pub same_query : (r : Result Request ℕ) (a b : Query) → r ≡ Ok (for_query a) → r ≡ Ok (for_query b) → a ≡ b
unfolding query_in
same_query r a b is_a is_b = ap (query_in a) (same_ok r (for_query a) (for_query b) is_a is_b)

not_both : {T E : Type 0} (r : Result T E) (a : T) (e : E) → r ≡ Ok a → r ≡ Err e → ⊥
not_both r a e is_a is_e = cc

-- arguments that are no command have no text
no_text : (words : List (List ℕ)) (held : Contents) (text : List ℕ) (index : ℕ) → HasText held words text → command_of words ≡ Err index → ⊥
no_text words held text index (of_tables i s o reported) wrong = not_both (command_of words) _ index reported.read.said wrong
no_text words held text index (of_query reply replied) wrong = not_both (command_of words) _ index replied.said wrong
no_text words held text index (of_demo count said summary i s o has) wrong = not_both (command_of words) _ index said wrong

pub bad_words : (words : List (List ℕ)) (reads : Reads) (writes : Writes) (ran : Ran) (index : ℕ) → IsRunOf words reads writes ran → command_of words ≡ Err index → ran ≡ BadWords index
bad_words words reads writes (Done tables) index cause wrong = absurd (not_both (command_of words) _ index cause.reported.read.said wrong)
bad_words words reads writes (Shown summary tables) index cause wrong = absurd (not_both (command_of words) _ index cause.said wrong)
bad_words words reads writes (Refused error) index (cause, same) wrong = absurd (not_both (command_of words) _ index cause.read.said wrong)
bad_words words reads writes (BadWords at) index (is, same) wrong = ap (λ p. BadWords p) (let equal : at ≡ index = same_err (command_of words) at index is wrong in equal)
  where
    err_or : {T : Type 0} → ℕ → Result T ℕ → ℕ
    err_or other (Ok value) = other
    err_or other (Err error) = error

    same_err : {T : Type 0} (r : Result T ℕ) (a b : ℕ) → r ≡ Err a → r ≡ Err b → a ≡ b
    same_err r a b is_a is_b = ap (λ v. err_or a v) (sym is_a ∙ is_b)
bad_words words reads writes (BadLayout line) index (cause, same) wrong = absurd (not_both (command_of words) _ index cause.said wrong)
bad_words words reads writes (ReadFault at) index (cause, same) wrong = absurd (not_both (command_of words) _ index cause.said wrong)
bad_words words reads writes (FileTooLong at) index (cause, same) wrong = absurd (not_both (command_of words) _ index cause.said wrong)
bad_words words reads writes WriteFault index cut wrong = absurd (no_text words reads.held _ index cut.told wrong)
bad_words words reads writes NoMemory index ((command, said), same) wrong = absurd (not_both (command_of words) command index said wrong)
bad_words words reads writes ran index cause wrong = absurd (not_both (command_of words) _ index cause.replied.said wrong)

-- nothing was written for a reply without a text
no_reply_text : (writes : Writes) (text : Option (List ℕ)) → None ≡ text → IsWhole writes text → IsSilent writes
no_reply_text writes text none whole = let P : Option (List ℕ) → Type 0 = λ t. IsWhole writes t in subst P (sym none) whole

pub silent_by : (words : List (List ℕ)) (reads : Reads) (writes : Writes) (ran : Ran) → IsRunOf words reads writes ran → may_write ran ≡ false → IsUnwritten (HasText reads.held words) writes ran
silent_by words reads writes (Done tables) cause never = absurd (false≢true (sym never))
silent_by words reads writes (Found answer) cause never = absurd (false≢true (sym never))
silent_by words reads writes (Located index) cause never = absurd (false≢true (sym never))
silent_by words reads writes (Merged len) cause never = absurd (false≢true (sym never))
silent_by words reads writes (Listed count) cause never = absurd (false≢true (sym never))
silent_by words reads writes (Shown summary tables) cause never = absurd (false≢true (sym never))
silent_by words reads writes WriteFault cause never = absurd (false≢true (sym never))
silent_by words reads writes Absent cause never = no_reply_text writes cause.text cause.replied.text_is cause.whole
silent_by words reads writes (RefusedIndex fault) cause never = no_reply_text writes cause.text cause.replied.text_is cause.whole
silent_by words reads writes (RefusedFrames fault) cause never = no_reply_text writes cause.text cause.replied.text_is cause.whole
silent_by words reads writes (RefusedMerge error) cause never = no_reply_text writes cause.text cause.replied.text_is cause.whole
silent_by words reads writes (RefusedBrowse fault) cause never = no_reply_text writes cause.text cause.replied.text_is cause.whole
silent_by words reads writes NoMemory (cause, none) never = none
silent_by words reads writes ran (cause, silent) never = silent

pub unwritten_by : (words : List (List ℕ)) (reads : Reads) (writes : Writes) (ran : Ran) → IsRunOf words reads writes ran → may_write ran ≡ false → writes.now ≡ writes.written
unwritten_by words reads writes ran cause never = at ran (silent_by words reads writes ran cause never)
  where
    at : (ran : Ran) → IsUnwritten (HasText reads.held words) writes ran → writes.now ≡ writes.written
    at NoMemory none = none.written
    at ran silent = silent.written

pub done_by : (words : List (List ℕ)) (reads : Reads) (writes : Writes) (ran : Ran) → IsRunOf words reads writes ran → IfDone ran (λ index sframe outcome. IsReported (IsInputOf reads.held words) index sframe outcome writes)
done_by words reads writes (Done tables) cause = cause
done_by words reads writes ran cause = tt

pub refused_by : (words : List (List ℕ)) (reads : Reads) (writes : Writes) (ran : Ran) → IsRunOf words reads writes ran → IfRefused ran (λ error. IsRefused (IsInputOf reads.held words) error)
refused_by words reads writes (Refused error) (cause, same) = cause
refused_by words reads writes ran cause = tt

-- an input whose objects are inside its buffer has no bad span
not_span : InsideIsNoBadSpan → (input : ProgramInput) (error : DeriveError) → HasCauseIn input error → AreInside (length input.buffer) input.objects → (index : ℕ) → error ≢ errors.BadSpan index
not_span no_bad_span input error cause inside index is =
    let P : DeriveError → Type 0 = λ e. HasCauseIn input e in
    no_bad_span (derived_from input) index inside (subst P is cause)

pub not_span_by : InsideIsNoBadSpan → (words : List (List ℕ)) (reads : Reads) (writes : Writes) (ran : Ran) → IsRunOf words reads writes ran → IfRefused ran (λ error. (index : ℕ) → error ≢ errors.BadSpan index)
not_span_by law words reads writes (Refused error) (cause, silent) = not_span law cause.input error cause.cause cause.read.inside
not_span_by law words reads writes ran cause = tt

-- what is known, at the files that are known
at_files : (held : Contents) (files : List (List ℕ × List ℕ)) (P : List (List ℕ × List ℕ) → Type 0) → held ≡ Some files → IfSome held P → P files
at_files held files P told fact = let Q : Contents → Type 0 = λ h. IfSome h P in subst Q told fact

-- what is known of a command's files, for the command that the arguments are
read_as : (held : Contents) (words : List (List ℕ)) (good : IsReadable held words) (command : Tables) (r : Result Texts ReadError) → command_of words ≡ Ok (for_tables command) → IfSome held (λ files. read_of files command ≡ r) → read_of good.files good.command ≡ r
read_as held words good command r said told =
    ap (λ c. read_of good.files c) (same_tables (command_of words) good.command command good.said said) ∙ at_files held good.files (λ files. read_of files command ≡ r) good.known told

-- the input of the arguments is one of what was read
input_from : (held : Contents) (words : List (List ℕ)) (good : IsReadable held words) (input : ProgramInput) → IsInputOf held words input → IsInputFrom held words good input
input_from held words good input read =
    let command_is = same_tables (command_of words) read.command good.command read.said good.said in
    let texts_are : texts_of_input input read.text ≡ good.texts = same_ok (read_of good.files good.command) (texts_of_input input read.text) good.texts (read_as held words good read.command _ read.said read.read) good.read in
    let text_is : read.text ≡ good.texts.layout = ap (λ (t : Texts). t.layout) texts_are in
    record {
      machine = read.machine ∙ ap (λ (c : Tables). c.machine) command_is;
      version = read.version ∙ ap (λ (c : Tables). version_of c) command_is;
      layout = same_ok (layout_of good.texts.layout) input.layout good.layout (ap layout_of (sym text_is) ∙ read.laid) good.laid;
      files = ap (λ t. texts_of_input input t) (sym text_is) ∙ texts_are;
      inside = read.inside;
    }

-- what is read has no other answer of the steps before the tables
no_line : (held : Contents) (words : List (List ℕ)) (line : ℕ) → IsReadable held words → IsBadLayout held words line → ⊥
no_line held words line good cause =
    let texts_are = same_ok (read_of good.files good.command) cause.texts good.texts (read_as held words good cause.command _ cause.said cause.read) good.read in
    not_both (layout_of good.texts.layout) good.layout line good.laid (ap (λ (t : Texts). layout_of t.layout) (sym texts_are) ∙ cause.wrong)

-- files that are read have no fault
no_fault_of : {T : Type 0} (r : Result T ReadError) (value : T) (error : ReadError) → r ≡ Ok value → result_err r ≡ Some error → ⊥
no_fault_of {T} r value error is fault = not_some (sym (ap (λ (x : Result T ReadError). result_err x) is) ∙ fault)
  where
    not_some : {X : Type 0} {x : X} → ◌≡◌ {A = Option X} None (Some x) → ⊥
    not_some same = cc

all_read : (held : Contents) (words : List (List ℕ)) (error : ReadError) (command : Request) → IsReadable held words → command_of words ≡ Ok command → IfSome held (λ files. reading_fault files command ≡ Some error) → ⊥
all_read held words error command good said told =
    no_fault_of (read_of good.files good.command) good.texts error good.read
    (let P : Request → Type 0 = λ c. reading_fault good.files c ≡ Some error in
    subst P (same_ok (command_of words) command (for_tables good.command) said good.said) (at_files held good.files (λ files. reading_fault files command ≡ Some error) good.known told))

pub complete_by : (words : List (List ℕ)) (reads : Reads) (writes : Writes) (ran : Ran) → IsRunOf words reads writes ran → IsGood reads.held words → (Rose reads.faults reads.faults_now → ⊥) ⊎ IsTrue reads.steady → (Rose writes.faults writes.faults_now → ⊥) ⊎ IsTrue writes.steady → IsDoneOrNoMemory ran
complete_by words reads writes (Done tables) cause good files sink = tt
complete_by words reads writes (Shown summary tables) cause good files sink = not_demo (command_of words) good.readable.command cause.count good.readable.said cause.said
complete_by words reads writes (Refused error) (cause, same) good files sink = cause.no_tables (good.valid cause.input (input_from reads.held words good.readable cause.input cause.read))
complete_by words reads writes (BadWords index) (wrong, same) good files sink = not_both (command_of words) (for_tables good.readable.command) index good.readable.said wrong
complete_by words reads writes (BadLayout line) (cause, same) good files sink = no_line reads.held words line good.readable cause
complete_by words reads writes (ReadFault index) (cause, same) good (inl quiet) sink = quiet cause.rose
complete_by words reads writes (ReadFault index) (cause, same) good (inr steady) sink = all_read reads.held words _ cause.command good.readable cause.said (cause.missing steady)
complete_by words reads writes (FileTooLong index) (cause, same) good files sink = all_read reads.held words _ cause.command good.readable cause.said cause.longer
complete_by words reads writes WriteFault cut good files (inl quiet) = quiet cut.put.rose
complete_by words reads writes WriteFault cut good files (inr steady) = cut.put.never steady
complete_by words reads writes NoMemory cause good files sink = tt
complete_by words reads writes ran cause good files sink = one_kind (command_of words) good.readable.command cause.replied.query good.readable.said cause.replied.said

pub complete_or_fault_by : (words : List (List ℕ)) (reads : Reads) (writes : Writes) (ran : Ran) → IsRunOf words reads writes ran → IsGood reads.held words → IsDoneOrFault ran
complete_or_fault_by words reads writes (Done tables) cause good = tt
complete_or_fault_by words reads writes (Shown summary tables) cause good = not_demo (command_of words) good.readable.command cause.count good.readable.said cause.said
complete_or_fault_by words reads writes (Refused error) (cause, same) good = cause.no_tables (good.valid cause.input (input_from reads.held words good.readable cause.input cause.read))
complete_or_fault_by words reads writes (BadWords index) (wrong, same) good = not_both (command_of words) (for_tables good.readable.command) index good.readable.said wrong
complete_or_fault_by words reads writes (BadLayout line) (cause, same) good = no_line reads.held words line good.readable cause
complete_or_fault_by words reads writes (ReadFault index) cause good = tt
complete_or_fault_by words reads writes (FileTooLong index) (cause, same) good = all_read reads.held words _ cause.command good.readable cause.said cause.longer
complete_or_fault_by words reads writes WriteFault cause good = tt
complete_or_fault_by words reads writes NoMemory cause good = tt
complete_or_fault_by words reads writes ran cause good = one_kind (command_of words) good.readable.command cause.replied.query good.readable.said cause.replied.said

-- what is refused has no report
no_report : (held : Contents) (words : List (List ℕ)) (error : DeriveError) (index sframe text : List ℕ) (outcome : SframeOutcome) → IsFaulty held words error → HasReport (IsInputOf held words) index sframe outcome text → ⊥
no_report held words error index sframe text outcome bad reported =
    reported.no_cause error (bad.cause reported.input (input_from held words bad.readable reported.input reported.read))

no_report_text : (held : Contents) (words : List (List ℕ)) (error : DeriveError) (text : List ℕ) → IsFaulty held words error → HasText held words text → ⊥
no_report_text held words error text bad (of_tables index sframe outcome reported) = no_report held words error index sframe text outcome bad reported
no_report_text held words error text bad (of_query reply replied) = one_kind (command_of words) bad.readable.command replied.query bad.readable.said replied.said
no_report_text held words error text bad (of_demo count said summary i s o has) = not_demo (command_of words) bad.readable.command count bad.readable.said said

pub refused_exact_by : (words : List (List ℕ)) (reads : Reads) (writes : Writes) (error : DeriveError) (ran : Ran) → IsRunOf words reads writes ran → IsFaulty reads.held words error → (Rose reads.faults reads.faults_now → ⊥) ⊎ IsTrue reads.steady → (ran ≡ Refused error) ⊎ (ran ≡ NoMemory)
refused_exact_by words reads writes error (Done tables) cause bad files = absurd (no_report reads.held words error _ _ _ _ bad cause.reported)
refused_exact_by words reads writes error (Shown summary tables) cause bad files = absurd (not_demo (command_of words) bad.readable.command cause.count bad.readable.said cause.said)
refused_exact_by words reads writes error (Refused answered) (cause, same) bad files =
    let is : error ≡ answered = cause.only error (bad.cause cause.input (input_from reads.held words bad.readable cause.input cause.read)) in
    inl (ap (λ e. Refused e) (sym is))
refused_exact_by words reads writes error (BadWords index) (wrong, same) bad files = absurd (not_both (command_of words) (for_tables bad.readable.command) index bad.readable.said wrong)
refused_exact_by words reads writes error (BadLayout line) (cause, same) bad files = absurd (no_line reads.held words line bad.readable cause)
refused_exact_by words reads writes error (ReadFault index) (cause, same) bad (inl quiet) = absurd (quiet cause.rose)
refused_exact_by words reads writes error (ReadFault index) (cause, same) bad (inr steady) = absurd (all_read reads.held words _ cause.command bad.readable cause.said (cause.missing steady))
refused_exact_by words reads writes error (FileTooLong index) (cause, same) bad files = absurd (all_read reads.held words _ cause.command bad.readable cause.said cause.longer)
refused_exact_by words reads writes error WriteFault cut bad files = absurd (no_report_text reads.held words error _ bad cut.told)
refused_exact_by words reads writes error NoMemory cause bad files = inr refl
refused_exact_by words reads writes error ran cause bad files = absurd (one_kind (command_of words) bad.readable.command cause.replied.query bad.readable.said cause.replied.said)

-- the arguments are a command whose files are known and read, and its layout is wrong at this line
layout_only : (words : List (List ℕ)) (held : Contents) (line : ℕ) (wrong : IsWrongLayout held words line) (command : Tables) (texts : Texts) → command_of words ≡ Ok (for_tables command) → IfSome held (λ files. read_of files command ≡ Ok texts) → layout_of texts.layout ≡ Err line
layout_only words held line wrong command texts said told =
    let texts_are = same_ok (read_of wrong.files wrong.command) texts wrong.texts (told_of held words line wrong command _ said told) wrong.read in
    ap (λ (t : Texts). layout_of t.layout) texts_are ∙ wrong.wrong
  where
    told_of : (held : Contents) (words : List (List ℕ)) (line : ℕ) (wrong : IsWrongLayout held words line) (command : Tables) (r : Result Texts ReadError) → command_of words ≡ Ok (for_tables command) → IfSome held (λ files. read_of files command ≡ r) → read_of wrong.files wrong.command ≡ r
    told_of held words line wrong command r said told =
        ap (λ c. read_of wrong.files c) (same_tables (command_of words) wrong.command command wrong.said said) ∙ at_files held wrong.files (λ files. read_of files command ≡ r) wrong.known told

wrong_input : (words : List (List ℕ)) (held : Contents) (line : ℕ) (input : ProgramInput) → IsWrongLayout held words line → IsInputOf held words input → ⊥
wrong_input words held line input wrong read =
    not_both (layout_of read.text) input.layout line read.laid (layout_only words held line wrong read.command (texts_of_input input read.text) read.said read.read)

not_read : (words : List (List ℕ)) (held : Contents) (line : ℕ) (error : ReadError) (command : Request) → IsWrongLayout held words line → command_of words ≡ Ok command → IfSome held (λ files. reading_fault files command ≡ Some error) → ⊥
not_read words held line error command wrong said told =
    no_fault_of (read_of wrong.files wrong.command) wrong.texts error wrong.read
    (let P : Request → Type 0 = λ c. reading_fault wrong.files c ≡ Some error in
    subst P (same_ok (command_of words) command (for_tables wrong.command) said wrong.said) (at_files held wrong.files (λ files. reading_fault files command ≡ Some error) wrong.known told))

wrong_text : (words : List (List ℕ)) (held : Contents) (line : ℕ) (text : List ℕ) → IsWrongLayout held words line → HasText held words text → ⊥
wrong_text words held line text wrong (of_tables index sframe outcome reported) = wrong_input words held line reported.input wrong reported.read
wrong_text words held line text wrong (of_query reply replied) = one_kind (command_of words) wrong.command replied.query wrong.said replied.said
wrong_text words held line text wrong (of_demo count said summary i s o has) = not_demo (command_of words) wrong.command count wrong.said said

same_line : {T : Type 0} (r : Result T ℕ) (a b : ℕ) → r ≡ Err a → r ≡ Err b → a ≡ b
same_line r a b is_a is_b = cc

pub layout_exact_by : (words : List (List ℕ)) (reads : Reads) (writes : Writes) (line : ℕ) (ran : Ran) → IsRunOf words reads writes ran → IsWrongLayout reads.held words line → (Rose reads.faults reads.faults_now → ⊥) ⊎ IsTrue reads.steady → (ran ≡ BadLayout line) ⊎ (ran ≡ NoMemory)
layout_exact_by words reads writes line (Done tables) cause wrong files = absurd (wrong_input words reads.held line cause.reported.input wrong cause.reported.read)
layout_exact_by words reads writes line (Shown summary tables) cause wrong files = absurd (not_demo (command_of words) wrong.command cause.count wrong.said cause.said)
layout_exact_by words reads writes line (Refused error) (cause, same) wrong files = absurd (wrong_input words reads.held line cause.input wrong cause.read)
layout_exact_by words reads writes line (BadWords index) (is, same) wrong files = absurd (not_both (command_of words) (for_tables wrong.command) index wrong.said is)
layout_exact_by words reads writes line (BadLayout at) (cause, same) wrong files =
    inl (ap (λ n. BadLayout n) (same_line (layout_of cause.texts.layout) at line cause.wrong (layout_only words reads.held line wrong cause.command cause.texts cause.said cause.read)))
layout_exact_by words reads writes line (ReadFault index) (cause, same) wrong (inl quiet) = absurd (quiet cause.rose)
layout_exact_by words reads writes line (ReadFault index) (cause, same) wrong (inr steady) = absurd (not_read words reads.held line _ cause.command wrong cause.said (cause.missing steady))
layout_exact_by words reads writes line (FileTooLong index) (cause, same) wrong files = absurd (not_read words reads.held line _ cause.command wrong cause.said cause.longer)
layout_exact_by words reads writes line WriteFault cut wrong files = absurd (wrong_text words reads.held line _ wrong cut.told)
layout_exact_by words reads writes line NoMemory cause wrong files = inr refl
layout_exact_by words reads writes line ran cause wrong files = absurd (one_kind (command_of words) wrong.command cause.replied.query wrong.said cause.replied.said)

-- the same reply
reply_as : (held : Contents) (words : List (List ℕ)) (writes : Writes) (a b : Reply) → ◌≡◌ {A = Option Reply} (Some a) (Some b) → IsReplyWritten held words a writes → IsReplyWritten held words b writes
reply_as held words writes a b is written = let P : Option Reply → Type 0 = λ r. IfSome r (λ x. IsReplyWritten held words x writes) in subst P is written

not_some : {X : Type 0} {x : X} → ◌≡◌ {A = Option X} None (Some x) → ⊥
not_some same = cc

-- the clauses of queries
pub replied_by : (words : List (List ℕ)) (reads : Reads) (writes : Writes) (ran : Ran) (reply : Reply) → IsRunOf words reads writes ran → reply_in ran ≡ Some reply → IsReplyWritten reads.held words reply writes
replied_by words reads writes (Found answer) reply cause is = reply_as reads.held words writes _ reply is cause
replied_by words reads writes (Located index) reply cause is = reply_as reads.held words writes _ reply is cause
replied_by words reads writes (Merged len) reply cause is = reply_as reads.held words writes _ reply is cause
replied_by words reads writes (Listed count) reply cause is = reply_as reads.held words writes _ reply is cause
replied_by words reads writes Absent reply cause is = reply_as reads.held words writes _ reply is cause
replied_by words reads writes (RefusedIndex fault) reply cause is = reply_as reads.held words writes _ reply is cause
replied_by words reads writes (RefusedFrames fault) reply cause is = reply_as reads.held words writes _ reply is cause
replied_by words reads writes (RefusedMerge error) reply cause is = reply_as reads.held words writes _ reply is cause
replied_by words reads writes (RefusedBrowse fault) reply cause is = reply_as reads.held words writes _ reply is cause
replied_by words reads writes ran reply cause is = absurd (not_some is)

-- the query of the arguments, and the bytes of its file, are those that were read
same_asked : (held : Contents) (words : List (List ℕ)) (good : IsAskable held words) (reply : Reply) (text : Option (List ℕ)) (replied : IsReplied held words reply text) → (replied.query ≡ good.query) × (replied.bytes ≡ good.bytes)
same_asked held words good reply text replied =
    let query_is = same_query (command_of words) replied.query good.query replied.said good.said in
    let read : asked_files good.files good.query ≡ Ok replied.bytes = ap (λ q. asked_files good.files q) (sym query_is) ∙ at_files held good.files (λ files. asked_files files replied.query ≡ Ok replied.bytes) good.known replied.read in
    (query_is, same_ok (asked_files good.files good.query) replied.bytes good.bytes read good.read)

-- it is the one reply for these bytes
same_replied : RepliesAreOne → (held : Contents) (words : List (List ℕ)) (good : IsAskable held words) (reply other : Reply) (text : Option (List ℕ)) → IsReply good.query good.bytes reply → IsReplied held words other text → other ≡ reply
same_replied one held words good reply other text replies replied =
    let same = same_asked held words good other text replied in
    let P : Query → Type 0 = λ q. IsReply q replied.bytes other in
    let Q : List (List ℕ) → Type 0 = λ b. IsReply good.query b other in
    one good.query good.bytes other reply (subst Q same.1 (subst P same.0 replied.replies)) replies

same_reply_text : RepliesAreOne → (held : Contents) (words : List (List ℕ)) (good : IsAskable held words) (reply other : Reply) (text : Option (List ℕ)) → IsReply good.query good.bytes reply → IsReplied held words other text → IsReplyText good.query good.bytes reply text
same_reply_text one held words good reply other text replies replied =
    let same = same_asked held words good other text replied in
    let P : Query → Type 0 = λ q. IsReplyText q replied.bytes other text in
    let Q : List (List ℕ) → Type 0 = λ b. IsReplyText good.query b other text in
    let R : Reply → Type 0 = λ r. IsReplyText good.query good.bytes r text in
    subst R (same_replied one held words good reply other text replies replied) (subst Q same.1 (subst P same.0 replied.text_is))

no_asked_fault : (held : Contents) (words : List (List ℕ)) (error : ReadError) (command : Request) → IsAskable held words → command_of words ≡ Ok command → IfSome held (λ files. reading_fault files command ≡ Some error) → ⊥
no_asked_fault held words error command good said told =
    no_fault_of (asked_files good.files good.query) good.bytes error good.read
    (let P : Request → Type 0 = λ c. reading_fault good.files c ≡ Some error in
    subst P (same_ok (command_of words) command (for_query good.query) said good.said) (at_files held good.files (λ files. reading_fault files command ≡ Some error) good.known told))

pub reply_exact_by : RepliesAreOne → (words : List (List ℕ)) (reads : Reads) (writes : Writes) (ran : Ran) → IsRunOf words reads writes ran → (good : IsAskable reads.held words) (reply : Reply) → IsReply good.query good.bytes reply → (Rose reads.faults reads.faults_now → ⊥) ⊎ IsTrue reads.steady → IsAnswerOf good.query good.bytes reply ran
reply_exact_by one words reads writes (Done tables) cause good reply replies files = absurd (one_kind (command_of words) cause.reported.read.command good.query cause.reported.read.said good.said)
reply_exact_by one words reads writes (Shown summary tables) cause good reply replies files = absurd (no_demo (command_of words) good.query cause.count good.said cause.said)
reply_exact_by one words reads writes (Refused error) (cause, silent) good reply replies files = absurd (one_kind (command_of words) cause.read.command good.query cause.read.said good.said)
reply_exact_by one words reads writes (BadWords index) (wrong, silent) good reply replies files = absurd (not_both (command_of words) (for_query good.query) index good.said wrong)
reply_exact_by one words reads writes (BadLayout line) (cause, silent) good reply replies files = absurd (one_kind (command_of words) cause.command good.query cause.said good.said)
reply_exact_by one words reads writes (ReadFault index) (cause, silent) good reply replies (inl quiet) = absurd (quiet cause.rose)
reply_exact_by one words reads writes (ReadFault index) (cause, silent) good reply replies (inr steady) = absurd (no_asked_fault reads.held words _ cause.command good cause.said (cause.missing steady))
reply_exact_by one words reads writes (FileTooLong index) (cause, silent) good reply replies files = absurd (no_asked_fault reads.held words _ cause.command good cause.said cause.longer)
reply_exact_by one words reads writes WriteFault cut good reply replies files = at cut.text cut.told
  where
    at : (text : List ℕ) → HasText reads.held words text → IsAnswerOf good.query good.bytes reply WriteFault
    at text (of_tables index sframe outcome reported) = absurd (one_kind (command_of words) reported.read.command good.query reported.read.said good.said)
    at text (of_demo count said summary i s o has) = absurd (no_demo (command_of words) good.query count good.said said)
    at text (of_query other replied) = inr (inl (refl, (text, same_reply_text one reads.held words good reply other (Some text) replies replied)))
reply_exact_by one words reads writes NoMemory cause good reply replies files = inr (inr refl)
reply_exact_by one words reads writes ran cause good reply replies files = inl (ap (λ r. Some r) (same_replied one reads.held words good reply _ cause.text replies cause.replied))

pub reply_complete_by : (words : List (List ℕ)) (reads : Reads) (writes : Writes) (ran : Ran) → IsRunOf words reads writes ran → IsAskable reads.held words → (Rose reads.faults reads.faults_now → ⊥) ⊎ IsTrue reads.steady → (Rose writes.faults writes.faults_now → ⊥) ⊎ IsTrue writes.steady → IsReplyOrNoMemory ran
reply_complete_by words reads writes (Done tables) cause good files sink = absurd (one_kind (command_of words) cause.reported.read.command good.query cause.reported.read.said good.said)
reply_complete_by words reads writes (Shown summary tables) cause good files sink = absurd (no_demo (command_of words) good.query cause.count good.said cause.said)
reply_complete_by words reads writes (Refused error) (cause, silent) good files sink = absurd (one_kind (command_of words) cause.read.command good.query cause.read.said good.said)
reply_complete_by words reads writes (BadWords index) (wrong, silent) good files sink = absurd (not_both (command_of words) (for_query good.query) index good.said wrong)
reply_complete_by words reads writes (BadLayout line) (cause, silent) good files sink = absurd (one_kind (command_of words) cause.command good.query cause.said good.said)
reply_complete_by words reads writes (ReadFault index) (cause, silent) good (inl quiet) sink = absurd (quiet cause.rose)
reply_complete_by words reads writes (ReadFault index) (cause, silent) good (inr steady) sink = absurd (no_asked_fault reads.held words _ cause.command good cause.said (cause.missing steady))
reply_complete_by words reads writes (FileTooLong index) (cause, silent) good files sink = absurd (no_asked_fault reads.held words _ cause.command good cause.said cause.longer)
reply_complete_by words reads writes WriteFault cut good files (inl quiet) = absurd (quiet cut.put.rose)
reply_complete_by words reads writes WriteFault cut good files (inr steady) = absurd (cut.put.never steady)
reply_complete_by words reads writes NoMemory cause good files sink = tt
reply_complete_by words reads writes ran cause good files sink = refl

pub reply_or_fault_by : (words : List (List ℕ)) (reads : Reads) (writes : Writes) (ran : Ran) → IsRunOf words reads writes ran → IsAskable reads.held words → IsReplyOrFault ran
reply_or_fault_by words reads writes (Done tables) cause good = absurd (one_kind (command_of words) cause.reported.read.command good.query cause.reported.read.said good.said)
reply_or_fault_by words reads writes (Shown summary tables) cause good = absurd (no_demo (command_of words) good.query cause.count good.said cause.said)
reply_or_fault_by words reads writes (Refused error) (cause, silent) good = absurd (one_kind (command_of words) cause.read.command good.query cause.read.said good.said)
reply_or_fault_by words reads writes (BadWords index) (wrong, silent) good = absurd (not_both (command_of words) (for_query good.query) index good.said wrong)
reply_or_fault_by words reads writes (BadLayout line) (cause, silent) good = absurd (one_kind (command_of words) cause.command good.query cause.said good.said)
reply_or_fault_by words reads writes (ReadFault index) cause good = tt
reply_or_fault_by words reads writes (FileTooLong index) (cause, silent) good = absurd (no_asked_fault reads.held words _ cause.command good cause.said cause.longer)
reply_or_fault_by words reads writes WriteFault cause good = tt
reply_or_fault_by words reads writes NoMemory cause good = tt
reply_or_fault_by words reads writes ran cause good = refl

-- the clauses of `demo`
pub shown_by : (words : List (List ℕ)) (reads : Reads) (writes : Writes) (ran : Ran) → IsRunOf words reads writes ran → IfShown ran (λ summary index sframe outcome. IsShown words summary index sframe outcome writes)
shown_by words reads writes (Shown summary tables) cause = cause
shown_by words reads writes ran cause = tt

-- `demo` names no file
no_file : (words : List (List ℕ)) (command : Request) (count index : ℕ) → command_of words ≡ Ok command → command_of words ≡ Ok (for_demo count) → NamesFile command index → ⊥
no_file words command count index said is names =
    let P : Request → Type 0 = λ c. NamesFile c index in
    subst P (same_ok (command_of words) command (for_demo count) said is) names

pub shown_or_fault_by : (words : List (List ℕ)) (reads : Reads) (writes : Writes) (ran : Ran) (count : ℕ) → IsRunOf words reads writes ran → command_of words ≡ Ok (for_demo count) → IsShownOrFault ran
shown_or_fault_by words reads writes (Done tables) count cause said = not_demo (command_of words) cause.reported.read.command count cause.reported.read.said said
shown_or_fault_by words reads writes (Shown summary tables) count cause said = tt
shown_or_fault_by words reads writes (Refused error) count (cause, silent) said = not_demo (command_of words) cause.read.command count cause.read.said said
shown_or_fault_by words reads writes (BadWords index) count (wrong, silent) said = not_both (command_of words) (for_demo count) index said wrong
shown_or_fault_by words reads writes (BadLayout line) count (cause, silent) said = not_demo (command_of words) cause.command count cause.said said
shown_or_fault_by words reads writes (ReadFault index) count (cause, silent) said = no_file words cause.command count index cause.said said cause.names
shown_or_fault_by words reads writes (FileTooLong index) count (cause, silent) said = no_file words cause.command count index cause.said said cause.names
shown_or_fault_by words reads writes WriteFault count cause said = tt
shown_or_fault_by words reads writes NoMemory count cause said = tt
shown_or_fault_by words reads writes ran count cause said = no_demo (command_of words) cause.replied.query count cause.replied.said said

pub shown_complete_by : (words : List (List ℕ)) (reads : Reads) (writes : Writes) (ran : Ran) (count : ℕ) → IsRunOf words reads writes ran → command_of words ≡ Ok (for_demo count) → (Rose writes.faults writes.faults_now → ⊥) ⊎ IsTrue writes.steady → IsShownOrNoMemory ran
shown_complete_by words reads writes ran count cause said sink = at ran (shown_or_fault_by words reads writes ran count cause said) cause sink
  where
    at : (ran : Ran) → IsShownOrFault ran → IsRunOf words reads writes ran → (Rose writes.faults writes.faults_now → ⊥) ⊎ IsTrue writes.steady → IsShownOrNoMemory ran
    at (Shown summary tables) shown cause sink = tt
    at WriteFault shown cut (inl quiet) = quiet cut.put.rose
    at WriteFault shown cut (inr steady) = cut.put.never steady
    at NoMemory shown cause sink = tt
    at ran never cause sink = absurd never

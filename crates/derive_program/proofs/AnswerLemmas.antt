-- From what the tables and the writing came to, to the answer.
use Rattle.std.proofs.Common.{◌≡◌, ℕ, List, Option, Some, Ok, refl, sym, ap, subst, ◌∙◌, ◌⊎◌, inl, inr}
use Rattle.elf_format.specs.declared.architecture.Architecture.{Architecture}
use Rattle.elf_format.specs.declared.index.Span.{Span}
use Rattle.gdb_index_format.specs.declared.version.IndexVersion.{IndexVersion}
use Rattle.gdb_index_format.specs.declared.placement.Placement.{Placement}
use Rattle.gdb_index_format.specs.declared.unit.CuBoundary.{CuBoundary}
use Rattle.gdb_index_format.specs.declared.name_words.NameWords.{NameWords}
use Rattle.sframe_format.specs.declared.fault.SframeOutcome.{SframeOutcome}
use Rattle.derivation.specs.declared.error.DeriveError.{DeriveError}
use Rattle.derivation.specs.declared.error.DeriveError.TheVariants as errors
use Rattle.program_files.specs.declared.files_read.FilesRead.{FilesRead}
use Rattle.program_text.specs.Layout.{LayoutEntries, layout_of}
use Rattle.program_text.specs.declared.demo.Summary.{Summary}
use Rattle.program_text.specs.Demo.{shown_of}
use Rattle.program_text.specs.Query.{Query}
use Rattle.program_text.specs.Lines.{text_of}
use Rattle.program_text.specs.Report.{start_lines, whole_text}
use Rattle.derive_program.specs.declared.ran.Ran.{Ran}
use Rattle.derive_program.specs.declared.ran.Ran.TheVariants.{Done, Shown, Refused, WriteFault, NoMemory}
use Rattle.derive_program.specs.steps.Answer.{program_input_of, IsInputOfFiles, IsReportOfFiles, IsAnswerFor, IsRefusalOf, IsWritingOf, IsReplyWriting, IsTextWritten, IsReplyOf, IsQueryAnswer, IsSummaryWriting, IsTextOfDemo, IsDemoAnswer}
use Rattle.derive_program.specs.Cause.{HasCauseIn, HasReport, IsAttempted}
use Rattle.derive_program.specs.ProgramInput.{ProgramInput, AreTablesOf, HasTables}
use Rattle.derive_program.specs.Reply.{Reply, names_listed, index_merged, IsReply, IsReplyText}
use Rattle.derive_program.specs.Shown.{numbered_input, summary_of, HasSummary}
use Rattle.derive_program.specs.Writing.{Writes, IsSilent, IsPutOnce, IsReportWritten, IsWhole}

-- an input of these parts
abbrev pub input_with : Architecture → IndexVersion → ℕ → List Placement → List Span → List ℕ → List Span → List ℕ → ProgramInput
input_with machine version base placements ranges buffer objects sframe =
    record { machine = machine; version = version; layout = record { placements = placements; ranges = ranges; base = base }; buffer = buffer; objects = objects; sframe = sframe }

pub same_input : (machine : Architecture) (version : IndexVersion) (base : ℕ) (placements placements' : List Placement) (ranges ranges' : List Span) (buffer buffer' : List ℕ) (objects objects' : List Span) (sframe sframe' : List ℕ) → placements ≡ placements' → ranges ≡ ranges' → buffer ≡ buffer' → objects ≡ objects' → sframe ≡ sframe' → input_with machine version base placements ranges buffer objects sframe ≡ input_with machine version base placements' ranges' buffer' objects' sframe'
same_input machine version base placements placements' ranges ranges' buffer buffer' objects objects' sframe sframe' p r b o s =
    ap (λ x. input_with machine version base x ranges buffer objects sframe) p
    ∙ ap (λ x. input_with machine version base placements' x buffer objects sframe) r
    ∙ ap (λ x. input_with machine version base placements' ranges' x objects sframe) b
    ∙ ap (λ x. input_with machine version base placements' ranges' buffer' x sframe) o
    ∙ ap (λ x. input_with machine version base placements' ranges' buffer' objects' x) s

-- what holds of an input holds of the same input
pub of_same : (given input : ProgramInput) (P : ProgramInput → Type 0) → given ≡ input → P given → P input
of_same given input P same holds = subst P same holds

-- tables by the names of their parts
tables_named : (input : ProgramInput) (units : List CuBoundary) (names : List NameWords) (index index' sframe sframe' : List ℕ) (outcome outcome' : SframeOutcome) → index' ≡ index → sframe' ≡ sframe → outcome' ≡ outcome → AreTablesOf input units names index sframe outcome → AreTablesOf input units names index' sframe' outcome'
tables_named input units names index index' sframe sframe' outcome outcome' i s o tables =
    let P : List ℕ → Type 0 = λ x. AreTablesOf input units names x sframe outcome in
    let Q : List ℕ → Type 0 = λ x. AreTablesOf input units names index' x outcome in
    let R : SframeOutcome → Type 0 = λ x. AreTablesOf input units names index' sframe' x in
    subst R (sym o) (subst Q (sym s) (subst P (sym i) tables))

-- files with their layout are the input of their parts
files_input : (machine : Architecture) (version : IndexVersion) (files : FilesRead) (layout : LayoutEntries) → layout_of files.layout.items ≡ Ok layout → IsInputOfFiles machine version files (program_input_of machine version files layout)
files_input machine version files layout laid = record { layout = layout; laid = laid; is = refl }

-- the report of tables, by its start
pub started_report : (machine : Architecture) (version : IndexVersion) (files : FilesRead) (layout : LayoutEntries) (units : List CuBoundary) (names : List NameWords) (index index' sframe sframe' : List ℕ) (outcome outcome' : SframeOutcome) (start : List ℕ) → layout_of files.layout.items ≡ Ok layout → AreTablesOf (program_input_of machine version files layout) units names index sframe outcome → ((error : DeriveError) → HasCauseIn (program_input_of machine version files layout) error → ⊥) → start ≡ text_of (start_lines units names outcome) → index' ≡ index → sframe' ≡ sframe → outcome' ≡ outcome → HasReport (IsInputOfFiles machine version files) index' sframe' outcome' (whole_text start index' sframe')
started_report machine version files layout units names index index' sframe sframe' outcome outcome' start laid are none t i s o = record {
  input = program_input_of machine version files layout;
  read = files_input machine version files layout laid;
  units = units;
  names = names;
  tables = tables_named (program_input_of machine version files layout) units names index index' sframe sframe' outcome outcome' i s o are;
  no_cause = none;
  report = ap (λ x. whole_text x index' sframe') t ∙ ap (λ x. whole_text (text_of (start_lines units names x)) index' sframe') (sym o);
}

-- a report by the names of its tables
report_named : (Of : ProgramInput → Type 0) (index index' sframe sframe' : List ℕ) (outcome outcome' : SframeOutcome) (text : List ℕ) → index' ≡ index → sframe' ≡ sframe → outcome' ≡ outcome → HasReport Of index sframe outcome text → HasReport Of index' sframe' outcome' text
report_named Of index index' sframe sframe' outcome outcome' text i s o reported =
    let P : List ℕ → Type 0 = λ x. HasReport Of x sframe outcome text in
    let Q : List ℕ → Type 0 = λ x. HasReport Of index' x outcome text in
    let R : SframeOutcome → Type 0 = λ x. HasReport Of index' sframe' x text in
    subst R (sym o) (subst Q (sym s) (subst P (sym i) reported))

-- there was no call, or one with the report
calls_with : (machine : Architecture) (version : IndexVersion) (files : FilesRead) (index sframe : List ℕ) (outcome : SframeOutcome) (text : List ℕ) (writes : Writes) → HasReport (IsInputOfFiles machine version files) index sframe outcome text → (writes.puts_now ≡ writes.puts) ⊎ IsPutOnce writes text → (writes.puts_now ≡ writes.puts) ⊎ IsAttempted (IsReportOfFiles machine version files) writes
calls_with machine version files index sframe outcome text writes reported (inl none) = inl none
calls_with machine version files index sframe outcome text writes reported (inr once) =
    inr (record { text = text; told = (index, sframe, outcome, reported); once = once })

-- from the writing of the report to the answer
pub after_writing : (machine : Architecture) (version : IndexVersion) (files : FilesRead) (index sframe : List ℕ) (outcome : SframeOutcome) (text : List ℕ) (writes : Writes) (ran : Ran) → HasReport (IsInputOfFiles machine version files) index sframe outcome text → IsWritingOf index sframe outcome text writes ran → IsAnswerFor machine version files writes ran
after_writing machine version files index sframe outcome text writes (Done tables) reported (i, s, o, put) = record {
  text = text;
  reported = report_named (IsInputOfFiles machine version files) _ _ _ _ _ _ text i s o reported;
  put = put;
}
after_writing machine version files index sframe outcome text writes WriteFault reported put = record { text = text; told = (index, sframe, outcome, reported); put = put }
after_writing machine version files index sframe outcome text writes NoMemory reported (same, calls) = record {
  written = same;
  calls = calls_with machine version files index sframe outcome text writes reported calls;
}
after_writing machine version files index sframe outcome text writes ran reported never = absurd never

pub after_refusal : (machine : Architecture) (version : IndexVersion) (files : FilesRead) (layout : LayoutEntries) (error : DeriveError) (writes : Writes) (ran : Ran) → layout_of files.layout.items ≡ Ok layout → (error ≡ errors.NoMemory) ⊎ HasCauseIn (program_input_of machine version files layout) error → (HasTables (program_input_of machine version files layout) → error ≡ errors.NoMemory) → ((other : DeriveError) → HasCauseIn (program_input_of machine version files layout) other → (error ≡ other) ⊎ (error ≡ errors.NoMemory)) → IsSilent writes → IsRefusalOf error ran → IsAnswerFor machine version files writes ran
after_refusal machine version files layout error writes (Refused answered) laid cause complete exact silent (is, not_memory) = (
  record {
    input = program_input_of machine version files layout;
    read = files_input machine version files layout laid;
    cause = let P : DeriveError → Type 0 = λ e. HasCauseIn (program_input_of machine version files layout) e in elim cause [ inl memory ↦ absurd (not_memory memory) | inr other ↦ subst P (sym is) other ];
    not_memory = λ e. not_memory (sym is ∙ e);
    only = λ other has. elim (exact other has) [ inl e ↦ sym e ∙ sym is | inr e ↦ absurd (not_memory e) ];
    no_tables = λ has. not_memory (complete has);
  },
  silent,
)
after_refusal machine version files layout error writes NoMemory laid cause complete exact silent is = record { written = silent.written; calls = inl silent.puts }
after_refusal machine version files layout error writes ran laid cause complete exact silent never = absurd never

-- the text of a reply was written, by cases on the reply
text_written : (query : Query) (bytes : List (List ℕ)) (reply : Reply) (text : List ℕ) (writes : Writes) → IsReplyText query bytes reply (Some text) → IsReportWritten writes text → IsTextWritten query bytes writes reply
text_written query bytes (names_listed count) text writes is put = record { text = Some text; is = is; whole = put }
text_written query bytes (index_merged len) text writes is put = record { text = Some text; is = is; whole = put }
text_written query bytes reply text writes is put = let P : Option (List ℕ) → Type 0 = λ t. IsWhole writes t in subst P (sym is) put

-- from the writing of a reply's text to the answer of the query
pub after_reply : (query : Query) (bytes : List (List ℕ)) (reply : Reply) (text : List ℕ) (writes : Writes) (ran : Ran) → IsReply query bytes reply → IsReplyText query bytes reply (Some text) → IsReplyWriting reply text writes ran → IsQueryAnswer query bytes writes ran
after_reply query bytes reply text writes WriteFault replies is put = record { text = text; told = (reply, replies, is); put = put }
after_reply query bytes reply text writes NoMemory replies is (same, inl none) = record { written = same; calls = inl none }
after_reply query bytes reply text writes NoMemory replies is (same, inr once) = record { written = same; calls = inr (record { text = text; told = (reply, replies, is); once = once }) }
after_reply query bytes reply text writes ran replies is (answered, put) =
    let P : Option Reply → Type 0 = λ r. IsReplyOf query bytes writes r in
    subst P (sym answered) (replies, text_written query bytes reply text writes is put)

-- the summary of tables
summary_with : (count : ℕ) (units : List CuBoundary) (names : List NameWords) (index sframe : List ℕ) (outcome : SframeOutcome) (summary : Summary) → AreTablesOf (numbered_input count) units names index sframe outcome → summary ≡ summary_of count units names index outcome → HasSummary count summary index sframe outcome (shown_of summary)
summary_with count units names index sframe outcome summary are numbers = record { units = units; names = names; tables = are; numbers = numbers; report = refl }

-- there was no call, or one with the summary
summary_calls : (count : ℕ) (index sframe : List ℕ) (outcome : SframeOutcome) (summary : Summary) (writes : Writes) → HasSummary count summary index sframe outcome (shown_of summary) → (writes.puts_now ≡ writes.puts) ⊎ IsPutOnce writes (shown_of summary) → (writes.puts_now ≡ writes.puts) ⊎ IsAttempted (IsTextOfDemo count) writes
summary_calls count index sframe outcome summary writes has (inl none) = inl none
summary_calls count index sframe outcome summary writes has (inr once) = inr (record { text = shown_of summary; told = (summary, index, sframe, outcome, has); once = once })

-- from the writing of the summary of a number's tables to the answer for the number
pub after_summary : (count : ℕ) (units : List CuBoundary) (names : List NameWords) (index sframe : List ℕ) (outcome : SframeOutcome) (summary : Summary) (writes : Writes) (ran : Ran) → AreTablesOf (numbered_input count) units names index sframe outcome → summary ≡ summary_of count units names index outcome → IsSummaryWriting summary index sframe outcome writes ran → IsDemoAnswer count writes ran
after_summary count units names index sframe outcome summary writes (Shown shown tables) are numbers (n, i, s, o, put) = (
  shown_of summary,
  record {
    units = units;
    names = names;
    tables = tables_named (numbered_input count) units names _ _ _ _ _ _ i s o are;
    numbers = n ∙ numbers ∙ ap (λ x. summary_of count units names x outcome) (sym i) ∙ ap (λ x. summary_of count units names tables.index.items x) (sym o);
    report = ap shown_of (sym n);
  },
  put,
)
after_summary count units names index sframe outcome summary writes WriteFault are numbers put = record {
  text = shown_of summary;
  told = (summary, index, sframe, outcome, summary_with count units names index sframe outcome summary are numbers);
  put = put;
}
after_summary count units names index sframe outcome summary writes NoMemory are numbers (same, calls) = record {
  written = same;
  calls = summary_calls count index sframe outcome summary writes (summary_with count units names index sframe outcome summary are numbers) calls;
}
after_summary count units names index sframe outcome summary writes ran are numbers never = absurd never

-- an input that has tables is not refused
pub after_no_refusal : (count : ℕ) (error : DeriveError) (writes : Writes) (ran : Ran) → error ≡ errors.NoMemory → IsSilent writes → IsRefusalOf error ran → IsDemoAnswer count writes ran
after_no_refusal count error writes (Refused answered) memory silent (is, not_memory) = absurd (not_memory memory)
after_no_refusal count error writes NoMemory memory silent is = record { written = silent.written; calls = inl silent.puts }
after_no_refusal count error writes ran memory silent never = absurd never

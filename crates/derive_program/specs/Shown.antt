-- What `demo` shows: the tables of the input of its number, and a summary of them.
use Rattle.std.specs.Prelude.{◌≡◌, ℕ, List, length, codes, Option, Some, None, Result, Ok, Err}
use Rattle.elf_format.specs.declared.architecture.Architecture.TheVariants.{X86_64}
use Rattle.gdb_index_format.specs.declared.bad_index.BadIndex.{BadIndex}
use Rattle.gdb_index_format.specs.declared.name_words.NameWords.{NameWords}
use Rattle.gdb_index_format.specs.declared.unit.CuBoundary.{CuBoundary}
use Rattle.gdb_index_format.specs.declared.version.IndexVersion.TheVariants.{V9}
use Rattle.gdb_index_format.specs.Probe.{probe}
use Rattle.sframe_format.specs.declared.fault.SframeOutcome.{SframeOutcome}
use Rattle.demo_input.specs.Generated.{demo_buffer, demo_objects, demo_placements, demo_sframe, demo_ranges}
use Rattle.program_text.specs.declared.demo.Summary.{Summary}
use Rattle.program_text.specs.Command.{command_of, for_demo}
use Rattle.program_text.specs.Demo.{shown_of}
use Rattle.derive_program.specs.ProgramInput.{ProgramInput, AreTablesOf}
use Rattle.derive_program.specs.Writing.{Writes, IsReportWritten}

-- the input of a number, whose SFrame section is at 0
abbrev pub numbered_input : ℕ → ProgramInput
numbered_input count = record {
  machine = X86_64;
  version = V9;
  layout = record { placements = demo_placements count; ranges = demo_ranges count; base = 0 };
  buffer = demo_buffer count;
  objects = demo_objects count;
  sframe = demo_sframe count;
}

-- how many elements a probe ends with: none where it does not find the name
abbrev pub elements_probed : Result (Option (List ℕ)) BadIndex → ℕ
elements_probed (Ok (Some elements)) = length elements
elements_probed (Ok None) = 0
elements_probed (Err fault) = 0

-- the summary of the tables of so many objects
abbrev pub summary_of : ℕ → List CuBoundary → List NameWords → List ℕ → SframeOutcome → Summary
summary_of objects units names index outcome = record {
  objects = objects;
  units = length units;
  names = length names;
  index = length index;
  common = elements_probed (probe index (codes "common")).answer;
  outcome = outcome;
}

-- the tables of the input of a number, their summary, and its text
pub record HasSummary (count : ℕ) (summary : Summary) (index sframe : List ℕ) (outcome : SframeOutcome) (text : List ℕ) : Type 0 where
  pub units : List CuBoundary
  pub names : List NameWords
  pub tables : AreTablesOf (numbered_input count) units names index sframe outcome
  pub numbers : summary ≡ summary_of count units names index outcome
  pub report : text ≡ shown_of summary

-- The arguments are `demo` with a number, these are the tables of its input and their summary, and the text of the summary was put in one
-- call, and written whole.
pub record IsShown (words : List (List ℕ)) (summary : Summary) (index sframe : List ℕ) (outcome : SframeOutcome) (writes : Writes) : Type 0 where
  pub count : ℕ
  pub said : command_of words ≡ Ok (for_demo count)
  pub text : List ℕ
  pub summarized : HasSummary count summary index sframe outcome text
  pub put : IsReportWritten writes text

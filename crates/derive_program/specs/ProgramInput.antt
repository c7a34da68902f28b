-- What tables are derived from, and the tables that it has.
use Rattle.std.specs.Prelude.{◌≡◌, ℕ, List, length, Ok, IfSome}
use Rattle.elf_format.specs.declared.architecture.Architecture.{Architecture}
use Rattle.elf_format.specs.declared.index.Span.{Span}
use Rattle.gdb_index_format.specs.declared.unit.CuBoundary.{CuBoundary}
use Rattle.gdb_index_format.specs.declared.name_words.NameWords.{NameWords}
use Rattle.gdb_index_format.specs.declared.version.IndexVersion.{IndexVersion}
use Rattle.gdb_index_format.specs.Version.{version_number}
use Rattle.sframe_format.specs.declared.fault.SframeOutcome.{SframeOutcome}
use Rattle.sframe_format.specs.Sorted.{SortOf}
use Rattle.elf_format.specs.Span.{AreInside}
use Rattle.gdb_tables.specs.Index.{IsIndexOf}
use Rattle.derivation.specs.Input as derivation
use Rattle.derivation.specs.Objects.{objects_of, parsed_of}
use Rattle.derivation.specs.Valid.{IsValid}
use Rattle.program_io.specs.Contents.{Contents}
use Rattle.program_text.specs.Command.{command_of, for_tables}
use Rattle.program_text.specs.Tables.{Tables, version_of}
use Rattle.program_text.specs.Layout.{LayoutEntries, layout_of}
use Rattle.program_files.specs.Reading.{Texts, read_of}

-- the machine, the version of the index, the layout, the objects as spans of a buffer, and the SFrame bytes
pub record ProgramInput : Type 0 where
  pub machine : Architecture
  pub version : IndexVersion
  pub layout : LayoutEntries
  pub buffer : List ℕ
  pub objects : List Span
  pub sframe : List ℕ

-- the files that the input was read from, with this text as their layout
abbrev pub texts_of_input : ProgramInput → List ℕ → Texts
texts_of_input input text = record { layout = text; sframe = input.sframe; objects = objects_of input.buffer input.objects }

-- The arguments are a command `tables`, and the input is what its files hold: where the files are known, they are held and within the limits.
pub record IsInputOf (held : Contents) (words : List (List ℕ)) (input : ProgramInput) : Type 0 where
  pub command : Tables
  pub said : command_of words ≡ Ok (for_tables command)
  pub machine : input.machine ≡ command.machine
  pub version : input.version ≡ version_of command
  pub text : List ℕ
  pub read : IfSome held (λ files. read_of files command ≡ Ok (texts_of_input input text))
  pub laid : layout_of text ≡ Ok input.layout
  pub inside : AreInside (length input.buffer) input.objects

-- what tables are derived from: the address of the first SFrame byte changes none of them
abbrev pub derived_from : ProgramInput → derivation.Input
derived_from input = derivation.input_of input.machine input.buffer input.objects input.layout.placements input.sframe input.layout.ranges input.version

-- the input has tables
abbrev pub HasTables : ProgramInput → Type 0
HasTables input = IsValid (derived_from input)

-- the input has tables, and they are these
pub record AreTablesOf (input : ProgramInput) (units : List CuBoundary) (names : List NameWords) (index sframe : List ℕ) (outcome : SframeOutcome) : Type 0 where
  pub has : HasTables input
  pub listed : IsIndexOf (version_number input.version) (parsed_of input.buffer input.objects) input.layout.placements units names index
  pub ordered : SortOf input.sframe input.layout.ranges sframe outcome

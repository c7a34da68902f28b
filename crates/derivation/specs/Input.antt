-- What tables are derived from.
use Rattle.std.specs.Prelude.{ℕ, List}
use Rattle.elf_format.specs.declared.architecture.Architecture.{Architecture}
use Rattle.elf_format.specs.declared.index.Span.{Span}
use Rattle.gdb_index_format.specs.declared.placement.Placement.{Placement}
use Rattle.gdb_index_format.specs.declared.version.IndexVersion.{IndexVersion}
use Rattle.derivation.specs.declared.input.Input.{Input as Given}

-- a machine; objects, as spans of a buffer; where their sections were put; the bytes of an SFrame section, with the
-- ranges of it that are contributions; and the version of the index
pub record Input : Type 0 where
  pub machine : Architecture
  pub buffer : List ℕ
  pub objects : List Span
  pub placements : List Placement
  pub sframe : List ℕ
  pub ranges : List Span
  pub version : IndexVersion

abbrev pub input_of : Architecture → List ℕ → List Span → List Placement → List ℕ → List Span → IndexVersion → Input
input_of machine buffer objects placements sframe ranges version =
    record { machine = machine; buffer = buffer; objects = objects; placements = placements; sframe = sframe; ranges = ranges; version = version }

-- the input that is handed on: the address of the first SFrame byte changes none of its tables
abbrev pub input_given : Given → Input
input_given given =
    input_of given.machine given.buffer.now given.objects.now given.placements.now given.sframe.now given.ranges.now given.version

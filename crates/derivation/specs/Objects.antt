-- The objects of an input: their bytes, and which file an object has to be.
use Rattle.std.specs.Prelude.{◌≡◌, ℕ, false, not, ◌==◌, if◌then◌else◌, List, map, take, slice_get, Option, Some, None}
use Rattle.std.specs.List.{All}
use Rattle.std.specs.Option.{option_or}
use Rattle.elf_format.specs.declared.architecture.Architecture.{Architecture}
use Rattle.elf_format.specs.declared.error.ElfError.{ElfError}
use Rattle.elf_format.specs.declared.error.ElfError.TheVariants.{Header, Machine}
use Rattle.elf_format.specs.declared.index.Span.{Span}
use Rattle.elf_format.specs.Architecture.{machine_number}
use Rattle.elf_format.specs.Bytes.{get}
use Rattle.elf_format.specs.Class.{Class, e_type, e_machine}
use Rattle.elf_format.specs.Fault.{any_fault}
use Rattle.elf_format.specs.FileHeader.{et_rel}
use Rattle.elf_format.specs.Section.{file_header}
use Rattle.elf_format.specs.Span.{span_bytes}
use Rattle.elf_view.specs.Parsed.{Parsed}
use Rattle.gdb_index_format.specs.Objects.{class_in}

-- the bytes of each object
abbrev pub objects_of : List ℕ → List Span → List (List ℕ)
objects_of buffer spans = map (span_bytes buffer) spans

-- each object as it is parsed
abbrev pub parsed_at : List ℕ → Span → Parsed
parsed_at buffer span = record { bytes = span_bytes buffer span; is_dynamic = false }

abbrev pub parsed_of : List ℕ → List Span → List Parsed
parsed_of buffer spans = map (parsed_at buffer) spans

-- the fault of a well-formed file as an object for a machine
abbrev pub kind_fault : Class → Architecture → List ℕ → Option ElfError
kind_fault c expected file =
    if not (get (e_type c) (file_header c file) == et_rel) then Some Header
    else if not (get (e_machine c) (file_header c file) == machine_number expected) then Some Machine
    else None

-- the fault of an object of either class: the first rule of files that it breaks, or that it is not relocatable, or that
-- it is for another machine
unfoldable pub object_fault : Architecture → List ℕ → Option ElfError
object_fault expected file = option_or (any_fault false file) (kind_fault (class_in file) expected file)

-- each object is well formed, relocatable and for the machine
abbrev pub AreObjects : Architecture → List (List ℕ) → Type 0
AreObjects expected files = All (λ file. object_fault expected file ≡ None) files

-- the first object with a fault, by its index, and its fault
pub record IsFirstFaulty (expected : Architecture) (files : List (List ℕ)) (index : ℕ) (kind : ElfError) : Type 0 where
  pub file : List ℕ
  pub there : slice_get files index ≡ Some file
  pub before : AreObjects expected (take index files)
  pub fault_is : object_fault expected file ≡ Some kind

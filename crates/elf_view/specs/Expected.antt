-- A file of a kind and for a machine that a caller expects.
use Rattle.std.specs.Prelude.{ℕ, Bool, true, false, ◌==◌, if◌then◌else◌, List, Option, Some, None}
use Rattle.std.specs.Option.{option_or}
use Rattle.elf_format.specs.declared.architecture.Architecture.{Architecture}
use Rattle.elf_format.specs.declared.error.ElfError.{ElfError}
use Rattle.elf_format.specs.declared.error.ElfError.TheVariants.{Machine}
use Rattle.elf_format.specs.Architecture.{machine_number}
use Rattle.elf_format.specs.Bytes.{get}
use Rattle.elf_format.specs.Class.{Class, e_machine}
use Rattle.elf_format.specs.Fault.{fault}
use Rattle.elf_format.specs.Section.{file_header}
use Rattle.elf_view.specs.declared.file_kind.FileKind.{FileKind}
use Rattle.elf_view.specs.declared.file_kind.FileKind.TheVariants.{ElfObject, ElfDynamic}

-- whether a file of a kind is a dynamic one
abbrev pub is_dynamic_kind : FileKind → Bool
is_dynamic_kind ElfObject = false
is_dynamic_kind ElfDynamic = true

-- the first rule that a file breaks, and then that it is for the expected machine
abbrev pub fault_for : Class → Bool → Architecture → List ℕ → Option ElfError
fault_for c is_dynamic expected file =
    option_or (fault c is_dynamic file) (if get (e_machine c) (file_header c file) == machine_number expected then None else Some Machine)

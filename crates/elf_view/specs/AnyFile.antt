-- A file of either class.
use Rattle.std.specs.Prelude.{◌≡◌, ℕ, Bool, List, None, Some}
use Rattle.elf_format.specs.Class.{Class}
use Rattle.elf_format.specs.Fault.{fault, class_of}
use Rattle.elf_view.specs.Parsed.{Parsed}
use Rattle.elf_view.specs.declared.any_file.AnyFile.{AnyFile}
use Rattle.elf_view.specs.declared.any_file.AnyFile.TheVariants.{Class64, Class32}

-- the file, as it was parsed
abbrev pub parsed : AnyFile → Parsed
parsed (Class64 f) = f
parsed (Class32 f) = f

-- a file without a fault of a class names that class
abbrev pub NamesItsClass : Type 0
NamesItsClass = (c : Class) (is_dynamic : Bool) (file : List ℕ) → fault c is_dynamic file ≡ None → class_of file ≡ Some c

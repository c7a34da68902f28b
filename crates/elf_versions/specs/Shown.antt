-- What contracts see of the types of this crate.
use Rattle.std.specs.Prelude.{ℕ, false, List, Option, Some, None, Result}
use Rattle.elf_format.specs.declared.error.ElfError.{ElfError}
use Rattle.elf_format.specs.SymbolName.{VersionedName, versioned_name}
use Rattle.elf_format.specs.VersionChain.{Headed}

-- a record and the records of the chain that it begins
abbrev pub headed : List ℕ → List (Result (List ℕ) ElfError) → Headed
headed head items = record { head = head; items = items }

-- a whole name with the version that its symbol needs, or split where it needs none
abbrev pub name_with : List ℕ → Option (List ℕ) → VersionedName
name_with name None = versioned_name name
name_with name (Some version) = record { name = name; version = Some version; is_default = false }

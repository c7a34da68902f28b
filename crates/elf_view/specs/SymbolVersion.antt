-- The name of a symbol with its version, by the names of the version definitions (GNU symbol versioning).
use Rattle.std.specs.Prelude.{ℕ, true, not, List, slice_get, Option, Some, None}
use Rattle.std.specs.Option.{option_flatten}
use Rattle.elf_format.specs.SymbolName.{VersionedName}
use Rattle.elf_format.specs.Version.{version_index, is_hidden_version}

-- a name with the version of a record (Versym): the default one where it is not hidden. Without a record it has no version
abbrev pub versioned_by : List (Option (List ℕ)) → Option (List ℕ) → List ℕ → VersionedName
versioned_by names None name = record { name = name; version = None; is_default = true }
versioned_by names (Some versym) name = record { name = name; version = option_flatten (slice_get names (version_index versym)); is_default = not (is_hidden_version versym) }

-- Why the names of versions are not returned.
use Rattle.std.specs.Prelude.{◌≡◌, Option, Some}
use Rattle.elf_format.specs.declared.error.ElfError.TheVariants.{VersionTable}
use Rattle.elf_format.specs.VersionName.{VersionFault, malformed, bad_index}
use Rattle.elf_versions.specs.declared.error.VersionError.{VersionError}
use Rattle.elf_versions.specs.declared.error.VersionError.TheVariants.{Elf, BadIndex, NoMemory}

-- `VersionTable` where a record or a name is malformed; an index above the number of definitions; an allocation failure
-- says nothing
abbrev pub IsVersionFault : Option VersionFault → VersionError → Type 0
IsVersionFault fault (Elf e) = (e ≡ VersionTable) × (fault ≡ Some malformed)
IsVersionFault fault (BadIndex index) = fault ≡ Some (bad_index index)
IsVersionFault fault NoMemory = Unit {0}

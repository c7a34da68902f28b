-- Why the units of sections are not found. Out of memory needs no cause.
use Rattle.std.specs.Prelude.{◌≡◌, Option, Some}
use Rattle.elf_format.specs.declared.error.ElfError.{ElfError}
use Rattle.gdb_scan.specs.declared.map_error.MapError.{MapError}
use Rattle.gdb_scan.specs.declared.map_error.MapError.TheVariants.{Elf, NoMemory}

-- this is the fault of the relocations
abbrev pub IsMapCause : Option ElfError → MapError → Type 0
IsMapCause fault (Elf e) = fault ≡ Some e
IsMapCause fault NoMemory = Unit {0}

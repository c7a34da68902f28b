-- Why a list's relocations are not returned.
use Rattle.std.specs.Prelude.{◌≡◌, List, Result, Err}
use Rattle.elf_format.specs.declared.crel.Crel.{Crel}
use Rattle.elf_format.specs.declared.crel.CrelError.{CrelError}
use Rattle.elf_relocs.specs.declared.fault.CrelFault.{CrelFault}
use Rattle.elf_relocs.specs.declared.fault.CrelFault.TheVariants as fault

-- the error of the malformed list; an allocation failure says nothing
abbrev pub IsCrelFault : CrelFault → Result (List Crel) CrelError → Type 0
IsCrelFault (fault.Crel e) list = list ≡ Err e
IsCrelFault fault.NoMemory list = Unit {0}

-- Why the table of relocation sections is not returned.
use Rattle.std.specs.Prelude.{◌≡◌, Bool, false}
use Rattle.elf_format.specs.declared.error.ElfError.TheVariants.{RelocationTable}
use Rattle.elf_view.specs.declared.reloc_error.RelocError.{RelocError}
use Rattle.elf_view.specs.declared.reloc_error.RelocError.TheVariants as reloc

-- `RelocationTable`, where some relocation section applies to no section; an allocation failure says nothing
abbrev pub IsRelocFault : Bool → RelocError → Type 0
IsRelocFault has_targets (reloc.Elf e) = (e ≡ RelocationTable) × (has_targets ≡ false)
IsRelocFault has_targets reloc.NoMemory = Unit {0}

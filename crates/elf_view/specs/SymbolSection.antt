-- The section that a symbol is defined in, as a result.
use Rattle.std.specs.Prelude.{◌≡◌, Option, Some, None, Result, Ok, Err}
use Rattle.elf_format.specs.declared.error.ElfError.{ElfError}
use Rattle.elf_format.specs.declared.error.ElfError.TheVariants.{SymbolIndex}
use Rattle.elf_format.specs.declared.index.SectionIndex.{SectionIndex}
use Rattle.elf_format.specs.Symbol.{SymbolSection, no_section, in_section, missing}

abbrev pub IsSymbolSection : SymbolSection → Result (Option SectionIndex) ElfError → Type 0
IsSymbolSection no_section result = result ≡ Ok None
IsSymbolSection (in_section index) result = result ≡ Ok (Some (record { 0 = index }))
IsSymbolSection missing result = result ≡ Err SymbolIndex

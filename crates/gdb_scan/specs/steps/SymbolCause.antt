-- Why some relocations assign no units. Only private contracts cite this.
use Rattle.std.specs.Prelude.{◌≡◌, ℕ, Bool, true, List}
use Rattle.std.specs.List.{list_any}
use Rattle.elf_format.specs.declared.crel.Crel.{Crel}
use Rattle.elf_format.specs.declared.error.ElfError.TheVariants.{SymbolIndex}
use Rattle.elf_format.specs.Class.{Class}
use Rattle.gdb_scan.specs.declared.map_error.MapError.{MapError}
use Rattle.gdb_scan.specs.declared.map_error.MapError.TheVariants.{Elf, NoMemory}
use Rattle.gdb_scan.specs.steps.Assigned.{lacks_symbol}

-- of these relocations one lacks its symbol
abbrev pub IsSymbolCause : Class → Bool → List ℕ → List Crel → MapError → Type 0
IsSymbolCause c is_dynamic file rs (Elf e) = (e ≡ SymbolIndex) × (list_any (lacks_symbol c is_dynamic file) rs ≡ true)
IsSymbolCause c is_dynamic file rs NoMemory = Unit {0}

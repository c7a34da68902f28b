-- The visibility of a symbol, by its number (gABI, Symbol Visibility).
use Rattle.std.specs.Prelude.{ℕ, ◌==◌, if◌then◌else◌}
use Rattle.elf_symbols.specs.SymbolTests.{stv_hidden, stv_protected}
use Rattle.elf_symbols.specs.declared.visibility.Visibility.{Visibility}
use Rattle.elf_symbols.specs.declared.visibility.Visibility.TheVariants as visibilities

-- hidden or protected; every other number is the default
abbrev pub visibility_of : ℕ → Visibility
visibility_of number = if number == stv_hidden then visibilities.Hidden else if number == stv_protected then visibilities.Protected else visibilities.Default

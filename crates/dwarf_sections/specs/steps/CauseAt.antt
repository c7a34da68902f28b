-- Why the unit at an offset is not read. Only private contracts cite this.
use Rattle.std.specs.Prelude.{◌≡◌, ℕ, List}
use Rattle.gdb_index_format.specs.declared.unit.UnitFault.TheVariants as faults
use Rattle.gdb_index_format.specs.Units.{IsFault}
use Rattle.dwarf_sections.specs.declared.units.UnitError.{UnitError}
use Rattle.dwarf_sections.specs.declared.units.UnitError.TheVariants.{Truncated, InvalidLength, NoMemory}

-- why the unit at an offset is not read; out of memory needs no cause
abbrev pub HasCauseAt : List ℕ → ℕ → UnitError → Type 0
HasCauseAt b at (Truncated offset) = (offset ≡ at) × IsFault b at faults.Truncated
HasCauseAt b at (InvalidLength offset) = (offset ≡ at) × IsFault b at faults.InvalidLength
HasCauseAt b at NoMemory = Unit {0}

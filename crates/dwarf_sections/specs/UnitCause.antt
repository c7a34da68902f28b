-- Why the units of `.debug_info` are not read.
use Rattle.std.specs.Prelude.{ℕ, List}
use Rattle.gdb_index_format.specs.declared.unit.UnitFault.TheVariants as faults
use Rattle.gdb_index_format.specs.Units.{FailsAt}
use Rattle.dwarf_sections.specs.declared.units.UnitError.{UnitError}
use Rattle.dwarf_sections.specs.declared.units.UnitError.TheVariants.{Truncated, InvalidLength, NoMemory}

-- why the units of bytes are not read; out of memory needs no cause
abbrev pub IsUnitListCause : List ℕ → UnitError → Type 0
IsUnitListCause b (Truncated offset) = FailsAt b offset faults.Truncated
IsUnitListCause b (InvalidLength offset) = FailsAt b offset faults.InvalidLength
IsUnitListCause b NoMemory = Unit {0}

-- out of memory, and no other refusal
abbrev pub IsUnitMemory : UnitError → Type 0
IsUnitMemory (Truncated offset) = ⊥
IsUnitMemory (InvalidLength offset) = ⊥
IsUnitMemory NoMemory = Unit {0}

-- The error of an object for an error of its sections. Only private contracts cite this.
use Rattle.std.specs.Prelude.{ℕ}
use Rattle.elf_format.specs.declared.index.SectionIndex.{SectionIndex}
use Rattle.gdb_index_format.specs.declared.unit.UnitFault.TheVariants as faults
use Rattle.dwarf_sections.specs.declared.units.UnitError.{UnitError}
use Rattle.dwarf_sections.specs.declared.units.UnitError.TheVariants as units
use Rattle.dwarf_sections.specs.declared.set_error.SetError.{SetError}
use Rattle.dwarf_sections.specs.declared.set_error.SetError.TheVariants as sets
use Rattle.gdb_scan.specs.declared.error.GdbError.{GdbError}
use Rattle.gdb_scan.specs.declared.error.GdbError.TheVariants.{BadUnit, BadPubnames, NoMemory}

abbrev pub of_unit_error : ℕ → UnitError → GdbError
of_unit_error object (units.Truncated offset) = BadUnit object offset faults.Truncated
of_unit_error object (units.InvalidLength offset) = BadUnit object offset faults.InvalidLength
of_unit_error object units.NoMemory = NoMemory

abbrev pub of_set_error : ℕ → SectionIndex → SetError → GdbError
of_set_error object section sets.BadSet = BadPubnames object section
of_set_error object section sets.NoMemory = NoMemory

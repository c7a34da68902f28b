-- Where there are units, no refusal has a cause but out of memory.
use Rattle.std.proofs.Common.{ℕ, List, Result, Ok, Err, IfErr}
use Rattle.gdb_index_format.specs.declared.unit.CuBoundary.{CuBoundary}
use Rattle.gdb_index_format.specs.declared.unit.UnitFault.TheVariants as faults
use Rattle.gdb_index_format.specs.Units.{IsUnitList}
use Rattle.gdb_index_format.proofs.UnitLists.{no_list}
use Rattle.dwarf_sections.specs.declared.units.UnitError.{UnitError}
use Rattle.dwarf_sections.specs.declared.units.UnitError.TheVariants.{Truncated, InvalidLength, NoMemory}
use Rattle.dwarf_sections.specs.UnitCause.{IsUnitListCause, IsUnitMemory}

only_memory : (b : List ℕ) (us : List CuBoundary) (e : UnitError) → IsUnitList b us → IsUnitListCause b e → IsUnitMemory e
only_memory b us (Truncated offset) list cause = no_list b us offset faults.Truncated list cause
only_memory b us (InvalidLength offset) list cause = no_list b us offset faults.InvalidLength list cause
only_memory b us NoMemory list cause = tt

pub no_refusal : {X : Type 0} (b : List ℕ) (us : List CuBoundary) (r : Result X UnitError) → IsUnitList b us → IfErr r (IsUnitListCause b) → IfErr r IsUnitMemory
no_refusal b us (Ok x) list cause = cause
no_refusal b us (Err e) list cause = only_memory b us e list cause

use Rattle.std.proofs.Common.{◌≡◌, ◌≢◌, ℕ, List, refl, ap}
use Rattle.gdb_index_format.specs.declared.unit.UnitFault.TheVariants as faults
use Rattle.gdb_index_format.specs.Units.{UnitsAreOne}
use Rattle.dwarf_sections.specs.declared.units.UnitError.{UnitError}
use Rattle.dwarf_sections.specs.declared.units.UnitError.TheVariants.{Truncated, InvalidLength, NoMemory}
use Rattle.dwarf_sections.specs.UnitCause.{IsUnitListCause}
use Rattle.dwarf_sections.proofs.laws.unit_list_causes_are_one.Goals as goal

not_both : faults.Truncated ≡ faults.InvalidLength → ⊥
not_both is = absurd cc

not_both_ways : faults.InvalidLength ≡ faults.Truncated → ⊥
not_both_ways is = absurd cc

one : UnitsAreOne → (bytes : List ℕ) (e f : UnitError) → IsUnitListCause bytes e → IsUnitListCause bytes f → e ≢ NoMemory → f ≢ NoMemory → e ≡ f
one law bytes (Truncated p) (Truncated q) a b m n = ap Truncated (law.one_offset bytes p q _ _ a b)
one law bytes (Truncated p) (InvalidLength q) a b m n = absurd (not_both (law.one_cause bytes p q _ _ a b))
one law bytes (InvalidLength p) (Truncated q) a b m n = absurd (not_both_ways (law.one_cause bytes p q _ _ a b))
one law bytes (InvalidLength p) (InvalidLength q) a b m n = ap InvalidLength (law.one_offset bytes p q _ _ a b)
one law bytes NoMemory f a b m n = absurd (m refl)
one law bytes (Truncated p) NoMemory a b m n = absurd (n refl)
one law bytes (InvalidLength p) NoMemory a b m n = absurd (n refl)

pub returns : goal.returns
returns c = one c.units_are_one.ensures

use Rattle.std.proofs.Common.{◌≡◌, ◌-◌, length, take}
use Rattle.gdb_index_format.specs.Units.{index_units}
use Rattle.derive_program.proofs.browsing.units_of.Given as goal

abbrev pub invariant-units : goal.invariant-units
invariant-units l = l.units.items ≡ take (length l.units.items) (index_units l.index)

abbrev pub decreases-units : goal.decreases-units
decreases-units l = length (index_units l.index) - length l.units.items

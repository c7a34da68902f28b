use Rattle.std.proofs.Common.{◌≡◌, ◌-◌, length, take}
use Rattle.derive_program.proofs.finding.read_elements.Given as goal

abbrev pub invariant-elements : goal.invariant-elements
invariant-elements l = l.elements.items ≡ take (length l.elements.items) l.vector

abbrev pub decreases-elements : goal.decreases-elements
decreases-elements l = length l.vector - length l.elements.items

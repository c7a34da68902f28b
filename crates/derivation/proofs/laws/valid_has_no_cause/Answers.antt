use Rattle.derivation.proofs.Phases.{no_refusal}
use Rattle.derivation.proofs.laws.valid_has_no_cause.Goals as goal

pub returns : goal.returns
returns c = no_refusal c.placed_are_not_misplaced.ensures c.indexable_has_no_cause.ensures c.valid_is_sorted.ensures

use Rattle.derivation.proofs.Phases.{one_refusal}
use Rattle.derivation.proofs.laws.refused_for_one_cause.Goals as goal

pub returns : goal.returns
returns c = one_refusal (record {
  objects = c.objects_are_one.ensures;
  misplaced = c.placed_are_not_misplaced.ensures;
  size = c.size_causes_are_one.ensures;
  indexable = c.indexable_has_no_cause.ensures;
  sframe = c.refused_for_one_cause.ensures;
  sortable = c.valid_is_sorted.ensures;
})

use Rattle.sframe_find.proofs.OneCause.{one_cause}
use Rattle.sframe_find.proofs.laws.find_causes_are_one.Goals as goal

pub returns : goal.returns
returns c = λ s base e f a b. one_cause s base e f a b

use Rattle.sframe_find.proofs.OneCause.{no_cause}
use Rattle.sframe_find.proofs.laws.ordered_has_no_cause.Goals as goal

pub returns : goal.returns
returns c = λ s base e ordered cause. no_cause s base e ordered cause

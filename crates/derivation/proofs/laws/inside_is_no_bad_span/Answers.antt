use Rattle.derivation.proofs.Phases.{no_bad_span}
use Rattle.derivation.proofs.laws.inside_is_no_bad_span.Goals as goal

pub returns : goal.returns
returns c = no_bad_span

use Rattle.demo_input.proofs.Validity.{demo_is_valid_lem}
use Rattle.demo_input.proofs.laws.demo_is_valid.Goals as goal

pub returns : goal.returns
returns c = demo_is_valid_lem

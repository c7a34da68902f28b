use Rattle.demo_input.proofs.Validity.{demo_holds_numbered_lem}
use Rattle.demo_input.proofs.laws.demo_holds_numbered_objects.Goals as goal

pub returns : goal.returns
returns c = demo_holds_numbered_lem

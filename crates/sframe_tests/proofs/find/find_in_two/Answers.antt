use Rattle.std.proofs.Common.{◌≡◌, ℕ, ◌+◌, ◌-◌, ◌*◌, ◌^◌, ◌≤◌, length, ap, arith}
use Rattle.sframe_tests.proofs.Steps.{two_steps}
use Rattle.sframe_tests.proofs.find.find_in_two.Goals as goal

pub returns : goal.returns
returns g c = two_steps c.args.steps.now c.find.new.steps (length c.args.frames.now.functions) c.requires c.find.ensures.counted c.find.ensures.few

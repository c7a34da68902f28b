-- One more placement stands there.
use Rattle.demo_input.specs.Object.{numbered_placement}
use Rattle.demo_input.proofs.Appending.{mapped_more}
use Rattle.demo_input.proofs.demo.placements.Goals as goal

pub loop-number-preserved : goal.loop-number-preserved
loop-number-preserved c = mapped_more numbered_placement c.loop-number.number c.loop-number.placements.items c.push.new.self.items c.loop-number.invariant c.in_ok-push.ensures.items

-- One more span stands there.
use Rattle.demo_input.specs.Generated.{piece_span}
use Rattle.demo_input.proofs.Appending.{mapped_more}
use Rattle.demo_input.proofs.demo.piece_spans.Goals as goal

pub loop-number-preserved : goal.loop-number-preserved
loop-number-preserved c = mapped_more (piece_span c.args.size) c.loop-number.number c.loop-number.spans.items c.push.new.self.items c.loop-number.invariant c.in_ok-push.ensures.items

use Rattle.std.proofs.Common.{refl, inr}
use Rattle.derivation.proofs.Parsing.{more_parsed, more_sound, first_faulty}
use Rattle.derivation.proofs.object.parse_objects.Goals as goal

pub returns-in-Err-clause-cause : goal.returns-in-Err-clause-cause
returns-in-Err-clause-cause c =
    inr (c.loop-index.index, c.in-Err.kind, refl, first_faulty c.args.expected c.args.buffer.now c.args.spans.now c.loop-index.index c.in-Err.kind c.loop-index-test.true c.loop-index.invariant.sound c.in-Err.ensures.fault)

pub loop-index-preserved : goal.loop-index-preserved
loop-index-preserved c = record {
  done = more_parsed c.args.buffer.now c.args.spans.now c.loop-index.index c.loop-index.files.items c.push.new.self.items c.in-Ok.file c.loop-index-test.true c.loop-index.invariant.done c.in-Ok.ensures.file c.in_ok-push-in-Ok.ensures.items;
  sound = more_sound c.args.expected c.args.buffer.now c.args.spans.now c.loop-index.index c.loop-index-test.true c.loop-index.invariant.sound c.in-Ok.ensures.fault;
}

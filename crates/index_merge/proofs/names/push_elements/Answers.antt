use Rattle.std.proofs.Common.{sym, arith}
use Rattle.std.proofs.lemmas.Option.{slice_get_within}
use Rattle.index_merge.specs.Joined.{moved_element}
use Rattle.index_merge.proofs.Pushing.{push_more, push_over, past_end}
use Rattle.index_merge.proofs.names.push_elements.Goals as goal

pub loop-element-preserved : goal.loop-element-preserved
loop-element-preserved c =
    let there = sym (c.in-Some.ensures {u = tt}) in
    record {
      pushed = push_more (moved_element c.args.units) c.args.vector.now c.args.words.now.items c.loop-element.words.items c.push.new.self.items c.loop-element.index c.in-Some.element there c.in_ok-push.ensures.items c.loop-element.invariant.pushed;
      within = omega (arith, slice_get_within c.args.vector.now c.loop-element.index c.in-Some.element there);
    }

pub returns : goal.returns
returns c = push_over (moved_element c.args.units) c.args.vector.now c.args.words.now.items c.loop-element.words.items c.loop-element.index (past_end c.args.vector.now c.loop-element.index (sym (c.in_default.ensures {u = tt}))) c.loop-element.invariant.pushed

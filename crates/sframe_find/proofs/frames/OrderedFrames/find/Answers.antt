use Rattle.std.proofs.Common.{◌≡◌, ◌+◌, ◌-◌, ◌/◌, length, sym, subst, refl, ap, ◌∙◌, rules, arith}
use Rattle.std.specs.Int.{w128}
use Rattle.std.proofs.lemmas.Bool.Decides.{nat_tests}
use Rattle.std.proofs.lemmas.Int.{to_z-of_z}
use Rattle.sframe_order.specs.Reader.{contribution_view}
use Rattle.sframe_find.specs.Frames.{Frames}
use Rattle.sframe_find.proofs.Functions.{function_count}
use Rattle.sframe_find.proofs.Compared.{at_most_true, at_most_false}
use Rattle.sframe_find.proofs.Searching.{Ascend, begun, ended_some, raised, lowered, up_to_wanted, from_wanted, no_steps, one_step}
use Rattle.sframe_find.proofs.frames.OrderedFrames.find.Goals as goal

pub loop-low-init : goal.loop-low-init
loop-low-init g c =
    let count : c.num_fdes-high.result ≡ length c.args.self.now.functions = c.num_fdes-high.ensures ∙ sym (function_count (contribution_view c.self.inside.contribution)) ∙ ap (λ (x : Frames). length x.functions) c.self.view_is in
    record {
      between = begun c.args.self.now c.args.address c.num_fdes-high.result count;
      later = omega arith;
      steps = no_steps (length c.args.self.now.functions) (c.args.steps.now - c.args.steps.now) (c.num_fdes-high.result - 0) (omega arith) (omega arith);
    }

pub loop-low-preserved-then-look-wanted : goal.loop-low-preserved-then-look-wanted
loop-low-preserved-then-look-wanted g c =
    let low = c.loop-low.low in
    let high = c.loop-low.high in
    let middle = low + (high - low) / 2 in
    let ascend : Ascend c.args.self.now = subst Ascend c.self.view_is c.self.invariant.1 in
    record {
      between = raised c.args.self.now c.args.address low high middle ascend c.loop-low.invariant.between (omega arith) (omega arith) (up_to_wanted c.args.self.now c.args.address middle c.look.result c.from-wanted.result c.from-wanted.ensures c.look.ensures.value (at_most_true _ _ _ _ (to_z-of_z w128 c.look.result (search rules)) (to_z-of_z w128 c.from-wanted.result (search rules)) c.if-look-wanted.true));
      later = omega (arith, c.look.ensures.counted, c.loop-low.invariant.later);
      steps = one_step (length c.args.self.now.functions) (c.loop-low.steps - c.args.steps.now) (c.look.new.steps - c.args.steps.now) (high - low) (high - (middle + 1)) c.loop-low.invariant.steps (omega arith) (omega arith) (omega (arith, c.look.ensures.counted, c.loop-low.invariant.later));
    }

pub loop-low-preserved : goal.loop-low-preserved
loop-low-preserved g c =
    let low = c.loop-low.low in
    let high = c.loop-low.high in
    let middle = low + (high - low) / 2 in
    let ascend : Ascend c.args.self.now = subst Ascend c.self.view_is c.self.invariant.1 in
    record {
      between = lowered c.args.self.now c.args.address low high middle ascend c.loop-low.invariant.between (omega arith) (omega arith) (from_wanted c.args.self.now c.args.address middle c.look.result c.from-wanted.result c.from-wanted.ensures c.look.ensures.value (at_most_false _ _ _ _ (to_z-of_z w128 c.look.result (search rules)) (to_z-of_z w128 c.from-wanted.result (search rules)) c.if-look-wanted.false));
      later = omega (arith, c.look.ensures.counted, c.loop-low.invariant.later);
      steps = one_step (length c.args.self.now.functions) (c.loop-low.steps - c.args.steps.now) (c.look.new.steps - c.args.steps.now) (high - low) (middle - low) c.loop-low.invariant.steps (omega arith) (omega arith) (omega (arith, c.look.ensures.counted, c.loop-low.invariant.later));
    }

pub returns-else-low-eq0-clause-scan : goal.returns-else-low-eq0-clause-scan
returns-else-low-eq0-clause-scan g c =
    ended_some c.args.self.now c.args.address c.loop-low.low c.loop-low.high (c.loop-low.low - 1) c.loop-low.invariant.between (omega arith) (grind (arith, nat_tests, c.if-low-eq0.false)) refl

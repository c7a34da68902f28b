use Rattle.std.proofs.Common.{◌≡◌, pos, to_z, of_z, ◌+◌, ◌*◌, ◌<◌, length, get_or, below_more, sym, ap, ◌∙◌, rules, arith}
use Rattle.std.specs.Int.{w32, w128}
use Rattle.std.proofs.lemmas.Int.{to_z-of_z}
use Rattle.std.proofs.lemmas.List.{length-map, get_or_default}
use Rattle.std.proofs.lemmas.List.Sums.{sum_by_more, sum_by_more_le}
use Rattle.sframe_format.specs.Contribution.{Function}
use Rattle.sframe_format.specs.Merged.{start_field, start_fields}
use Rattle.sframe_format.specs.Valid.{fits_i32}
use Rattle.sframe_order.specs.steps.View.{view, views}
use Rattle.sframe_order.proofs.Views.{view_at}
use Rattle.sframe_order.proofs.Placed.{written_more, first_far, get_or-start_fields, length-start_fields}
use Rattle.sframe_order.proofs.merged.push_fdes.Goals as goal

pub returns-in_default-clause-far : goal.returns-in_default-clause-far
returns-in_default-clause-far c =
    let gs = views c.args.functions.now in
    let f = c.index-functions-j.result in
    let j = c.loop-j.j in
    let below : j < length gs = omega (arith, length-map c.args.functions.now view) in
    let at = view_at c.args.functions.now j f c.loop-j-test.true c.index-functions-j.is in
    let is : get_or (start_fields c.args.flags c.args.first gs) j (pos 0) ≡ c.start_field-value.result = get_or-start_fields c.args.flags c.args.first gs j (view f) (pos 0) below ∙ ap (start_field c.args.flags (c.args.first + 20 * j)) at ∙ sym c.start_field-value.ensures in
    let same : c.start_field-value.result ≡ to_z w128 (of_z w128 c.start_field-value.result) = sym (to_z-of_z w128 c.start_field-value.result (search rules)) in
    first_far (start_fields c.args.flags c.args.first gs) j _ (pos 0) (omega (arith, length-start_fields c.args.flags c.args.first gs)) c.loop-j.invariant.fit (is ∙ same) (search rules)

pub overflow_cast-before : goal.overflow_cast-before
overflow_cast-before c =
    let gs = views c.args.functions.now in
    let f = c.index-functions-j.result in
    let j = c.loop-j.j in
    let below : j < length gs = omega (arith, length-map c.args.functions.now view) in
    let at = ap (λ (g : Function). length g.fres) (view_at c.args.functions.now j f c.loop-j-test.true c.index-functions-j.is) in
    let le = sum_by_more_le (λ (g : Function). length g.fres) gs j (view f) below in
    omega (arith, at, le, c.requires.fres)

pub overflow_add-before : goal.overflow_add-before
overflow_add-before c =
    let gs = views c.args.functions.now in
    let f = c.index-functions-j.result in
    let j = c.loop-j.j in
    let below : j < length gs = omega (arith, length-map c.args.functions.now view) in
    let at = ap (λ (g : Function). length g.fres) (view_at c.args.functions.now j f c.loop-j-test.true c.index-functions-j.is) in
    let le = sum_by_more_le (λ (g : Function). length g.fres) gs j (view f) below in
    omega (arith, at, le, c.requires.fres, c.loop-j.invariant.before)

pub loop-j-preserved : goal.loop-j-preserved
loop-j-preserved c =
    let gs = views c.args.functions.now in
    let f = c.index-functions-j.result in
    let j = c.loop-j.j in
    let below : j < length gs = omega (arith, length-map c.args.functions.now view) in
    let at = view_at c.args.functions.now j f c.loop-j-test.true c.index-functions-j.is in
    let fres = ap (λ (g : Function). length g.fres) at in
    let more = sum_by_more (λ (g : Function). length g.fres) gs j (view f) below in
    let is : get_or (start_fields c.args.flags c.args.first gs) j (pos 0) ≡ c.start_field-value.result = get_or-start_fields c.args.flags c.args.first gs j (view f) (pos 0) below ∙ ap (start_field c.args.flags (c.args.first + 20 * j)) at ∙ sym c.start_field-value.ensures in
    let start : to_z w32 (of_z w32 c.in-Some.start) ≡ start_field c.args.flags (c.args.first + 20 * j) (view f) = to_z-of_z w32 c.in-Some.start (search rules) ∙ c.in-Some.ensures.0 ∙ to_z-of_z w128 c.start_field-value.result (search rules) ∙ c.start_field-value.ensures in
    record {
      written = written_more c.args.bytes.now.items c.args.flags c.args.first gs j (view f) _ _ _ _ below at c.loop-j.invariant.written start c.loop-j.invariant.before c.in_ok-push_fde.ensures.value;
      len = omega (arith, c.in_ok-push_fde.ensures.len, c.loop-j.invariant.len);
      before = omega (arith, fres, more, c.loop-j.invariant.before);
      fit = below_more _ _ c.loop-j.invariant.fit (ap fits_i32 is ∙ search (rules, to_z-of_z));
    }

pub returns-clause-fit : goal.returns-clause-fit
returns-clause-fit c = λ k d b. ap fits_i32 (get_or_default (start_fields c.args.flags c.args.first (views c.args.functions.now)) k d (pos 0) b) ∙ c.loop-j.invariant.fit k (omega (arith, length-start_fields c.args.flags c.args.first (views c.args.functions.now), length-map c.args.functions.now view))

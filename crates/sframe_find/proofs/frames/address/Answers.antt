use Rattle.std.proofs.Common.{pos, ◌+ℤ◌, FitsSigned, to_z, of_z, sym, ap, ◌∙◌, w64, rules, arith}
use Rattle.std.specs.Int.{w128}
use Rattle.std.proofs.lemmas.Int.{to_z-of_z}
use Rattle.sframe_order.specs.Reader.{contribution_view}
use Rattle.sframe_find.specs.Frames.{function_address}
use Rattle.sframe_find.proofs.Functions.{fde_inside, function_count, function_is}
use Rattle.sframe_find.proofs.frames.address.Goals as goal

pub start-requires : goal.start-requires
start-requires c =
    let v = contribution_view c.args.contribution.now in
    fde_inside v c.args.d c.requires.sound (omega (arith, function_count v))

pub returns : goal.returns
returns c = λ f.
    let v = contribution_view c.args.contribution.now in
    let is = function_is v c.args.d f (omega (arith, function_count v)) in
    let a = c.from.result in
    let b = c.from-2.result in
    let fits : FitsSigned w128 (a +ℤ b) = search rules in
    ap (λ x. to_z w128 (of_z w128 (x +ℤ to_z w128 (of_z w128 b)))) (to_z-of_z w128 a (search rules))
    ∙ ap (λ y. to_z w128 (of_z w128 (a +ℤ y))) (to_z-of_z w128 b (search rules))
    ∙ to_z-of_z w128 (a +ℤ b) fits
    ∙ ap (λ x. x +ℤ b) c.from.ensures
    ∙ ap (λ y. pos c.args.base +ℤ y) (c.from-2.ensures ∙ to_z-of_z w64 c.start.result (search rules) ∙ c.start.ensures)
    ∙ sym (ap (function_address c.args.base) is)

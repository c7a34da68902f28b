use Rattle.std.proofs.Common.{sym, ◌∙◌}
use Rattle.index_browser.proofs.Walks.{element_kept, element_fails}
use Rattle.index_browser.proofs.fault.are_elements.Goals as goal

pub returns-then-not-is_element : goal.returns-then-not-is_element
returns-then-not-is_element c =
    element_fails c.args.vector.now c.args.units c.loop-number.number c.unwrap-element.result c.loop-number.invariant (sym c.get.ensures ∙ c.unwrap-element.ensures) (sym (c.if-not-is_element.ensures {u = tt}))

pub loop-number-preserved : goal.loop-number-preserved
loop-number-preserved c =
    element_kept c.args.vector.now c.args.units c.loop-number.number c.unwrap-element.result c.loop-number.invariant (sym c.get.ensures ∙ c.unwrap-element.ensures) (sym (c.if-not-is_element.ensures {u = tt}))

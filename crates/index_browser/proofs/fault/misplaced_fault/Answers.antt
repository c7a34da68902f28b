use Rattle.std.proofs.Common.{None, true, false, sym, ap, ◌∙◌}
use Rattle.std.specs.Option.{option_and_then, option_or, option_copied}
use Rattle.index_browser.specs.Stored.{stored_in}
use Rattle.index_browser.specs.steps.Placing.{misplaced_fault_at}
use Rattle.index_browser.proofs.StoredSlots.{placed_is, place_tested, own_ends}
use Rattle.index_browser.proofs.fault.misplaced_fault.Goals as goal

pub returns-in_default-name : goal.returns-in_default-name
returns-in_default-name c =
    placed_is c.args.index.now c.args.slot None (ap option_copied (sym c.in_default-name.is) ∙ c.requires.named)
    ∙ sym (ap (λ o. option_or o (option_and_then (misplaced_fault_at c.args.index.now) (stored_in c.args.index.now c.args.slot))) c.in_default.is)

pub ends_at-requires-clause-here : goal.ends_at-requires-clause-here
ends_at-requires-clause-here c = own_ends c.args.index.now c.in-Some-name.name.now c.args.slot (ap option_copied (sym c.in-Some-name.is) ∙ c.requires.named)

pub returns-then-ends_at : goal.returns-then-ends_at
returns-then-ends_at c =
    place_tested c.args.index.now c.in-Some-name.name.now c.args.slot true (ap option_copied (sym c.in-Some-name.is) ∙ c.requires.named) (sym c.if-ends_at.true ∙ c.ends_at.ensures)
    ∙ sym (ap (λ o. option_or o (option_and_then (misplaced_fault_at c.args.index.now) (stored_in c.args.index.now c.args.slot))) c.in_default.is)

pub returns-else-ends_at : goal.returns-else-ends_at
returns-else-ends_at c =
    place_tested c.args.index.now c.in-Some-name.name.now c.args.slot false (ap option_copied (sym c.in-Some-name.is) ∙ c.requires.named) (sym c.if-ends_at.false ∙ c.ends_at.ensures)
    ∙ sym (ap (λ o. option_or o (option_and_then (misplaced_fault_at c.args.index.now) (stored_in c.args.index.now c.args.slot))) c.in_default.is)

use Rattle.std.proofs.Common.{◌∙◌}
use Rattle.index_browser.proofs.ProbeSlots.{pass_free, pass_without_end, pass_with_name}
use Rattle.index_browser.proofs.slots.passes.Goals as goal

pub returns-in_default : goal.returns-in_default
returns-in_default c = pass_free c.args.index.now c.args.name.now c.args.slot c.in_default.ensures.taken

pub returns-in_default-name_from : goal.returns-in_default-name_from
returns-in_default-name_from c = pass_without_end c.args.index.now c.args.name.now c.args.slot c.in-Some.taken c.in-Some.ensures.taken (c.in_default-name_from.ensures {u = tt})

pub returns : goal.returns
returns c = c.ne.ensures ∙ pass_with_name c.args.index.now c.args.name.now c.in-Some-name_from.stored.now c.args.slot c.in-Some.taken c.in-Some.ensures.taken (c.in-Some-name_from.ensures {u = tt})

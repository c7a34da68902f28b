use Rattle.std.proofs.Common.{subst}
use Rattle.index_browser.specs.steps.Offsets.{HasFormat, AreAreasOf}
use Rattle.index_browser.proofs.Checking.{format_of, some_bytes}
use Rattle.index_browser.proofs.check.CheckedIndex.areas.Goals as goal

pub areas_of-requires : goal.areas_of-requires
areas_of-requires c = format_of c.self.inside.bytes.now c.self.invariant (some_bytes c.self.inside.bytes.now (c.if-is_empty.ensures {u = tt}))

pub returns : goal.returns
returns c =
    let some = some_bytes c.self.inside.bytes.now (c.if-is_empty.ensures {u = tt}) in
    subst (λ b. HasFormat b × AreAreasOf b c.areas_of.result) c.self.view_is (format_of c.self.inside.bytes.now c.self.invariant some, c.areas_of.ensures)

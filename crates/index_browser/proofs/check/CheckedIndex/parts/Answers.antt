use Rattle.std.proofs.Common.{◌≡◌, None, Some, sym, subst, ◌∙◌}
use Rattle.gdb_index.specs.Parts.{ArePartsOf}
use Rattle.index_browser.specs.Checked.{PassesTests}
use Rattle.index_browser.proofs.Checking.{format_of, tests_of, some_bytes}
use Rattle.index_browser.proofs.check.CheckedIndex.parts.Goals as goal

pub parts_of-requires : goal.parts_of-requires
parts_of-requires c = (format_of c.self.inside.bytes.now c.self.invariant (some_bytes c.self.inside.bytes.now (c.if-is_empty.ensures {u = tt}))).long

pub returns : goal.returns
returns c =
    let some = some_bytes c.self.inside.bytes.now (c.if-is_empty.ensures {u = tt}) in
    subst (λ b. ArePartsOf b c.in-Ok.parts × PassesTests b) c.self.view_is (c.in-Ok.ensures, tests_of c.self.inside.bytes.now c.self.invariant some)

pub unreachable-requires : goal.unreachable-requires
unreachable-requires c =
    let format = format_of c.self.inside.bytes.now c.self.invariant (some_bytes c.self.inside.bytes.now (c.if-is_empty.ensures {u = tt})) in
    let both : None ≡ Some c.in-Err.field-0 = sym format.format ∙ c.in-Err.ensures {u = tt} in
    absurd cc

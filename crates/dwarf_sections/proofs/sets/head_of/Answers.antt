use Rattle.std.proofs.Common.{◌≡◌, ◌++◌, arith, sym, subst, length}
use Rattle.dwarf_sections.specs.steps.SetParts.{HeadAt}
use Rattle.dwarf_sections.proofs.SetFinding.{no_set_body}
use Rattle.dwarf_sections.proofs.sets.head_of.Goals as goal

pub returns-in_err-unit : goal.returns-in_err-unit
returns-in_err-unit c =
    let l = c.in_ok-length.length in
    let read = c.in_ok-length.ensures {u = tt} in
    let cut : l.rest.now ≡ c.split_at.result.0.now ++ c.split_at.result.1.now = grind arith in
    let len : length c.split_at.result.0.now ≡ l.len = grind arith in
    subst (λ o. HeadAt c.args.bytes.now o) (sym c.from_residual-in_err-unit.ensures)
    (no_set_body c.args.bytes.now l.format l.len l.rest.now c.split_at.result.0.now c.split_at.result.1.now read.0 read.1 cut len (c.in_err-unit.ensures {u = tt}))

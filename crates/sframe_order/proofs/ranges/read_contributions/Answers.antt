use Rattle.std.proofs.Common.{◌≡◌, ◌+◌, drop, get_or, ◌++◌, ◌∙◌, ap, true, rules, tests}
use Rattle.std.proofs.lemmas.List.{map_push}
use Rattle.elf_format.specs.declared.index.Span.{Span}
use Rattle.sframe_format.specs.Contribution.{read_ones, is_contribution}
use Rattle.sframe_order.specs.Reader.{contribution_view}
use Rattle.sframe_order.specs.steps.View.{contributions_view}
use Rattle.sframe_order.proofs.Reading.{read_ones-step, other_version-step}
use Rattle.sframe_order.proofs.ranges.read_contributions.Goals as goal

pub loop-range-preserved : goal.loop-range-preserved
loop-range-preserved c =
    let s = c.args.section.now in
    let rs = c.args.ranges.now in
    let i = c.loop-range.range-index in
    let r : Span = record { start = 0; stop = 0 } in
    let long : is_contribution (get_or rs i r) ≡ true = search (rules, tests, c.if-range-lt-SIZE.false) in
    record {
      read = ap (λ t. t ++ read_ones s (drop (i + 1) rs)) (ap contributions_view c.in_ok-push.ensures.items ∙ map_push contribution_view c.loop-range.read.items _) ∙ read_ones-step s rs i r (contributions_view c.loop-range.read.items) c.loop-range-test.true long c.in_default.ensures c.loop-range.invariant.read;
      other = other_version-step s rs i r c.loop-range-test.true long c.in_default.ensures c.loop-range.invariant.other;
    }

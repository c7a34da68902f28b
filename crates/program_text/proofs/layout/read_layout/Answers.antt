use Rattle.std.proofs.Common.{◌∷◌, map, arith, sym, ap, ◌∙◌}
use Rattle.program_text.specs.declared.line.Line.{Line}
use Rattle.program_text.specs.Layout.{line_of, placements_in, ranges_in}
use Rattle.program_text.specs.Lines.{lines_of}
use Rattle.program_text.proofs.LayoutLemmas.{listed, based, not_yet}
use Rattle.program_text.proofs.layout.read_layout.Goals as goal

pub loop-rest-preserved : goal.loop-rest-preserved
loop-rest-preserved c =
    let first = ap (map line_of) c.split_line.ensures.lines ∙ ap (λ (line : Line). line ∷ map line_of (lines_of c.split_line.result.1.now)) (sym c.read_line.ensures) in
    let before = c.loop-rest.invariant in
    let added = c.in_ok-add_line.ensures in
    record {
      counted = omega (arith, c.split_line.ensures.shorter, before.counted);
      same = not_yet _ _ _ _ _ _ _ first added.base added.right before.same;
      placements = listed placements_in _ _ _ _ _ _ first added.placements before.placements;
      ranges = listed ranges_in _ _ _ _ _ _ first added.ranges before.ranges;
      base = based _ _ _ _ _ _ first added.base before.base;
    }

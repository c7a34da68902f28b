use Rattle.std.proofs.Common.{◌≡◌, ◌-◌, min, cond, ltb, length, map, sym, ap, ◌∙◌, arith}
use Rattle.std.specs.List.{range_with_len}
use Rattle.std.proofs.lemmas.List.FromFn.{map-range_with_len_more}
use Rattle.sframe_format.specs.Contribution.{row_offset, row_offsets, fres_start, next_above}
use Rattle.sframe_order.specs.Reader.{contribution_view}
use Rattle.sframe_order.proofs.NextAbove.{next_above-push, next_above-within}
use Rattle.sframe_order.proofs.contribution.Contribution.next_row_offset.Goals as goal

pub loop-other-preserved : goal.loop-other-preserved
loop-other-preserved c =
    let v = contribution_view c.args.self.now in
    let e = length v.bytes - fres_start v in
    let o = row_offset v c.args.d in
    let x = row_offset v c.loop-other.other in
    let seen = map (row_offset v) (range_with_len 0 c.loop-other.other) in
    c.nearer-next.ensures
    ∙ ap (λ n. cond (ltb n c.row_offset.result) (min c.loop-other.next c.row_offset.result) c.loop-other.next) c.row_offset-offset.ensures
    ∙ ap (λ y. cond (ltb o y) (min c.loop-other.next y) c.loop-other.next) c.row_offset.ensures
    ∙ ap (λ n. cond (ltb o x) (min n x) n) c.loop-other.invariant
    ∙ sym (next_above-push seen x e o)
    ∙ ap (λ t. next_above t e o) (sym (map-range_with_len_more (row_offset v) 0 c.loop-other.other c.loop-other.other (omega arith)))

pub returns-clause-above : goal.returns-clause-above
returns-clause-above c =
    let v = contribution_view c.args.self.now in
    let e = length v.bytes - fres_start v in
    let o = row_offset v c.args.d in
    let value : c.loop-other.next ≡ next_above (row_offsets v) e o = c.loop-other.invariant ∙ ap (λ n. next_above (map (row_offset v) (range_with_len 0 n)) e o) (omega (arith, c.num_fdes-other-end.ensures)) in
    let within = next_above-within (row_offsets v) e o (c.requires.sound.offsets c.args.d c.requires.exists) in
    omega (arith, within.0, value)

pub returns-clause-within : goal.returns-clause-within
returns-clause-within c =
    let v = contribution_view c.args.self.now in
    let e = length v.bytes - fres_start v in
    let o = row_offset v c.args.d in
    let value : c.loop-other.next ≡ next_above (row_offsets v) e o = c.loop-other.invariant ∙ ap (λ n. next_above (map (row_offset v) (range_with_len 0 n)) e o) (omega (arith, c.num_fdes-other-end.ensures)) in
    let within = next_above-within (row_offsets v) e o (c.requires.sound.offsets c.args.d c.requires.exists) in
    omega (arith, within.1, value, c.requires.sound.fres)

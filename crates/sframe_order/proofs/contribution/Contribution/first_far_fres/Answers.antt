use Rattle.std.proofs.Common.{◌-◌, not, ltb, length, below_more, arith}
use Rattle.sframe_format.specs.Contribution.{row_offset, fres_start}
use Rattle.sframe_order.specs.Reader.{contribution_view}
use Rattle.sframe_order.proofs.FirstOf.{first_below, none_below, passes_below, fails_from}
use Rattle.sframe_order.proofs.contribution.Contribution.first_far_fres.Goals as goal

pub loop-d-preserved : goal.loop-d-preserved
loop-d-preserved c = below_more _ _ c.loop-d.invariant (omega (arith, c.row_offset.ensures))

pub returns-then-row_offset-room : goal.returns-then-row_offset-room
returns-then-row_offset-room c =
    let v = contribution_view c.args.self.now in
    let room = length v.bytes - fres_start v in
    first_below (λ d. not (ltb (row_offset v d) room)) _ c.loop-d.d (omega arith) (λ k b. passes_below (row_offset v k) room (c.loop-d.invariant k b)) (fails_from (row_offset v c.loop-d.d) room (omega arith))

pub returns : goal.returns
returns c =
    let v = contribution_view c.args.self.now in
    let room = length v.bytes - fres_start v in
    none_below (λ d. not (ltb (row_offset v d) room)) _ (λ k b. passes_below (row_offset v k) room (c.loop-d.invariant k (omega arith)))

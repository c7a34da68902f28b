use Rattle.std.proofs.Common.{◌≡◌, ◌+◌, ◌≤◌, length, map, ap, arith}
use Rattle.std.specs.List.{range_with_len}
use Rattle.std.proofs.lemmas.List.FromFn.{sum_by-map-range_with_len_more}
use Rattle.sframe_format.specs.Contribution as format
use Rattle.sframe_format.specs.Contribution.{function_at, row_offset, row_offsets, fres_start, next_above}
use Rattle.sframe_format.specs.Merged.{fres_len}
use Rattle.sframe_order.specs.Reader.{contribution_view}
use Rattle.sframe_order.proofs.Carried.{length_range-le}
use Rattle.sframe_order.proofs.room.fres_len_of.Goals as goal

pub loop-d-preserved : goal.loop-d-preserved
loop-d-preserved c =
    let v : format.Contribution = contribution_view c.args.contribution.now in
    let same : length c.function_at.result.fres.now ≡ length (function_at v c.loop-d.d).fres = ap (λ (g : format.Function). length g.fres) c.function_at.ensures in
    let more : fres_len (map (function_at v) (range_with_len 0 (c.loop-d.d + 1))) ≡ fres_len (map (function_at v) (range_with_len 0 c.loop-d.d)) + length (function_at v c.loop-d.d).fres = sum_by-map-range_with_len_more (λ (g : format.Function). length g.fres) (function_at v) 0 c.loop-d.d c.loop-d.d (omega arith) in
    let short : length (function_at v c.loop-d.d).fres ≤ length v.bytes = length_range-le v.bytes _ _ in
    (omega (arith, c.loop-d.invariant.0), omega (arith, c.loop-d.invariant.1, c.requires.short))

use Rattle.std.proofs.Common.{◌<◌, length, Some, sym, ap, ◌∙◌, arith}
use Rattle.std.specs.List.{slice_get}
use Rattle.std.specs.Option.{option_map}
use Rattle.sframe_format.specs.Contribution.{Function, header}
use Rattle.sframe_order.specs.Reader.{contribution_view}
use Rattle.sframe_find.specs.Frames.{Frames}
use Rattle.sframe_find.proofs.Functions.{function_count, function_got}
use Rattle.sframe_find.proofs.frames.OrderedFrames.rows.Goals as goal

pub fres-requires-clause-exists : goal.fres-requires-clause-exists
fres-requires-clause-exists c =
    omega (arith, c.count.ensures.value, c.if-index-count.false, function_count (contribution_view c.self.inside.contribution), ap (λ (x : Frames). length x.functions) c.self.view_is)

pub returns : goal.returns
returns c =
    let v = contribution_view c.self.inside.contribution in
    let below : c.args.index < (header v).num_fdes = omega (arith, c.count.ensures.value, c.if-index-count.false, function_count v, ap (λ (x : Frames). length x.functions) c.self.view_is) in
    ap (λ t. Some t) c.fres.ensures
    ∙ sym (ap (option_map (λ (f : Function). f.fres)) (function_got v c.args.index below))
    ∙ ap (λ (x : Frames). option_map (λ (f : Function). f.fres) (slice_get x.functions c.args.index)) c.self.view_is

use Rattle.std.proofs.Common.{◌<◌, ◌+◌, length, get_or, Some, sym, ap, ◌∙◌, rules, arith}
use Rattle.std.specs.Int.{w128}
use Rattle.std.specs.List.{slice_get}
use Rattle.std.specs.Option.{option_map}
use Rattle.std.proofs.lemmas.Int.{to_z-of_z}
use Rattle.elf_format.specs.Bytes.{u32_at}
use Rattle.sframe_format.specs.Contribution.{header, function_at}
use Rattle.sframe_order.specs.Reader.{contribution_view}
use Rattle.sframe_find.specs.Frames.{Frames, function_address, frame_function}
use Rattle.sframe_find.proofs.Functions.{fde_inside, function_count, function_is, function_got, same_frame, frame_read}
use Rattle.sframe_find.proofs.frames.OrderedFrames.function.Goals as goal

pub read_u32-requires : goal.read_u32-requires
read_u32-requires c =
    let v = contribution_view c.self.inside.contribution in
    let below : c.args.index < (header v).num_fdes = omega (arith, c.count.ensures.value, c.if-index-count.false, function_count v, ap (λ (x : Frames). length x.functions) c.self.view_is) in
    omega (arith, c.fde_at-at.ensures.value, fde_inside v c.args.index c.self.invariant.0 below)

pub read_u32-requires-2 : goal.read_u32-requires-2
read_u32-requires-2 c =
    let v = contribution_view c.self.inside.contribution in
    let below : c.args.index < (header v).num_fdes = omega (arith, c.count.ensures.value, c.if-index-count.false, function_count v, ap (λ (x : Frames). length x.functions) c.self.view_is) in
    omega (arith, c.fde_at-at.ensures.value, fde_inside v c.args.index c.self.invariant.0 below)

pub bounds-self-inside-at : goal.bounds-self-inside-at
bounds-self-inside-at c =
    let v = contribution_view c.self.inside.contribution in
    let below : c.args.index < (header v).num_fdes = omega (arith, c.count.ensures.value, c.if-index-count.false, function_count v, ap (λ (x : Frames). length x.functions) c.self.view_is) in
    omega (arith, c.fde_at-at.ensures.value, fde_inside v c.args.index c.self.invariant.0 below)

pub returns : goal.returns
returns c =
    let v = contribution_view c.self.inside.contribution in
    let base = c.self.inside.base in
    let below : c.args.index < (header v).num_fdes = omega (arith, c.count.ensures.value, c.if-index-count.false, function_count v, ap (λ (x : Frames). length x.functions) c.self.view_is) in
    let at = c.fde_at-at.ensures.value in
    let f = function_at v c.args.index in
    ap (λ x. Some x)
    (same_frame
    (to_z-of_z w128 c.address.result (search rules) ∙ c.address.ensures f ∙ ap (function_address base) (function_is v c.args.index f below))
    (c.read_u32.ensures ∙ ap (λ n. u32_at v.bytes (n + 4)) at)
    (c.read_u32-2.ensures ∙ ap (λ n. u32_at v.bytes (n + 12)) at)
    (ap (λ n. get_or v.bytes (n + 16) 0) at)
    ∙ sym (frame_read v base c.args.index))
    ∙ sym (ap (option_map (frame_function base)) (function_got v c.args.index below))
    ∙ ap (λ (x : Frames). option_map (frame_function x.base) (slice_get x.functions c.args.index)) c.self.view_is

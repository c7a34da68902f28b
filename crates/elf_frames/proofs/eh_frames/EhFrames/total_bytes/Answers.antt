use Rattle.std.proofs.Common.{◌≡◌, ◌+◌, ◌^◌, ◌<◌, ap, ◌∙◌, subst, arith, map}
use Rattle.elf_frames.specs.Frames.{FrameLists, cie_size, total_size}
use Rattle.elf_frames.specs.Shown.{shown_cie}
use Rattle.elf_frames.proofs.Linked.{seen_sizes, seen_total}
use Rattle.elf_frames.proofs.eh_frames.EhFrames.total_bytes.Goals as goal

pub loop-frame-init : goal.loop-frame-init
loop-frame-init g c =
    let now = c.args.self.now in
    let sizes = seen_sizes g.C.ElfClass.class c.frames-frames.result.now now.frames c.frames-frames.ensures.count c.frames-frames.ensures.frames in
    let cies : c.sum_of_cies.result ≡ cie_size now.cies = c.sum_of_cies.ensures ∙ ap (λ xs. cie_size (map shown_cie xs)) c.as_slice.ensures ∙ ap (λ (x : FrameLists). cie_size x.cies) c.self.view_is in
    let rest : c.self.inside.rest ≡ now.rest = ap (λ (x : FrameLists). x.rest) c.self.view_is in
    let fits : total_size now < 2 ^ 64 = subst (λ (x : FrameLists). total_size x < 2 ^ 64) c.self.view_is c.self.invariant.fits in
    record { summed = omega arith; fits = omega (arith, fits, cies, rest, sizes) }

pub returns : goal.returns
returns g c =
    let now = c.args.self.now in
    let cies : c.sum_of_cies.result ≡ cie_size now.cies = c.sum_of_cies.ensures ∙ ap (λ xs. cie_size (map shown_cie xs)) c.as_slice.ensures ∙ ap (λ (x : FrameLists). cie_size x.cies) c.self.view_is in
    let rest : c.self.inside.rest ≡ now.rest = ap (λ (x : FrameLists). x.rest) c.self.view_is in
    let sum = seen_total g.C.ElfClass.class c.frames-frames.result.now now.frames c.loop-frame.frame-index (c.sum_of_cies.result + c.self.inside.rest) c.loop-frame.sum c.frames-frames.ensures.count c.frames-frames.ensures.frames c.loop-frame-test.false c.loop-frame.invariant.summed in
    omega (arith, sum, cies, rest)

use Rattle.std.proofs.Common.{◌≡◌, ◌<◌, length, sym, ap, ◌∙◌, arith}
use Rattle.std.proofs.lemmas.List.{length-map}
use Rattle.elf_frames.specs.Shown.{sections_of}
use Rattle.elf_frames.specs.steps.Kept.{size_at}
use Rattle.elf_frames.proofs.Linked.{shown_size}
use Rattle.elf_frames.proofs.eh_frames.EhFrames.size_of.Goals as goal

pub returns-clause-value : goal.returns-clause-value
returns-clause-value g c =
    let fs = c.args.self.now.frames in
    let same : length (sections_of fs) ≡ length c.frames.result.now = length-map fs (λ f. record { 0 = f.section }) ∙ sym c.frames.ensures.count in
    let less : c.args.index.0 < length c.frames.result.now = omega (arith, c.requires, c.frames.ensures.count) in
    shown_size g.C.ElfClass.class c.frames.result.now (sections_of fs) c.args.index.0 _ same less ∙ ap (λ xs. size_at xs c.args.index.0) c.frames.ensures.frames

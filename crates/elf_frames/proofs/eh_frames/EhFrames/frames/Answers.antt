use Rattle.std.proofs.Common.{◌≡◌, length, sym, ap, ◌∙◌, subst}
use Rattle.elf_frames.specs.Frames.{FrameLists}
use Rattle.elf_frames.specs.Shown.{shown_frames, sections_of}
use Rattle.elf_frames.proofs.Linked.{shown_length, shown_again}
use Rattle.elf_frames.proofs.eh_frames.EhFrames.frames.Goals as goal

pub returns-clause-count : goal.returns-clause-count
returns-clause-count g c =
    let links = c.self.inside.links in
    ap length c.deref.ensures.value ∙ sym (shown_length g.C.ElfClass.class links.frames.items links.sections.items c.self.invariant.linked.sections) ∙ ap (λ (x : FrameLists). length x.frames) c.self.view_is

pub returns-clause-frames : goal.returns-clause-frames
returns-clause-frames g c =
    let links = c.self.inside.links in
    ap (λ fs. shown_frames g.C.ElfClass.class fs (sections_of c.args.self.now.frames)) c.deref.ensures.value
    ∙ subst (λ (x : FrameLists). shown_frames g.C.ElfClass.class links.frames.items (sections_of x.frames) ≡ x.frames) c.self.view_is (shown_again g.C.ElfClass.class links.frames.items links.sections.items c.self.invariant.linked.sections)

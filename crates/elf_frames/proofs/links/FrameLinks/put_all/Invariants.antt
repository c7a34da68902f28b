use Rattle.std.proofs.Common.{◌++◌, drop}
use Rattle.elf_frames.specs.Shown.{shown_frames}
use Rattle.elf_frames.specs.steps.Links.{linked_frames}
use Rattle.elf_frames.proofs.Linked.{IsPut}
use Rattle.elf_frames.proofs.links.FrameLinks.put_all.Given as goal

abbrev pub invariant-loop-frame : goal.invariant-loop-frame
invariant-loop-frame g l =
    IsPut g.C.ElfClass.class l.self l.frame-iterator.rest.items (drop l.index l.sections) (linked_frames g.C.ElfClass.class l.fn.self ++ shown_frames g.C.ElfClass.class l.fn.frames.items l.fn.sections)

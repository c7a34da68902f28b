use Rattle.elf_format.specs.declared.index.SectionIndex.{SectionIndex}
use Rattle.elf_frames.proofs.Linked.{put_some, put_step}
use Rattle.elf_frames.proofs.links.FrameLinks.put_all.Goals as goal

pub loop-frame-preserved : goal.loop-frame-preserved
loop-frame-preserved g c =
    let d : SectionIndex = record { 0 = 0 } in
    let e = c.in-Some.ensures.steps.0 in
    let ss = c.args.sections.now in
    let less = put_some g.C.ElfClass.class c.loop-frame.self c.in-Some.frame c.loop-frame.frame-iterator.rest.items c.next.new.self.rest.items ss c.loop-frame.index _ e c.loop-frame.invariant in
    put_step g.C.ElfClass.class c.loop-frame.self c.put_reserved.new.self c.in-Some.frame c.loop-frame.frame-iterator.rest.items c.next.new.self.rest.items ss c.loop-frame.index d _ e c.loop-frame.invariant less
    c.put_reserved.ensures.linked c.put_reserved.ensures.frames c.put_reserved.ensures.last c.put_reserved.ensures.room.0 c.put_reserved.ensures.room.1 c.put_reserved.ensures.room.2 c.put_reserved.ensures.room.3

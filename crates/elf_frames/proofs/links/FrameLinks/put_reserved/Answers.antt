use Rattle.std.proofs.Common.{◌≡◌, ◌+◌, ◌<◌, length, set, Some, sym, ap, ◌∙◌, arith}
use Rattle.std.proofs.Math.ListN.{length-set}
use Rattle.std.proofs.lemmas.List.{length_push}
use Rattle.elf_frames.proofs.Linked.{shown_put, put_previous, put_last, put_within}
use Rattle.elf_frames.proofs.links.FrameLinks.put_reserved.Goals as goal

pub returns-clause-linked : goal.returns-clause-linked
returns-clause-linked g c =
    let last = c.args.self.now.last.items in
    let fs = c.args.self.now.frames.items in
    let ss = c.args.self.now.sections.items in
    let below : c.args.section.0 < length last = omega (arith, c.args.self.now.last.ok, c.requires.section) in
    let count : c.len.result ≡ length fs = omega (arith, c.args.self.now.frames.ok, c.len.ensures) in
    let same : length (set last c.args.section.0 (Some (record { 0 = c.len.result }))) ≡ length last = length-set last c.args.section.0 (Some (record { 0 = c.len.result })) in
    record {
      sections = rw (c.push_reserved.ensures.items, c.push_reserved-2.ensures.items) (length_push ss c.args.section ∙ ap (λ n. n + 1) c.requires.linked.sections ∙ sym (length_push fs _));
      within = rw (c.push_reserved-2.ensures.items) (put_within (length last) (length (set last c.args.section.0 (Some (record { 0 = c.len.result })))) ss c.args.section (omega (arith, same)) below c.requires.linked.within);
      previous = rw (c.push_reserved.ensures.items, c.push_reserved-2.ensures.items) (put_previous g.C.ElfClass.class fs ss last _ c.args.section c.requires.linked.sections c.requires.linked.previous c.requires.linked.last below c.index-previous.ensures);
      last = rw (c.push_reserved.ensures.items, c.push_reserved-2.ensures.items) (put_last g.C.ElfClass.class fs ss last _ c.args.section c.len.result c.requires.linked.sections c.requires.linked.last below count);
    }

pub returns-clause-frames : goal.returns-clause-frames
returns-clause-frames g c = rw (c.push_reserved.ensures.items, c.push_reserved-2.ensures.items) (shown_put g.C.ElfClass.class c.args.self.now.frames.items c.args.self.now.sections.items _ c.args.section c.requires.linked.sections)

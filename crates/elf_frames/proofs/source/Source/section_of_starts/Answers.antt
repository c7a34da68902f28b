use Rattle.std.proofs.Common.{◌≡◌, ◌<◌, None, sym, rules, arith}
use Rattle.std.specs.Prelude.{slice_get}
use Rattle.elf_frames.specs.steps.Source.{source_input}
use Rattle.elf_frames.proofs.Ranges.{range_past}
use Rattle.elf_frames.proofs.Starting.{begun, more, found, over}
use Rattle.elf_frames.proofs.source.Source.section_of_starts.Goals as goal

pub loop-index-init : goal.loop-index-init
loop-index-init g c = begun (source_input g.C.ElfClass.class c.args.self.now) c.args.offset c.args.span.start c.args.span.stop

pub returns-in_default-clause-section : goal.returns-in_default-clause-section
returns-in_default-clause-section g c =
    let input = source_input g.C.ElfClass.class c.args.self.now in
    let none : slice_get input.relocations c.loop-index.index ≡ None = search rules in
    (over input c.args.offset c.args.span.start c.args.span.stop c.loop-index.index _ c.loop-index.invariant (range_past input.relocations c.loop-index.index c.args.span.stop none)).0

pub returns-in_default-clause-sound : goal.returns-in_default-clause-sound
returns-in_default-clause-sound g c =
    let input = source_input g.C.ElfClass.class c.args.self.now in
    let none : slice_get input.relocations c.loop-index.index ≡ None = search rules in
    (over input c.args.offset c.args.span.start c.args.span.stop c.loop-index.index _ c.loop-index.invariant (range_past input.relocations c.loop-index.index c.args.span.stop none)).1

pub returns-in-Err-clause-cause : goal.returns-in-Err-clause-cause
returns-in-Err-clause-cause g c =
    let input = source_input g.C.ElfClass.class c.args.self.now in
    let less : c.loop-index.index < c.args.span.stop = omega arith in
    found input c.args.offset c.args.span.start c.args.span.stop c.loop-index.index c.in-Some.relocation _ c.loop-index.invariant less (sym c.in-Some.ensures) c.in-Err.ensures.cause

pub loop-index-preserved : goal.loop-index-preserved
loop-index-preserved g c =
    let input = source_input g.C.ElfClass.class c.args.self.now in
    let less : c.loop-index.index < c.args.span.stop = omega arith in
    more input c.args.offset c.args.span.start c.args.span.stop c.loop-index.index c.in-Some.relocation _ _ c.loop-index.invariant less (sym c.in-Some.ensures) c.in-Ok.ensures.sound c.in-Ok.ensures.section

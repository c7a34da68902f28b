use Rattle.elf_frames.specs.steps.Source.{source_input}
use Rattle.elf_frames.proofs.Taking.{takes, start_below}
use Rattle.elf_frames.proofs.source.Source.span_of.Goals as goal

pub returns : goal.returns
returns g c =
    let input = source_input g.C.ElfClass.class c.args.self.now in
    takes input c.args.entry c.args.taken c.first_not_below-stop.result c.requires.found c.requires.taken (c.first_not_below-stop.ensures (start_below input c.args.entry c.args.taken c.requires.taken))

use Rattle.std.proofs.Common.{◌∙◌}
use Rattle.elf_frames.specs.steps.Source.{source_input}
use Rattle.elf_frames.proofs.Taking.{lacking_is, first_lacks, always_ok}
use Rattle.elf_frames.proofs.source.Source.take_frame.Goals as goal

pub returns-in-Ok-Some-clause-symbols : goal.returns-in-Ok-Some-clause-symbols
returns-in-Ok-Some-clause-symbols g c =
    always_ok c.take_frame_if_loadable.result (lacking_is (source_input g.C.ElfClass.class c.args.self.now) c.args.entry c.args.span.start c.args.span.stop c.requires.taken c.requires.fde ∙ c.in-Ok-Some.ensures.sound)

pub returns-in-Ok-None-clause-symbols : goal.returns-in-Ok-None-clause-symbols
returns-in-Ok-None-clause-symbols g c =
    lacking_is (source_input g.C.ElfClass.class c.args.self.now) c.args.entry c.args.span.start c.args.span.stop c.requires.taken c.requires.fde ∙ c.in-Ok-None.ensures.sound

pub returns-in-Err-clause-cause : goal.returns-in-Err-clause-cause
returns-in-Err-clause-cause g c =
    first_lacks (source_input g.C.ElfClass.class c.args.self.now) c.args.entry c.args.span.start c.args.span.stop c.in-Err.error c.requires.taken c.requires.fde c.in-Err.ensures.cause

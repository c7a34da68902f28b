use Rattle.std.proofs.Common.{option_map}
use Rattle.elf_frames.specs.steps.Source.{source_input}
use Rattle.elf_frames.proofs.Starting.{AtStart}
use Rattle.elf_frames.proofs.source.Source.section_of_starts.Given as goal

abbrev pub invariant-loop-index : goal.invariant-loop-index
invariant-loop-index g l = AtStart (source_input g.C.ElfClass.class l.self) l.offset l.fn.span.start l.fn.span.stop l.index (option_map (λ i. i.0) l.section)

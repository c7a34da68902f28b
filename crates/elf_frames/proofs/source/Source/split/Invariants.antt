use Rattle.std.proofs.Common.{◌-◌, ◌≤◌, length}
use Rattle.elf_frames.specs.steps.Source.{source_input}
use Rattle.elf_frames.specs.steps.Reached.{IsReached}
use Rattle.elf_frames.proofs.source.Source.split.Given as goal

abbrev pub invariant-entries : goal.invariant-entries
invariant-entries g l = record {
  within : l.offset ≤ length (source_input g.C.ElfClass.class l.self).bytes;
  reached : IsReached g.C.ElfClass.class (source_input g.C.ElfClass.class l.self) l.parts l.offset l.taken;
}

abbrev pub decreases-entries : goal.decreases-entries
decreases-entries g l = length (source_input g.C.ElfClass.class l.self).bytes - l.offset

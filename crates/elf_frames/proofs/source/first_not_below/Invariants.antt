use Rattle.std.proofs.Common.{◌≤◌}
use Rattle.elf_relocs.specs.Lists.{relocations_of}
use Rattle.elf_frames.specs.Taken.{count_below}
use Rattle.elf_frames.proofs.source.first_not_below.Given as goal

abbrev pub invariant-loop-index : goal.invariant-loop-index
invariant-loop-index g l =
    l.fn.start ≤ count_below l.limit (relocations_of g.C.ElfClass.class l.list) → l.index ≤ count_below l.limit (relocations_of g.C.ElfClass.class l.list)

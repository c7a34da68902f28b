use Rattle.std.proofs.Common.{◌≡◌, slice_range}
use Rattle.std.specs.List.{list_all}
use Rattle.elf_relocs.specs.Lists.{relocations_of}
use Rattle.elf_frames.specs.Taken.{has_symbol}
use Rattle.elf_frames.proofs.source.have_symbols.Given as goal

abbrev pub invariant-loop-index : goal.invariant-loop-index
invariant-loop-index g l =
    list_all has_symbol (slice_range (relocations_of g.C.ElfClass.class l.list) l.fn.span.start l.fn.span.stop)
    ≡ list_all has_symbol (slice_range (relocations_of g.C.ElfClass.class l.list) l.index l.fn.span.stop)

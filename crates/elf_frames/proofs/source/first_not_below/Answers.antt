use Rattle.std.proofs.Common.{◌≡◌, None, sym, rules}
use Rattle.std.specs.Prelude.{slice_get}
use Rattle.elf_relocs.specs.Lists.{relocations_of}
use Rattle.elf_frames.proofs.Ranges.{below_more, below_here, below_end, below_last}
use Rattle.elf_frames.proofs.source.first_not_below.Goals as goal

pub returns-in_default : goal.returns-in_default
returns-in_default g c = λ h.
    let rs = relocations_of g.C.ElfClass.class c.args.list.now in
    let none : slice_get rs c.loop-index.index ≡ None = search rules in
    below_end c.args.limit rs c.loop-index.index (c.loop-index.invariant h) none

pub returns-then-relocation-limit : goal.returns-then-relocation-limit
returns-then-relocation-limit g c = λ h.
    below_here c.args.limit (relocations_of g.C.ElfClass.class c.args.list.now) c.loop-index.index c.in-Some.relocation (c.loop-index.invariant h) (sym c.in-Some.ensures) c.if-relocation-limit.true

pub loop-index-preserved : goal.loop-index-preserved
loop-index-preserved g c = λ h.
    below_more c.args.limit (relocations_of g.C.ElfClass.class c.args.list.now) c.loop-index.index c.in-Some.relocation (c.loop-index.invariant h) (sym c.in-Some.ensures) c.if-relocation-limit.false

pub returns : goal.returns
returns g c = λ h.
    below_last c.args.limit (relocations_of g.C.ElfClass.class c.args.list.now) c.num_relocations-count.result c.loop-index.index c.num_relocations-count.ensures c.loop-index-test.false (c.loop-index.invariant h)

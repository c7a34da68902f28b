use Rattle.std.proofs.Common.{◌≡◌, None, sym, ap, ◌∙◌, rules, arith}
use Rattle.std.specs.Prelude.{slice_get}
use Rattle.std.specs.List.{list_all}
use Rattle.elf_relocs.specs.Lists.{relocations_of}
use Rattle.elf_frames.specs.Taken.{has_symbol}
use Rattle.elf_frames.proofs.Ranges.{range_past, symbols_more, symbols_stop}
use Rattle.elf_frames.proofs.source.have_symbols.Goals as goal

pub returns-in_default : goal.returns-in_default
returns-in_default g c =
    let rs = relocations_of g.C.ElfClass.class c.args.list.now in
    let none : slice_get rs c.loop-index.index ≡ None = search rules in
    sym (c.loop-index.invariant ∙ ap (list_all has_symbol) (range_past rs c.loop-index.index c.args.span.stop none))

pub returns-then-relocation-eq0 : goal.returns-then-relocation-eq0
returns-then-relocation-eq0 g c =
    sym (c.loop-index.invariant ∙ symbols_stop (relocations_of g.C.ElfClass.class c.args.list.now) c.loop-index.index c.args.span.stop c.in-Some.relocation (omega arith) c.in-Some.ensures c.if-relocation-eq0.true)

pub loop-index-preserved : goal.loop-index-preserved
loop-index-preserved g c =
    c.loop-index.invariant ∙ symbols_more (relocations_of g.C.ElfClass.class c.args.list.now) c.loop-index.index c.args.span.stop c.in-Some.relocation (omega arith) c.in-Some.ensures c.if-relocation-eq0.false

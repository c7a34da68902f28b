use Rattle.std.proofs.Common.{length, sym, ap, ◌∙◌, arith}
use Rattle.elf_view.proofs.RelocationLemmas.{gather_start}
use Rattle.elf_view.proofs.relocation_sections.RelocationSections.gather.Goals as goal

pub loop-index-init : goal.loop-index-init
loop-index-init g c =
    let same = c.iter-header-items.ensures.same in
    let start = gather_start g.H.SectionHeaderFields.class c.args.bytes.now c.args.table c.len-count.result c.in_ok-first.first.items c.iter-header-items.result
    (same ∙ c.requires) (c.len-count.ensures ∙ ap length (sym same)) c.in_ok-first.ensures.items in
    (c.in_ok-first.ensures.len, omega (arith, c.iter-header-items.ensures.bound), start.0, start.1)

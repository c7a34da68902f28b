use Rattle.std.proofs.lemmas.Result.{err_from_is_err_and}
use Rattle.elf_versions.proofs.DefinedLemmas.{needs_start, need_step, needs_end, need_fault}
use Rattle.elf_versions.proofs.needed.VerneedTable.new.Goals as goal

pub loop-need-init : goal.loop-need-init
loop-need-init c = needs_start c.args.versyms c.args.strings.now c.args.needs c.into_iter-need-iterator.result c.in_ok-names.names 0 (cc) c.in_ok-names.ensures

pub loop-need-preserved : goal.loop-need-preserved
loop-need-preserved c = need_step c.args.versyms c.args.strings.now c.loop-need.names c.put_needed.new.names _ c.next.new.self c.loop-need.need-iterator _ c.in-Some.ensures.steps c.in_ok-put_needed.ensures c.loop-need.invariant

pub returns : goal.returns
returns c = needs_end c.args.versyms c.args.strings.now c.loop-need.need-iterator c.loop-need.names _ c.in-None.ensures.steps.0 c.loop-need.invariant

pub returns-in_err-put_needed : goal.returns-in_err-put_needed
returns-in_err-put_needed c =
    let p = err_from_is_err_and c.from_residual-in_err-put_needed.result c.from_residual-in_err-put_needed.ensures.1 in
    rw (p.1, p.2) (need_fault c.args.versyms c.args.strings.now c.loop-need.names _ c.next.new.self c.loop-need.need-iterator _ _ c.in-Some.ensures.steps c.in_err-put_needed.ensures c.loop-need.invariant)

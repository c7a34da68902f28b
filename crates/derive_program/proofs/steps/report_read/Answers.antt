use Rattle.std.proofs.Common.{refl, sym}
use Rattle.derive_program.proofs.AnswerLemmas.{after_writing}
use Rattle.derive_program.proofs.steps.report_read.Goals as goal

pub returns-in-Err-clause-answer : goal.returns-in-Err-clause-answer
returns-in-Err-clause-answer g c = c.in-Err.ensures.refused _ (record { written = refl; puts = refl })

pub returns-in-Err-clause-counted : goal.returns-in-Err-clause-counted
returns-in-Err-clause-counted g c = sym (c.in-Err.ensures.counted _)

pub returns-clause-answer : goal.returns-clause-answer
returns-clause-answer g c = after_writing c.args.machine c.args.version _ _ _ _ _ _ _ c.in-Ok.ensures.started c.write_report.ensures.answer

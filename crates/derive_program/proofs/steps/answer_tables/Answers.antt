use Rattle.std.proofs.Common.{refl}
use Rattle.program_text.specs.Command.{for_tables}
use Rattle.program_text.specs.Tables.{tables_of}
use Rattle.derive_program.proofs.RunLemmas.{run_of_answer, run_of_error, error_of, tables_fault, after_reading, counted_after}
use Rattle.derive_program.proofs.steps.answer_tables.Goals as goal

pub returns-in-Ok-clause-cause : goal.returns-in-Ok-clause-cause
returns-in-Ok-clause-cause g c = λ words said.
    run_of_answer _ _ _ (tables_of c.args.command.now) c.index_version.result c.in-Ok.read c.report_read.result c.index_version.ensures said c.in-Ok.ensures.known c.in-Ok.ensures.inside c.report_read.ensures.answer

pub returns-in-Ok-clause-reads : goal.returns-in-Ok-clause-reads
returns-in-Ok-clause-reads g c =
    after_reading _ _ _ _ (tables_of c.args.command.now) _ _ c.report_read.result c.in-Ok.ensures.reads c.report_read.ensures.answer

pub returns-in-Ok-clause-counted : goal.returns-in-Ok-clause-counted
returns-in-Ok-clause-counted g c = counted_after _ _ _ _ _ _ c.report_read.result c.in-Ok.ensures.counted c.report_read.ensures.answer

pub returns-in-Err-clause-cause : goal.returns-in-Err-clause-cause
returns-in-Err-clause-cause g c = λ words said.
    let facts = c.in-Err.ensures in
    let command = tables_of c.args.command.now in
    run_of_error _ _ _ (for_tables command) c.in-Err.error c.from.result said c.from.ensures (record { written = refl; puts = refl })
    (λ k is. facts.unread k (error_of _ _ is))
    (λ k is. facts.too_long k (error_of _ _ is))
    (λ k is. tables_fault _ command _ (facts.longer k (error_of _ _ is)))
    (λ k is steady. tables_fault _ command _ (facts.missing k (error_of _ _ is) steady))

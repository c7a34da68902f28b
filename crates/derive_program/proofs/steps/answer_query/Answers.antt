use Rattle.program_text.specs.Query.{query_of}
use Rattle.derive_program.proofs.RunLemmas.{run_of_read, after_query, counted_query, one_file, one_read}
use Rattle.derive_program.proofs.steps.answer_query.Goals as goal

pub returns-in-Ok-clause-cause : goal.returns-in-Ok-clause-cause
returns-in-Ok-clause-cause g c = λ words said.
    run_of_read _ _ _ (query_of c.args.query.now) c.file.result.now c.in-Ok.bytes.items c.deref.result.now c.answer_read.result said c.file.ensures (one_file c.args.query.now) c.deref.ensures.value c.in-Ok.ensures.known c.answer_read.ensures.answer

pub returns-in-Ok-clause-reads : goal.returns-in-Ok-clause-reads
returns-in-Ok-clause-reads g c =
    after_query (query_of c.args.query.now) _ _ _ _ c.answer_read.result (one_read (query_of c.args.query.now) c.file.result.now _ _ c.file.ensures (one_file c.args.query.now) c.in-Ok.ensures.reads) c.answer_read.ensures.answer

pub returns-in-Ok-clause-counted : goal.returns-in-Ok-clause-counted
returns-in-Ok-clause-counted g c = counted_query (query_of c.args.query.now) _ _ _ _ c.answer_read.result c.in-Ok.ensures.counted c.answer_read.ensures.answer

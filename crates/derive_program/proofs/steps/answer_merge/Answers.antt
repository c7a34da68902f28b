use Rattle.std.proofs.Common.{◌≡◌, IfSome, Ok, subst}
use Rattle.program_files.specs.Reading.{file_limit, within}
use Rattle.program_io.specs.Contents.{Contents, file_of}
use Rattle.program_text.specs.Merge.{merge_of}
use Rattle.program_text.specs.Query.{for_merge}
use Rattle.derive_program.proofs.RunLemmas.{run_of_both, after_query, two_read, read_to_error, error_of}
use Rattle.derive_program.proofs.steps.answer_merge.Goals as goal

pub returns-in-Ok-read_named-clause-reads : goal.returns-in-Ok-read_named-clause-reads
returns-in-Ok-read_named-clause-reads g c =
    after_query (for_merge (merge_of c.args.command.now)) _ _ _ _ c.merge_read.result (two_read _ _ _ _ _ c.in-Ok.ensures.reads c.in-Ok-read_named.ensures.reads) c.merge_read.ensures.answer

pub returns-in-Ok-read_named-clause-cause : goal.returns-in-Ok-read_named-clause-cause
returns-in-Ok-read_named-clause-cause g c = λ words said.
    let command = merge_of c.args.command.now in
    let P : Contents → Type 0 = λ h. IfSome h (λ held. within 2 file_limit (file_of held command.second) ≡ Ok c.in-Ok-read_named.second.items) in
    run_of_both _ _ _ command c.in-Ok.bytes.items c.in-Ok-read_named.second.items c.deref.result.now c.deref-in-Ok-read_named.result.now c.merge_read.result said c.deref.ensures.value c.deref-in-Ok-read_named.ensures.value
    c.in-Ok.ensures.known (subst P c.in-Ok.ensures.held c.in-Ok-read_named.ensures.known) c.merge_read.ensures.answer

pub returns-clause-reads : goal.returns-clause-reads
returns-clause-reads g c =
    let facts = c.in-Err-read_named.ensures in
    read_to_error (for_merge (merge_of c.args.command.now)) 2 c.in-Err-read_named.error c.from-in-Err-read_named.result _ _ c.from-in-Err-read_named.ensures
    (two_read _ _ _ _ _ c.in-Ok.ensures.reads facts.reads) (λ k e. (facts.unread k (error_of _ _ e)).0) (λ k e. (facts.too_long k (error_of _ _ e)).0)

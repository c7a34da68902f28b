use Rattle.std.proofs.Common.{inl, inr}
use Rattle.derive_program.proofs.ClauseLemmas.{cause_at, bad_words, unwritten_by, silent_by, done_by, refused_by, not_span_by, complete_by, complete_or_fault_by, layout_exact_by, refused_exact_by, replied_by, reply_exact_by, reply_complete_by, reply_or_fault_by, shown_by, shown_complete_by, shown_or_fault_by}
use Rattle.derive_program.proofs.steps.run.Goals as goal

pub returns-clause-words : goal.returns-clause-words
returns-clause-words g c = λ index. (λ is. (cause_at _ _ _ _ _ c.answer.ensures.cause is).0, λ wrong. bad_words _ _ _ _ index c.answer.ensures.cause wrong)

pub returns-clause-read_fault : goal.returns-clause-read_fault
returns-clause-read_fault g c = λ index is. (cause_at _ _ _ _ _ c.answer.ensures.cause is).0

pub returns-clause-file_too_long : goal.returns-clause-file_too_long
returns-clause-file_too_long g c = λ index is. (cause_at _ _ _ _ _ c.answer.ensures.cause is).0

pub returns-clause-layout : goal.returns-clause-layout
returns-clause-layout g c = λ line is. (cause_at _ _ _ _ _ c.answer.ensures.cause is).0

pub returns-clause-refused : goal.returns-clause-refused
returns-clause-refused g c = refused_by _ _ _ _ c.answer.ensures.cause

pub returns-clause-write_fault : goal.returns-clause-write_fault
returns-clause-write_fault g c = λ is. (cause_at _ _ _ _ _ c.answer.ensures.cause is).put.rose

pub returns-clause-steady_sink : goal.returns-clause-steady_sink
returns-clause-steady_sink g c = λ steady is. (cause_at _ _ _ _ _ c.answer.ensures.cause is).put.never steady

pub returns-clause-done : goal.returns-clause-done
returns-clause-done g c = done_by _ _ _ _ c.answer.ensures.cause

pub returns-clause-cut_off : goal.returns-clause-cut_off
returns-clause-cut_off g c = λ is. cause_at _ _ _ _ _ c.answer.ensures.cause is

pub returns-clause-unwritten : goal.returns-clause-unwritten
returns-clause-unwritten g c = λ silent. unwritten_by _ _ _ _ c.answer.ensures.cause silent

pub returns-clause-complete : goal.returns-clause-complete
returns-clause-complete g c = λ good quiet silent. complete_by _ _ _ _ c.answer.ensures.cause good (inl quiet) (inl silent)

pub returns-clause-complete_steady : goal.returns-clause-complete_steady
returns-clause-complete_steady g c = λ good files sink. complete_by _ _ _ _ c.answer.ensures.cause good (inr files) (inr sink)

pub returns-clause-layout_exact : goal.returns-clause-layout_exact
returns-clause-layout_exact g c = λ line wrong files. layout_exact_by _ _ _ line _ c.answer.ensures.cause wrong files

pub returns-clause-refused_exact : goal.returns-clause-refused_exact
returns-clause-refused_exact g c = λ error bad files. refused_exact_by _ _ _ error _ c.answer.ensures.cause bad files

pub returns-clause-silent : goal.returns-clause-silent
returns-clause-silent g c = λ silent. silent_by _ _ _ _ c.answer.ensures.cause silent

pub returns-clause-not_span : goal.returns-clause-not_span
returns-clause-not_span g c = not_span_by c.inside_is_no_bad_span.ensures _ _ _ _ c.answer.ensures.cause

pub returns-clause-complete_or_fault : goal.returns-clause-complete_or_fault
returns-clause-complete_or_fault g c = λ good. complete_or_fault_by _ _ _ _ c.answer.ensures.cause good

pub returns-clause-replied : goal.returns-clause-replied
returns-clause-replied g c = λ reply is. replied_by _ _ _ _ reply c.answer.ensures.cause is

pub returns-clause-reply_exact : goal.returns-clause-reply_exact
returns-clause-reply_exact g c = λ good reply replies files. reply_exact_by c.replies_are_one.ensures.of_bytes _ _ _ _ c.answer.ensures.cause good reply replies files

pub returns-clause-reply_complete : goal.returns-clause-reply_complete
returns-clause-reply_complete g c = λ good files sink. reply_complete_by _ _ _ _ c.answer.ensures.cause good files sink

pub returns-clause-reply_or_fault : goal.returns-clause-reply_or_fault
returns-clause-reply_or_fault g c = λ good. reply_or_fault_by _ _ _ _ c.answer.ensures.cause good

pub returns-clause-shown : goal.returns-clause-shown
returns-clause-shown g c = shown_by _ _ _ _ c.answer.ensures.cause

pub returns-clause-shown_complete : goal.returns-clause-shown_complete
returns-clause-shown_complete g c = λ count said sink. shown_complete_by _ _ _ _ count c.answer.ensures.cause said sink

pub returns-clause-shown_or_fault : goal.returns-clause-shown_or_fault
returns-clause-shown_or_fault g c = λ count said. shown_or_fault_by _ _ _ _ count c.answer.ensures.cause said

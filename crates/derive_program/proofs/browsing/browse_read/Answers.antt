use Rattle.std.proofs.Common.{refl, ◌∙◌}
use Rattle.program_text.specs.Browse.{browse_of}
use Rattle.derive_program.proofs.ReplyLemmas.{listed_answer}
use Rattle.derive_program.proofs.browsing.browse_read.Goals as goal

pub returns-clause-answer : goal.returns-clause-answer
returns-clause-answer g c =
    listed_answer (browse_of c.args.command.now) c.args.bytes.now c.in-Ok.index c.deref.result.now c.in-Ok-list_index.listing.text.items c.deref-2.result.now c.in-Ok-list_index.listing.count _ c.put_listing.result
    c.in-Ok.ensures.bytes (c.in-Ok.ensures.checked.0 refl) (c.deref.ensures.value ∙ c.in-Some.ensures) c.in-Ok-list_index.ensures c.deref-2.ensures.value c.put_listing.ensures.answer

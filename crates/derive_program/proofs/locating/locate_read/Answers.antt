use Rattle.program_text.specs.Frame.{frame_query_of}
use Rattle.derive_program.proofs.ReplyLemmas.{located_answer}
use Rattle.derive_program.proofs.locating.locate_read.Goals as goal

pub returns-clause-answer : goal.returns-clause-answer
returns-clause-answer g c =
    located_answer (frame_query_of c.args.command.now) c.args.section.now c.in-Ok.frames c.in-Some.index c.in-Ok-line_of.text.items c.deref.result.now _ c.put_located.result c.in-Ok.ensures.frames c.in-Ok.ensures.ordered c.in-Some.ensures c.in-Ok-line_of.ensures c.deref.ensures.value c.put_located.ensures.answer

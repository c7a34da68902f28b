use Rattle.derive_program.proofs.RunLemmas.{run_of_demo}
use Rattle.derive_program.proofs.steps.answer.Goals as goal

pub returns-in-Ok-Demo-clause-cause : goal.returns-in-Ok-Demo-clause-cause
returns-in-Ok-Demo-clause-cause g c =
    run_of_demo _ _ _ c.in-Ok-Demo.command.count c.show_demo.result (rw c.in-Ok-Demo.field-0-is at c.in-Ok-Demo.ensures.exactly) c.show_demo.ensures.answer

use Rattle.std.proofs.Common.{[], refl}
use Rattle.program_text.proofs.LineLemmas.{first_piece, only_piece}
use Rattle.program_text.proofs.pieces.split_line.Goals as goal

pub returns-in-Some-clause-lines : goal.returns-in-Some-clause-lines
returns-in-Some-clause-lines c = first_piece 10 [] c.args.text.now c.in-Some.end c.in-Some.ensures.0 c.in-Some.ensures.1

pub returns-in-None-clause-lines : goal.returns-in-None-clause-lines
returns-in-None-clause-lines c = only_piece 10 [] (λ byte. refl) c.args.text.now c.requires c.in-None.ensures

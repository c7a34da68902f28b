use Rattle.program_text.proofs.NumberTexts.{one_text}
use Rattle.program_text.proofs.laws.numbers_have_one_text.Goals as goal

pub returns : goal.returns
returns c = λ word n. one_text word n

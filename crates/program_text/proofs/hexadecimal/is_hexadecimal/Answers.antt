use Rattle.program_text.proofs.HexWords.{tested}
use Rattle.program_text.proofs.hexadecimal.is_hexadecimal.Goals as goal

pub returns : goal.returns
returns c = tested c.args.word.now _ c.are_pairs.ensures

use Rattle.elf_frames.proofs.OneSplit.{split_is_one}
use Rattle.elf_frames.proofs.laws.splits_are_one.Goals as goal

pub returns : goal.returns
returns c = split_is_one

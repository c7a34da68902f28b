use Rattle.elf_frames.proofs.Sizes.{split_is_within}
use Rattle.elf_frames.proofs.laws.splits_are_within.Goals as goal

pub returns : goal.returns
returns c = split_is_within

use Rattle.std.proofs.Common.{lit<, refl}
use Rattle.elf_words.proofs.alignment.Alignment.new.Goals as goal

pub invariant_of-result : goal.invariant_of-result
unfolding lib.Count.ones
invariant_of-result c = (lit< tt, refl)

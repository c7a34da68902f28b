-- The definitions compute.
use Rattle.std.proofs.Common.{refl}
use Rattle.elf_format.specs.Bytes.{le}
use Rattle.elf_format.proofs.version_examples.version_chains_are_followed.Goals as goal

pub returns : goal.returns
unfolding le
returns c = record { overlapping = refl; truncated = refl; counted = refl; ended = refl; of_needs = refl; nothing = refl }

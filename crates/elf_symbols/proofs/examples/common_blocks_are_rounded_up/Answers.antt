-- The definitions compute.
use Rattle.std.proofs.Common.{refl}
use lib.Count.{ones}
use Rattle.elf_format.specs.Bytes.{le}
use Rattle.elf_symbols.proofs.examples.common_blocks_are_rounded_up.Goals as goal

pub returns-clause-common : goal.returns-clause-common
unfolding le ones
returns-clause-common c = refl

pub returns-clause-size : goal.returns-clause-size
unfolding le ones
returns-clause-size c = refl

pub returns-clause-misaligned : goal.returns-clause-misaligned
unfolding le ones
returns-clause-misaligned c = refl

pub returns-clause-function : goal.returns-clause-function
unfolding le ones
returns-clause-function c = refl

-- The definitions compute.
use Rattle.std.proofs.Common.{refl}
use Rattle.elf_format.specs.Bytes.{le}
use Rattle.elf_symbols.proofs.examples.entries_are_shown.Goals as goal

pub returns-clause-function : goal.returns-clause-function
unfolding le
returns-clause-function c = refl

pub returns-clause-undefined : goal.returns-clause-undefined
unfolding le
returns-clause-undefined c = refl

pub returns-clause-common : goal.returns-clause-common
unfolding le
returns-clause-common c = refl

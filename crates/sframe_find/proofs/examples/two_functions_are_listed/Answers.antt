-- The definitions compute.
use Rattle.std.proofs.Common.{refl}
use Rattle.elf_format.specs.Bytes.{le}
use Rattle.sframe_find.proofs.examples.two_functions_are_listed.Goals as goal

pub returns-clause-size : goal.returns-clause-size
unfolding le
returns-clause-size c = refl

pub returns-clause-functions : goal.returns-clause-functions
unfolding le
returns-clause-functions c = refl

pub returns-clause-fres : goal.returns-clause-fres
unfolding le
returns-clause-fres c = refl

pub returns-clause-sound : goal.returns-clause-sound
unfolding le
returns-clause-sound c = refl

pub returns-clause-truncated : goal.returns-clause-truncated
unfolding le
returns-clause-truncated c = refl

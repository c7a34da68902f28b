-- The four bytes that differ are the characters and the flag of the number.
use Rattle.demo_input.specs.Object.{numbered_set}
use Rattle.demo_input.proofs.object.name_set.Goals as goal

pub returns : goal.returns
unfolding numbered_set
returns c = rw (c.last_digit.ensures, c.last_digit-2.ensures, c.last_digit-3.ensures, c.common_flag.ensures)

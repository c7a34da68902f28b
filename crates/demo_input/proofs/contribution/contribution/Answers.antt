-- The start's bytes are those of the number that is written.
use Rattle.demo_input.specs.Contribution.{numbered_contribution}
use Rattle.demo_input.proofs.contribution.contribution.Goals as goal

pub returns : goal.returns
unfolding numbered_contribution
returns c = rw (c.copy_from_slice.ensures.after, c.to_le_bytes.ensures)

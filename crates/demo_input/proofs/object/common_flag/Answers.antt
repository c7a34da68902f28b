-- The test is the definition's.
use Rattle.std.proofs.Common.{rules}
use Rattle.demo_input.specs.Object.{common_flag}
use Rattle.demo_input.proofs.object.common_flag.Goals as goal

pub returns-then-number-eq0 : goal.returns-then-number-eq0
unfolding common_flag
returns-then-number-eq0 c = search rules

pub returns-else-number-eq0 : goal.returns-else-number-eq0
unfolding common_flag
returns-else-number-eq0 c = search rules

-- So many placements stand there.
use Rattle.std.proofs.Common.{◌≡◌}
use Rattle.demo_input.specs.Generated.{demo_placements}
use Rattle.demo_input.proofs.demo.placements.Given as goal

abbrev pub invariant-loop-number : goal.invariant-loop-number
invariant-loop-number l = l.placements.items ≡ demo_placements l.number

-- So many contributions stand there.
use Rattle.std.proofs.Common.{◌≡◌}
use Rattle.std.specs.List.{flat_map, range_with_len}
use Rattle.demo_input.specs.Contribution.{numbered_contribution}
use Rattle.demo_input.proofs.demo.sframe.Given as goal

abbrev pub invariant-loop-number : goal.invariant-loop-number
invariant-loop-number l = l.bytes.items ≡ flat_map (numbered_contribution l.count) (range_with_len 0 l.number)

-- So many objects stand there.
use Rattle.std.proofs.Common.{◌≡◌}
use Rattle.std.specs.List.{flat_map, range_with_len}
use Rattle.demo_input.specs.Object.{numbered_object}
use Rattle.demo_input.proofs.demo.buffer.Given as goal

abbrev pub invariant-loop-number : goal.invariant-loop-number
invariant-loop-number l = l.bytes.items ≡ flat_map numbered_object (range_with_len 0 l.number)

-- So many spans stand there.
use Rattle.std.proofs.Common.{◌≡◌, map}
use Rattle.std.specs.List.{range_with_len}
use Rattle.demo_input.specs.Generated.{piece_span}
use Rattle.demo_input.proofs.demo.piece_spans.Given as goal

abbrev pub invariant-loop-number : goal.invariant-loop-number
invariant-loop-number l = l.spans.items ≡ map (piece_span l.size) (range_with_len 0 l.number)

use Rattle.std.proofs.Common.{◌≡◌, ◌++◌, length}
use Rattle.hex.specs.Hex.{encode_lower}
use Rattle.program_text.proofs.report.push_digits.Given as goal

abbrev pub invariant-rows : goal.invariant-rows
invariant-rows l = l.out.items ++ encode_lower l.rest ≡ l.initial.out.items ++ encode_lower l.bytes

abbrev pub decreases-rows : goal.decreases-rows
decreases-rows l = length l.rest

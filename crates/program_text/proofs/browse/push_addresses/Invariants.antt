use Rattle.std.proofs.Common.{◌≡◌, ◌++◌, length, map}
use Rattle.program_text.specs.Browse.{address_line}
use Rattle.program_text.specs.Lines.{text_of}
use Rattle.program_text.proofs.browse.push_addresses.Given as goal

abbrev pub invariant-loop-rest : goal.invariant-loop-rest
invariant-loop-rest l = l.out.items ++ text_of (map address_line l.rest) ≡ l.initial.out.items ++ text_of (map address_line l.addresses)

abbrev pub decreases-loop-rest : goal.decreases-loop-rest
decreases-loop-rest l = length l.rest

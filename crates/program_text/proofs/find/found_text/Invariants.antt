use Rattle.std.proofs.Common.{◌≡◌, ◌++◌, length, map}
use Rattle.program_text.specs.Lines.{text_of}
use Rattle.program_text.specs.Report.{word_digits}
use Rattle.program_text.proofs.find.found_text.Given as goal

abbrev pub invariant-loop-rest : goal.invariant-loop-rest
invariant-loop-rest l = l.out.items ++ text_of (map word_digits l.rest) ≡ text_of (map word_digits l.elements)

abbrev pub decreases-loop-rest : goal.decreases-loop-rest
decreases-loop-rest l = length l.rest

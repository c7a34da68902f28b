use Rattle.std.proofs.Common.{◌≡◌, ◌++◌, length, codes}
use Rattle.std.specs.List.{flat_map}
use Rattle.program_text.specs.Report.{word_digits}
use Rattle.program_text.proofs.report.push_words.Given as goal

abbrev pub invariant-loop-rest : goal.invariant-loop-rest
invariant-loop-rest l =
    l.out.items ++ flat_map (λ word. codes " " ++ word_digits word) l.rest ≡ l.initial.out.items ++ flat_map (λ word. codes " " ++ word_digits word) l.words

abbrev pub decreases-loop-rest : goal.decreases-loop-rest
decreases-loop-rest l = length l.rest

use Rattle.std.proofs.Common.{◌≡◌, ◌++◌, length, codes, decimal}
use Rattle.std.specs.List.{flat_map}
use Rattle.program_text.proofs.report.push_fields.Given as goal

abbrev pub invariant-loop-rest : goal.invariant-loop-rest
invariant-loop-rest l =
    l.out.items ++ flat_map (λ n. codes " " ++ decimal n) l.rest ≡ l.initial.out.items ++ flat_map (λ n. codes " " ++ decimal n) l.numbers

abbrev pub decreases-loop-rest : goal.decreases-loop-rest
decreases-loop-rest l = length l.rest

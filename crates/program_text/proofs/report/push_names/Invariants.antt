use Rattle.std.proofs.Common.{◌≡◌, ◌++◌, length, map}
use Rattle.program_text.specs.Lines.{text_of}
use Rattle.program_text.specs.Report.{name_line}
use Rattle.program_text.proofs.report.push_names.Given as goal

abbrev pub invariant-loop-rest : goal.invariant-loop-rest
invariant-loop-rest l = l.out.items ++ text_of (map name_line l.rest) ≡ l.initial.out.items ++ text_of (map name_line l.names)

abbrev pub decreases-loop-rest : goal.decreases-loop-rest
decreases-loop-rest l = length l.rest

use Rattle.std.proofs.Common.{◌≡◌, ◌++◌, drop}
use Rattle.program_text.specs.Lines.{text_of}
use Rattle.program_text.specs.Report.{unit_lines}
use Rattle.program_text.proofs.report.push_units.Given as goal

abbrev pub invariant-loop-number : goal.invariant-loop-number
invariant-loop-number l = l.out.items ++ text_of (unit_lines l.number (drop l.number l.units)) ≡ l.initial.out.items ++ text_of (unit_lines 0 l.units)

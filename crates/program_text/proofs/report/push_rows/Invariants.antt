use Rattle.std.proofs.Common.{◌≡◌, ◌++◌, length}
use Rattle.program_text.specs.Lines.{text_of}
use Rattle.program_text.specs.Report.{byte_lines}
use Rattle.program_text.proofs.report.push_rows.Given as goal

abbrev pub invariant-rows : goal.invariant-rows
invariant-rows l = l.out.items ++ text_of (byte_lines l.rest) ≡ l.initial.out.items ++ text_of (byte_lines l.bytes)

abbrev pub decreases-rows : goal.decreases-rows
decreases-rows l = length l.rest

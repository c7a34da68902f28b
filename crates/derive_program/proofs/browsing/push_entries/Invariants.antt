use Rattle.std.proofs.Common.{◌≡◌, ◌++◌, length, map}
use Rattle.index_browser.specs.NameList.{all_listed}
use Rattle.program_text.specs.Lines.{text_of}
use Rattle.program_text.specs.Report.{named_line}
use Rattle.derive_program.proofs.browsing.push_entries.Given as goal

abbrev pub invariant-loop-rest : goal.invariant-loop-rest
invariant-loop-rest l =
    l.out.items ++ text_of (map named_line (all_listed l.rest)) ≡ l.initial.out.items ++ text_of (map named_line (all_listed l.entries))

abbrev pub decreases-loop-rest : goal.decreases-loop-rest
decreases-loop-rest l = length l.rest

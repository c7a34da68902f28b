use Rattle.std.proofs.Common.{rules}
use Rattle.program_text.proofs.ReportLemmas.{fewer, row_pushed}
use Rattle.program_text.proofs.report.push_rows.Goals as goal

pub rows-preserved : goal.rows-preserved
rows-preserved c =
    row_pushed _ _ _ _ _ _ _ (search rules) c.split_row.ensures.row c.split_row.ensures.after c.in_ok-push_row.ensures.ok (search rules) c.rows.invariant

pub rows-smaller : goal.rows-smaller
rows-smaller c = fewer _ _ (search rules) c.split_row.ensures.after

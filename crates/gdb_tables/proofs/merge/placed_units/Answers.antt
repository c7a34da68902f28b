use Rattle.std.proofs.Common.{ℕ, ◌+◌, ◌++◌, drop, ap, ◌∙◌, arith}
use Rattle.gdb_index_format.specs.Published.{end_to_end}
use Rattle.gdb_index_format.specs.Units.{total_length}
use Rattle.gdb_scan.specs.Scan.{units_in_scan}
use Rattle.gdb_tables.specs.Scans.{units_in_scans}
use Rattle.gdb_tables.proofs.Merging.{units_step}
use Rattle.gdb_tables.proofs.merge.placed_units.Goals as goal

pub loop-scan-preserved : goal.loop-scan-preserved
loop-scan-preserved c =
    let s = c.scan-item.result in
    let done = c.loop-scan.units.items in
    let end = c.loop-scan.end in
    let rest = units_in_scans (drop (c.loop-scan.scan-index + 1) c.args.scans.now) in
    let units = c.in_ok-end.ensures.units ∙ ap (λ us. done ++ end_to_end end us) c.units_of.ensures.units in
    let ends = c.in_ok-end.ensures.end ∙ ap (λ us. end + total_length us) c.units_of.ensures.units in
    record {
      left =
          ap (λ us. us ++ end_to_end c.in_ok-end.end rest) units
          ∙ ap (λ (n : ℕ). (done ++ end_to_end end (units_in_scan s)) ++ end_to_end n rest) ends
          ∙ units_step done _ end c.args.scans.now c.loop-scan.scan-index s c.loop-scan-test.true c.scan-item.is c.loop-scan.invariant.left;
      small = omega (arith, c.in_ok-end.ensures.end, c.units_of.ensures.small, c.loop-scan.invariant.small);
    }

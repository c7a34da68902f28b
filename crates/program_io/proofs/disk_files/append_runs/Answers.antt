use Rattle.std.proofs.Common.{arith, rules}
use Rattle.program_io.proofs.Runs.{fewer, run_appended, still_kept, parts_add_up}
use Rattle.program_io.proofs.disk_files.append_runs.Goals as goal

pub runs-preserved : goal.runs-preserved
runs-preserved c = record {
  joined = run_appended 4096 _ _ _ _ _ _ c.split_run.ensures.run c.split_run.ensures.after c.in_ok-extend_from_slice.ensures.items c.runs.invariant.joined;
  kept = still_kept _ _ _ _ _ (search rules) c.in_ok-extend_from_slice.ensures.items c.runs.invariant.kept;
  longer = search rules;
  whole = omega (arith, parts_add_up 4096 _ _ _ c.split_run.ensures.run c.split_run.ensures.after, c.in_ok-extend_from_slice.ensures.len, c.runs.invariant.whole);
}

pub runs-smaller : goal.runs-smaller
runs-smaller c = fewer 4096 _ _ (search rules) (search rules) c.split_run.ensures.after

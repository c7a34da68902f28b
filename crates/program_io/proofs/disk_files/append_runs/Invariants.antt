use Rattle.std.proofs.Common.{◌≡◌, ◌≤◌, ◌+◌, ◌++◌, take, length, vec_len}
use Rattle.program_io.proofs.disk_files.append_runs.Given as goal

abbrev pub invariant-runs : goal.invariant-runs
invariant-runs l = record {
  joined : l.out.items ++ l.rest ≡ l.initial.out.items ++ l.bytes;
  kept : take (vec_len l.initial.out) l.out.items ≡ l.initial.out.items;
  longer : vec_len l.initial.out ≤ vec_len l.out;
  whole : vec_len l.out + length l.rest ≡ vec_len l.initial.out + length l.bytes;
}

abbrev pub decreases-runs : goal.decreases-runs
decreases-runs l = length l.rest

use Rattle.std.proofs.Common.{◌≡◌, ◌+◌, ◌-◌}
use Rattle.gdb_index_format.specs.Probe.{step_at, probe_from}
use Rattle.gdb_index.proofs.reader.lookup.Given as goal

abbrev pub invariant-loop-step : goal.invariant-loop-step
invariant-loop-step g l = record {
  rest : probe_from (step_at l.index l.name) (l.parts.slots - l.step) l.step ≡ probe_from (step_at l.index l.name) l.parts.slots 0;
  counted : l.steps ≡ l.initial.steps + l.step;
}

use Rattle.std.proofs.Common.{◌≡◌, ◌∙◌, arith, sym}
use Rattle.gdb_index_format.specs.Probe.{Passes, step_at}
use Rattle.gdb_index.proofs.Reading.{probe_passes, step_is}
use Rattle.gdb_index.proofs.reader.lookup.Goals as goal

pub loop-step-preserved : goal.loop-step-preserved
loop-step-preserved g c =
    let passes : step_at c.args.index.now c.args.name.now c.loop-step.step ≡ Passes =
    step_is c.args.index.now c.args.name.now c.in_ok-parts.parts.slots c.gdb_hash-hash.result c.loop-step.step c.slot_at.result Passes (c.in_default.ensures {u = tt}) c.slot_at.ensures.is c.gdb_hash-hash.ensures c.in_ok-parts.ensures.slots in
    record {
      rest = sym (probe_passes (step_at c.args.index.now c.args.name.now) c.in_ok-parts.parts.slots c.loop-step.step (omega arith) passes) ∙ c.loop-step.invariant.rest;
      counted = omega (arith, c.loop-step.invariant.counted);
    }

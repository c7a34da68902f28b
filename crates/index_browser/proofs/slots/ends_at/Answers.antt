use Rattle.std.proofs.Common.{ℕ, true, false, eqb, sym, ap, ◌∙◌, arith}
use Rattle.std.proofs.lemmas.Bool.{eq-eqb, ne_eqb}
use Rattle.gdb_index_format.specs.Slots.{slot_of}
use Rattle.gdb_index_format.specs.Probe.{slot_count, step_in}
use Rattle.index_browser.specs.steps.Taken.{does_pass}
use Rattle.index_browser.proofs.ProbeSlots.{reaches_more, ends_here, ends_last, at_step, does_at_step}
use Rattle.index_browser.proofs.slots.ends_at.Goals as goal

pub returns-then-at-slot : goal.returns-then-at-slot
returns-then-at-slot c =
    let b = c.args.index.now in
    let name = c.args.name.now in
    let s = c.slot_at-at.result in
    let at = at_step b name c.args.parts.now.slots c.gdb_hash-hash.result c.loop-step.step s c.requires.parts.slots c.gdb_hash-hash.ensures c.slot_at-at.ensures.is in
    let ends = does_at_step false b name c.loop-step.step s (sym c.requires.here ∙ ap (λ (k : ℕ). does_pass (step_in b name k)) (sym c.if-at-slot.true)) at in
    sym (eq-eqb _ _ (sym (ends_here b name c.loop-step.step s c.requires.format (omega (arith, c.requires.parts.slots, c.loop-step-test.true)) at ends c.loop-step.invariant) ∙ c.if-at-slot.true))

pub returns-then-not-passes : goal.returns-then-not-passes
returns-then-not-passes c =
    let b = c.args.index.now in
    let name = c.args.name.now in
    let s = c.slot_at-at.result in
    let at = at_step b name c.args.parts.now.slots c.gdb_hash-hash.result c.loop-step.step s c.requires.parts.slots c.gdb_hash-hash.ensures c.slot_at-at.ensures.is in
    let here = ends_here b name c.loop-step.step s c.requires.format (omega (arith, c.requires.parts.slots, c.loop-step-test.true)) at (does_at_step false b name c.loop-step.step s (c.if-not-passes.ensures {u = tt}) at) c.loop-step.invariant in
    sym (ne_eqb _ _ (λ e. c.if-at-slot.false (here ∙ e)))

pub loop-step-preserved : goal.loop-step-preserved
loop-step-preserved c =
    let b = c.args.index.now in
    let name = c.args.name.now in
    let s = c.slot_at-at.result in
    let at = at_step b name c.args.parts.now.slots c.gdb_hash-hash.result c.loop-step.step s c.requires.parts.slots c.gdb_hash-hash.ensures c.slot_at-at.ensures.is in
    reaches_more b name (slot_count b) c.loop-step.step (omega (arith, c.requires.parts.slots, c.loop-step-test.true)) (does_at_step true b name c.loop-step.step s (c.if-not-passes.ensures {u = tt}) at) c.loop-step.invariant

pub returns : goal.returns
returns c =
    let b = c.args.index.now in
    let name = c.args.name.now in
    let last = ends_last b name c.loop-step.step c.slot_at.result c.requires.format (omega (arith, c.requires.parts.slots, c.requires.within, c.loop-step-test.false, c.loop-step.auto.step-end))
    (at_step b name c.args.parts.now.slots c.gdb_hash-hash.result c.loop-step.step c.slot_at.result c.requires.parts.slots c.gdb_hash-hash.ensures (c.slot_at.ensures.is ∙ ap (slot_of c.args.parts.now.slots c.gdb_hash-hash.result) (omega (arith, c.loop-step-test.false, c.loop-step.auto.step-end)))) c.loop-step.invariant in
    ap (λ (k : ℕ). eqb k c.args.slot) last

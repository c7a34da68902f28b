use Rattle.std.proofs.Common.{ℕ, List, [], ◌∷◌, length, Vec, Global, ap, ◌∙◌, arith}
use Rattle.std.proofs.lemmas.List.{length-append, map-append}
use Rattle.gdb_index.specs.declared.name_order.ByName.{ByName}
use Rattle.gdb_index_format.specs.Probe.{slot_count}
use Rattle.index_browser.specs.steps.Listing.{slot_named, all_slots_named, listed_from_slot}
use Rattle.index_browser.proofs.Collecting.{collect_none, collect_some}
use Rattle.index_browser.proofs.names.names_by_slot.Goals as goal
use Rattle.index_browser.proofs.names.names_by_slot.Goals.{in-Some+in_ok-push, in_default}

abbrev Names : Type 0
Names = Vec (ByName (List ℕ)) Global

pub loop-slot-preserved : goal.loop-slot-preserved
loop-slot-preserved c =
    let h = listed_from_slot c.args.index.now c.args.prefix.now in
    let n = slot_count c.args.index.now in
    let done = all_slots_named c.loop-slot.names.items in
    record {
      collects =
          elim c.match-named_at.branch [
            | in-Some+in_ok-push w ↦ collect_some h n done _ (slot_named w.in-Some.named) c.loop-slot.slot (omega (arith, c.requires.parts.slots, c.loop-slot-test.true)) (ap (λ (v : Names). all_slots_named v.items) w.names-is ∙ ap all_slots_named w.in_ok-push.ensures.items ∙ map-append slot_named c.loop-slot.names.items (w.in-Some.named ∷ [])) (w.in-Some.ensures {u = tt}) c.loop-slot.invariant.collects
            | in_default w ↦ collect_none h n done _ c.loop-slot.slot (omega (arith, c.requires.parts.slots, c.loop-slot-test.true)) (ap (λ (v : Names). all_slots_named v.items) w.names-is) (w.in_default.ensures {u = tt}) c.loop-slot.invariant.collects
          ];
      few =
          elim c.match-named_at.branch [
            | in-Some+in_ok-push w ↦ omega (arith, c.loop-slot.invariant.few, ap (λ (v : Names). length v.items) w.names-is, ap length w.in_ok-push.ensures.items, length-append c.loop-slot.names.items (w.in-Some.named ∷ []))
            | in_default w ↦ omega (arith, c.loop-slot.invariant.few, ap (λ (v : Names). length v.items) w.names-is)
          ];
    }

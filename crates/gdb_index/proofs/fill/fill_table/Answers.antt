use Rattle.std.proofs.Common.{◌≡◌, ℕ, List, ◌<◌, ◌∙◌, refl, sym, length, get_or, ap, subst, arith, rules}
use Rattle.std.proofs.lemmas.List.{length-map, get_or-map}
use Rattle.gdb_index_format.specs.Hash.{name_hash}
use Rattle.gdb_index_format.specs.Named.{Named, named, all_named}
use Rattle.gdb_index_format.specs.Slots.{slot_of}
use Rattle.gdb_index.specs.Table.{Slot}
use Rattle.gdb_index.specs.steps.FreeSlots.{Inserts, with_slot}
use Rattle.gdb_index.specs.steps.Passed.{steps_passed}
use Rattle.gdb_index.specs.Filled.{slot_for}
use Rattle.gdb_index.proofs.Filling.{FillsTo, fills_none, has_room, fills_more, passed_more, name_offset-pos, filled_table, item_of, item_is}
use Rattle.gdb_index.proofs.SlotLists.{SlotFits}
use Rattle.gdb_index.proofs.Passing.{none_passed}
use Rattle.gdb_index.proofs.fill.fill_table.Goals as goal

slot_with : ℕ → ℕ → Slot
slot_with a b = record { name = a; vector = b }

slots_same : (a b x y : ℕ) → a ≡ x → b ≡ y → slot_with a b ≡ slot_with x y
slots_same a b x y first second = ap (λ n. slot_with n b) first ∙ ap (slot_with x) second

pub loop-index-init : goal.loop-index-init
loop-index-init c = record {
  fills = subst (λ t. FillsTo t c.args.slots (all_named c.args.names.now) 0) (sym c.requires.empty) (fills_none c.args.slots (all_named c.args.names.now));
  vector_is = refl;
  name_is = omega (arith, c.requires.vectors);
  passed = λ hash step below free. absurd (omega (arith, below, none_passed (length c.args.passed.now) (slot_of c.args.slots hash 0), ap (λ (noted : List ℕ). steps_passed noted (slot_of c.args.slots hash 0)) (c.fill.ensures.after (search rules))));
}

pub insert_name-step-requires-clause-passed : goal.insert_name-step-requires-clause-passed
insert_name-step-requires-clause-passed c = λ step below free.
    c.loop-index.invariant.passed (get_or c.args.hashes.now c.loop-index.index 0) step (omega (arith, below, c.steps_passed-known.ensures, ap (steps_passed c.loop-index.passed) c.slot_at-start.ensures.is)) free

pub insert_name-step-requires-clause-room : goal.insert_name-step-requires-clause-room
insert_name-step-requires-clause-room c =
    has_room c.loop-index.table c.args.slots (all_named c.args.names.now) c.loop-index.index c.loop-index.invariant.fills (omega (arith, c.loop-index-test.true, c.requires.room)) c.requires.power

pub vector_len-vector-requires : goal.vector_len-vector-requires
vector_len-vector-requires c =
    let fits = item_of c.args.names.now c.loop-index.index c.index-names-index.result c.loop-index-test.true c.index-names-index.is c.requires.fits in
    omega (arith, fits.vector_fits)

pub overflow_add-vector : goal.overflow_add-vector
overflow_add-vector c =
    let fits = item_of c.args.names.now c.loop-index.index c.index-names-index.result c.loop-index-test.true c.index-names-index.is c.requires.fits in
    omega (arith, fits.vector_fits, c.loop-index.invariant.vector_is, c.vector_len-vector.ensures)

pub name_len-name-requires : goal.name_len-name-requires
name_len-name-requires c =
    let fits = item_of c.args.names.now c.loop-index.index c.index-names-index.result c.loop-index-test.true c.index-names-index.is c.requires.fits in
    omega (arith, fits.name_fits)

pub overflow_add-name : goal.overflow_add-name
overflow_add-name c =
    let fits = item_of c.args.names.now c.loop-index.index c.index-names-index.result c.loop-index-test.true c.index-names-index.is c.requires.fits in
    omega (arith, fits.name_fits, c.loop-index.invariant.name_is, c.name_len-name.ensures)

pub loop-index-preserved : goal.loop-index-preserved
unfolding slot_with
loop-index-preserved c =
    let ns = all_named c.args.names.now in
    let i = c.loop-index.index in
    let d : Named = named c.index-names-index.result in
    let slots = c.args.slots in
    let old = c.loop-index.table in
    let new = c.insert_name-step.new.table in
    let step = c.insert_name-step.result in
    let fits = item_of c.args.names.now i c.index-names-index.result c.loop-index-test.true c.index-names-index.is c.requires.fits in
    let is : d ≡ get_or ns i d = item_is c.args.names.now i c.index-names-index.result c.loop-index-test.true c.index-names-index.is in
    let less : i < length ns = omega (arith, c.loop-index-test.true, length-map c.args.names.now named) in
    let hash = get_or c.args.hashes.now i 0 in
    let hashes : hash ≡ name_hash (get_or ns i d).name = ap (λ (hs : List ℕ). get_or hs i 0) c.requires.hashed ∙ get_or-map (λ (x : Named). name_hash x.name) ns i d 0 less in
    let slot_is : record { name = c.loop-index.name; vector = c.loop-index.vector } ≡ slot_for ns i = slots_same _ _ _ _ c.loop-index.invariant.name_is c.loop-index.invariant.vector_is in
    let puts : new ≡ with_slot old (slot_of slots hash step) (slot_for ns i) = c.insert_name-step.ensures.puts ∙ ap (with_slot old (slot_of slots hash step)) slot_is in
    let inserted : Inserts old new slots hash (slot_for ns i) = record { step = step; first = c.insert_name-step.ensures.first; puts = puts } in
    let room : SlotFits (slot_for ns i) = (omega (arith, fits.name_fits), omega (arith, fits.vector_fits)) in
    record {
      fills = fills_more old new slots ns i d c.loop-index.invariant.fills less c.requires.power room (subst (λ h. Inserts old new slots h (slot_for ns i)) hashes inserted);
      vector_is = omega (arith, fits.vector_more, c.loop-index.invariant.vector_is, c.vector_len-vector.ensures);
      name_is = omega (arith, fits.name_more, c.loop-index.invariant.name_is, c.name_len-name.ensures);
      passed = passed_more old new c.loop-index.passed c.pass_steps.new.passed slots ns i c.loop-index.invariant.fills hash c.slot_at-start.result step (slot_for ns i) c.requires.power c.requires.small room
          (name_offset-pos ns i d less) c.insert_name-step.ensures.first puts c.slot_at-start.ensures.is c.pass_steps.ensures.at_most c.pass_steps.ensures.others c.loop-index.invariant.passed;
    }

pub returns : goal.returns
returns c = filled_table c.loop-index.table c.args.slots (all_named c.args.names.now) c.loop-index.index (omega (arith, length-map c.args.names.now named)) c.loop-index.invariant.fills

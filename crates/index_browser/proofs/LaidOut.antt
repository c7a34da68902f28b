-- An index that is laid out passes its tests.
use Rattle.std.proofs.Common.{◌≡◌, ℕ, ◌+◌, ◌-◌, ◌*◌, ◌/◌, ◌%◌, ◌^◌, ◌<◌, ◌≤◌, Bool, true, false, cond, List, [], length, get_or, Option, Some, None, Ok, refl, sym, ap, subst, ◌∙◌, arith, inl, inr}
use Rattle.std.specs.Prelude.{option_map}
use Rattle.std.specs.Str.{bytes_eq}
use Rattle.std.specs.List.{All}
use Rattle.std.proofs.lemmas.List.{get_or_default}
use Rattle.std.proofs.lemmas.List.FromFn.{get_or-map-range_with_len}
use Rattle.std.proofs.lemmas.Slice.Eq.{bytes_eq-Decides}
use Rattle.elf_format.specs.Bytes.{u32_at}
use Rattle.gdb_index_format.specs.declared.placement.AddressEntry.{AddressEntry}
use Rattle.gdb_index_format.specs.Named.{Named}
use Rattle.gdb_index_format.specs.Version.{version_number}
use Rattle.gdb_index_format.specs.Probe.{Ends, Passes, pool_at, slot_count, vector_at, step_in, step_named}
use Rattle.gdb_index.specs.Scan.{Scan, IsWellFormedScan, unit_number}
use Rattle.gdb_index.specs.Pool.{vector_offset}
use Rattle.gdb_index.proofs.Filling.{contains_or_lacks}
use Rattle.gdb_index.proofs.Holding.{Answered}
use Rattle.gdb_index.proofs.Indexes.{answered}
use Rattle.gdb_index.proofs.Versions.{number_is_known}
use Rattle.index_browser.specs.declared.slots.Taken.{Taken}
use Rattle.index_browser.specs.Areas.{index_addresses, unit_count}
use Rattle.index_browser.specs.Stored.{StoredSlot, stored_in, stored, last_slot}
use Rattle.index_browser.specs.Checked.{IsElement, IsWellStored, PassesTests}
use Rattle.index_browser.specs.Laws.{LayoutIsChecked}
use Rattle.index_browser.specs.steps.Offsets.{address_from}
use Rattle.index_browser.specs.steps.Taken.{taken_in}
use Rattle.index_browser.proofs.AreaLists.{unit_count_is, addresses_are, address_number, address_count_is}
use Rattle.index_browser.proofs.ProbeSlots.{step_of, step_is_of}
use Rattle.index_browser.proofs.StoredSlots.{stored_of, stored_is}
use Rattle.index_browser.proofs.ProbeAnswers.{answer_of, answer_at_last, last_below, to_range}
use Rattle.index_browser.proofs.Layouts.{Laid, taken_for, laid}

-- ---- elements

-- an element whose CU index, of 28 bits, is below a number of units that 24 bits can count
element_is : (units w : ℕ) → units ≤ 2 ^ 24 → w < 2 ^ 32 → unit_number w < units → IsElement units w
element_is units w few fits below = record { reserved = omega (arith, few, fits, below); unit = omega (arith, few, fits, below) }

-- ---- the units and the address entries

units_counted : (b : List ℕ) (s : Scan) (xs : List AddressEntry) (used : List ℕ) → Laid b s xs used → unit_count b ≡ length s.units
units_counted b s xs used l = unit_count_is b l.format ∙ between (u32_at b 8) (u32_at b 4) (length s.units) l.units where
  between : (o2 o1 n : ℕ) → o2 ≡ o1 + 16 * n → (o2 - o1) / 16 ≡ n
  between o2 o1 n is = omega (arith, is)

entries_counted : (b : List ℕ) (s : Scan) (xs : List AddressEntry) (used : List ℕ) → Laid b s xs used → address_number b ≡ length xs
entries_counted b s xs used l = between (u32_at b 16) (u32_at b 12) (length xs) l.area where
  between : (o4 o3 n : ℕ) → o4 ≡ o3 + 20 * n → (o4 - o3) / 20 ≡ n
  between o4 o3 n is = omega (arith, is)

have_units : (b : List ℕ) (s : Scan) (xs : List AddressEntry) (used : List ℕ) → IsWellFormedScan s → All (λ a. a.unit < length s.units) xs → Laid b s xs used → All (λ a. a.unit < unit_count b) (index_addresses b)
have_units b s xs used good units l = λ k d below.
    let within : k < address_number b = omega (arith, below, address_count_is b l.format) in
    let inside : k < length xs = omega (arith, within, entries_counted b s xs used l) in
    let there : get_or (index_addresses b) k d ≡ address_from b (u32_at b 12 + 20 * k) =
    ap (λ (es : List AddressEntry). get_or es k d) (addresses_are b l.format) ∙ get_or-map-range_with_len (λ j. address_from b (u32_at b 12 + 20 * j)) 0 (address_number b) k k d within (omega arith) in
    let fits : (get_or xs k d).unit < 2 ^ 32 = omega (arith, units k d inside, good.units) in
    let is : (get_or (index_addresses b) k d).unit ≡ (get_or xs k d).unit = ap (λ (a : AddressEntry). a.unit) there ∙ l.entries k d inside fits in
    omega (arith, is, units k d inside, units_counted b s xs used l)

-- ---- a slot

none_is_free : (b name : List ℕ) (t : ℕ) (words : List ℕ) → taken_in b t ≡ None → Ok (Some words) ≡ answer_of (step_in b name t) → ⊥
none_is_free b name t words free is =
    let none : answer_of (step_in b name t) ≡ Ok None = ap answer_of (step_is_of b name t ∙ ap (step_of b name) free) in
    let clash : Ok (Some words) ≡ Ok None = is ∙ none in
    cc

ends_at_name : (b name stored : List ℕ) (at : ℕ) (words : List ℕ) (same : Bool) → bytes_eq stored name ≡ same → Ok (Some words) ≡ answer_of (step_named b name at (Some stored)) → stored ≡ name
ends_at_name b name stored at words true same is = (bytes_eq-Decides stored name).0 same
ends_at_name b name stored at words false same is =
    let clash : Ok (Some words) ≡ Ok None = is ∙ ap (λ x. answer_of (cond x (Ends (vector_at b at)) Passes)) same in
    absurd cc

module _ (b : List ℕ) (s : Scan) (xs : List AddressEntry) (used : List ℕ) (l : Laid b s xs used) (good : IsWellFormedScan s) (answers : Answered b s.names) where
  -- the slot at which the probe for name k ends
  ends_there : (k : ℕ) (d : Named) → k < length s.names → last_slot b (get_or s.names k d).name ≡ get_or used k 0
  ends_there k d below =
      let name = (get_or s.names k d).name in
      let some : 0 < slot_count b = omega (arith, l.below k below) in
      let t = last_slot b name in
      let t_below = last_below b name some in
      let answer : Ok (Some (get_or s.names k d).words) ≡ answer_of (step_in b name t) = sym (answers.found k d below).answer ∙ answer_at_last b name l.format some in
      elim (contains_or_lacks used t) [
        | inr lacks ↦ absurd (none_is_free b name t (get_or s.names k d).words (l.free t t_below lacks) answer)
        | inl has ↦
            let j = has.0 in
            let j_below : j < length s.names = omega (arith, has.1, l.count) in
            let at : get_or used j 0 ≡ t = get_or_default used j 0 t has.1 ∙ has.2 in
            let held : taken_in b t ≡ Some (taken_for b s.names j) = ap (taken_in b) (sym at) ∙ l.holds j j_below in
            let step : step_in b name t ≡ step_named b name (pool_at b + vector_offset s.names j) (Some (get_or s.names j d).name) =
            step_is_of b name t ∙ ap (step_of b name) held ∙ ap (step_named b name (pool_at b + vector_offset s.names j)) (l.names j d j_below) in
            let same : (get_or s.names j d).name ≡ name = ends_at_name b name (get_or s.names j d).name (pool_at b + vector_offset s.names j) (get_or s.names k d).words (bytes_eq (get_or s.names j d).name name) refl (answer ∙ ap answer_of step) in
            sym at ∙ ap (λ i. get_or used i 0) (good.distinct j k d j_below below same)
      ]

  -- what the slot of name k holds
  well_stored : (k : ℕ) → k < length s.names → IsWellStored b (stored_of b (get_or used k 0) (taken_for b s.names k))
  well_stored k below =
      let d : Named = record { name = []; words = [] } in
      let n = good.names k d below in
      record {
        name = (get_or s.names k d).name;
        elements = (get_or s.names k d).words;
        named = l.names k d below;
        vector = l.vectors k d below;
        some = n.named.some;
        well_formed = λ i e inside. subst (λ units. IsElement units (get_or (get_or s.names k d).words i e)) (sym (units_counted b s xs used l)) (element_is (length s.units) (get_or (get_or s.names k d).words i e) good.units (n.fit i e inside) (n.named.units i e inside));
        found_here = ends_there k d below;
      }

  one_of : (e f : StoredSlot) (o : Option StoredSlot) → o ≡ Some e → o ≡ Some f → f ≡ e
  one_of e f o p q = cc

  not_none : (e : StoredSlot) (o : Option StoredSlot) → o ≡ Some e → o ≡ None → ⊥
  not_none e o p q = cc

  slot_is_well : (t : ℕ) (e : StoredSlot) → t < slot_count b → stored_in b t ≡ Some e → IsWellStored b e
  slot_is_well t e below is = elim (contains_or_lacks used t) [
    | inr lacks ↦ absurd (not_none e (stored_in b t) is (sym (stored_is b t) ∙ ap (λ (o : Option Taken). option_map (stored_of b t) o) (l.free t below lacks)))
    | inl has ↦
        let j = has.0 in
        let j_below : j < length s.names = omega (arith, has.1, l.count) in
        let at : get_or used j 0 ≡ t = get_or_default used j 0 t has.1 ∙ has.2 in
        let held : taken_in b t ≡ Some (taken_for b s.names j) = ap (taken_in b) (sym at) ∙ l.holds j j_below in
        let there : stored_in b t ≡ Some (stored_of b t (taken_for b s.names j)) = sym (stored_is b t) ∙ ap (λ (o : Option Taken). option_map (stored_of b t) o) held in
        subst (IsWellStored b) (ap (λ x. stored_of b x (taken_for b s.names j)) at ∙ one_of e (stored_of b t (taken_for b s.names j)) (stored_in b t) is there) (well_stored j j_below)
  ]

  pub passes : All (λ a. a.unit < length s.units) xs → PassesTests b
  passes units = record {
    long = l.format.long;
    format = l.format.format;
    no_types = l.types;
    whole_units = whole_16 (u32_at b 8) (u32_at b 4) (length s.units) l.units;
    whole_addresses = whole_20 (u32_at b 16) (u32_at b 12) (length xs) l.area;
    units_exist = have_units b s xs used good units l;
    slots = to_range (stored_in b) (IsWellStored b) 0 (slot_count b) (λ t e low high is. slot_is_well t e (omega (arith, high)) is);
  } where
    whole_16 : (o2 o1 n : ℕ) → o2 ≡ o1 + 16 * n → (o2 - o1) % 16 ≡ 0
    whole_16 o2 o1 n is = omega (arith, is)

    whole_20 : (o4 o3 n : ℕ) → o4 ≡ o3 + 20 * n → (o4 - o3) % 20 ≡ 0
    whole_20 o4 o3 n is = omega (arith, is)

pub layout_is_checked_lem : LayoutIsChecked
layout_is_checked_lem version s xs b small good units i =
    let v = version_number version in
    let known = number_is_known version in
    inr (passes b s xs i.filled.used_slots (laid v b s xs known small good i) good (answered v b s xs known small good i) units)

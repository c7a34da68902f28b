-- What the probes of an index that can be browsed find is well formed.
use Rattle.std.proofs.Common.{◌≡◌, ◌≢◌, ℕ, Bool, true, false, ◌<◌, cond, eqb, List, [], length, take, drop, get_or, Option, Some, None, Result, Ok, refl, sym, ap, subst, ◌∙◌, arith, inl, inr, ◌-◌, ◌*◌, ◌/◌, ◌≤◌}
use Rattle.std.specs.Prelude.{option_map}
use Rattle.std.specs.Str.{bytes_eq}
use Rattle.std.specs.List.{All, position}
use Rattle.std.proofs.lemmas.Bool.{cases_lt, true≢false, eq-eqb}
use Rattle.std.proofs.lemmas.List.{get_or-take, length-take-le}
use Rattle.std.proofs.lemmas.List.Elements.{All-nil}
use Rattle.std.proofs.lemmas.List.Quantifiers.{position-Some}
use Rattle.std.proofs.lemmas.Slice.Eq.{bytes_eq-Decides}
use Rattle.elf_format.specs.Bytes.{u32_at, string_at}
use Rattle.gdb_index_format.specs.declared.bad_index.BadIndex.{BadIndex}
use Rattle.gdb_index_format.specs.declared.placement.AddressEntry.{AddressEntry}
use Rattle.gdb_index_format.specs.Probe.{Ends, Passes, slot_count, vector_at, step_named, probe}
use Rattle.index_browser.specs.declared.slots.Taken.{Taken}
use Rattle.index_browser.specs.Areas.{index_addresses, unit_count}
use Rattle.index_browser.specs.Stored.{stored_in, last_slot}
use Rattle.index_browser.specs.Checked.{IsElement, IsWellStored, PassesTests, IsFoundName}
use Rattle.index_browser.specs.Laws.{CheckedIsWellFormed}
use Rattle.index_browser.specs.steps.Taken.{taken_in}
use Rattle.index_browser.proofs.AreaLists.{unit_count_is, address_count_is}
use Rattle.index_browser.proofs.Checking.{no_addresses, units_of_none, addresses_of_none}
use Rattle.index_browser.proofs.Headers.{ordered}
use Rattle.index_browser.proofs.NameOrders.{nothing_in}
use Rattle.index_browser.proofs.ProbeSlots.{step_of, step_is_of}
use Rattle.index_browser.proofs.StoredSlots.{stored_of, stored_is}
use Rattle.index_browser.proofs.ProbeAnswers.{answer_of, answer_at_last, last_below, no_slots, has_format, from_range}

-- ---- a name ends before its first zero byte

abbrev is_zero : ℕ → Bool
is_zero c = eqb c 0

not_zero : (c : ℕ) → is_zero c ≡ false → c ≢ 0
not_zero c is zero = true≢false (sym (eq-eqb c 0 zero) ∙ is)

front_clean : (tail name : List ℕ) (o : Option ℕ) → position is_zero tail ≡ o → option_map (λ n. take n tail) o ≡ Some name → All (λ c. c ≢ 0) name
front_clean tail name None at is = absurd cc
front_clean tail name (Some n) at is =
    let p = position-Some is_zero tail n 0 at in
    let named : take n tail ≡ name = cc in
    subst (All (λ c. c ≢ 0)) named
    (λ k d below.
    let inside : k < n = omega (arith, below, length-take-le n tail (omega (arith, p.0))) in
    subst (λ c. c ≢ 0) (sym (get_or-take n tail k d inside)) (not_zero (get_or tail k d) ((position-Some is_zero tail n d at).2 k inside)))

string_clean : (b : List ℕ) (at : ℕ) (name : List ℕ) → string_at b at ≡ Some name → All (λ c. c ≢ 0) name
unfolding string_at
string_clean b at name is = front_clean (drop at b) name (position is_zero (drop at b)) refl is

-- ---- the slot at which a probe ends

found_there : (b name stored elements : List ℕ) (at : ℕ) (same : Bool) → bytes_eq stored name ≡ same → answer_of (cond same (Ends (vector_at b at)) Passes) ≡ Ok (Some elements) → (stored ≡ name) × (vector_at b at ≡ Ok (Some elements))
found_there b name stored elements at true same is = ((bytes_eq-Decides stored name).0 same, is)
found_there b name stored elements at false same is = absurd cc

one_vector : (r : Result (Option (List ℕ)) BadIndex) (xs ys : List ℕ) → r ≡ Ok (Some xs) → r ≡ Ok (Some ys) → xs ≡ ys
one_vector r xs ys p q = cc

found_in_slot : (b name elements : List ℕ) (s : ℕ) (t : Taken) → IsWellStored b (stored_of b s t) → answer_of (step_named b name t.vector (string_at b t.name)) ≡ Ok (Some elements) → IsFoundName b name elements
found_in_slot b name elements s t w is =
    let f = found_there b name w.name elements t.vector (bytes_eq w.name name) refl (sym (ap (λ x. answer_of (step_named b name t.vector x)) w.named) ∙ is) in
    let same : w.elements ≡ elements = one_vector (vector_at b t.vector) w.elements elements w.vector f.1 in
    record {
      no_zero = subst (All (λ c. c ≢ 0)) f.0 (string_clean b t.name w.name w.named);
      some = subst (λ (xs : List ℕ). xs ≢ []) same w.some;
      well_formed = subst (All (IsElement (unit_count b))) same w.well_formed;
    }

found_at : (b name elements : List ℕ) (s : ℕ) (o : Option Taken) → PassesTests b → s < slot_count b → taken_in b s ≡ o → answer_of (step_of b name o) ≡ Ok (Some elements) → IsFoundName b name elements
found_at b name elements s None p below taken is = absurd cc
found_at b name elements s (Some t) p below taken is =
    let there : stored_in b s ≡ Some (stored_of b s t) = sym (stored_is b s) ∙ ap (λ (o : Option Taken). option_map (stored_of b s) o) taken in
    found_in_slot b name elements s t (from_range (stored_in b) (IsWellStored b) 0 (slot_count b) p.slots s (stored_of b s t) (omega arith) (omega (arith, below)) there) is

not_found : (b name elements : List ℕ) → (probe b name).answer ≡ Ok (Some elements) → (probe b name).answer ≡ Ok None → ⊥
not_found b name elements is none = let clash : Ok (Some elements) ≡ Ok None = sym is ∙ none in cc

is_found : (b name elements : List ℕ) → PassesTests b → (probe b name).answer ≡ Ok (Some elements) → IsFoundName b name elements
is_found b name elements p is = elim (cases_lt 0 (slot_count b)) [
  | inl some ↦
      let s = last_slot b name in
      found_at b name elements s (taken_in b s) p (last_below b name some) refl (sym (answer_at_last b name (has_format b p) some ∙ ap answer_of (step_is_of b name s)) ∙ is)
  | inr none ↦ absurd (not_found b name elements is (no_slots b name (has_format b p) (omega (arith, none))))
]

-- ---- the areas stand within the bytes

sixteens : (o1 o2 n len : ℕ) → n ≡ (o2 - o1) / 16 → o2 ≤ len → 16 * n ≤ len
sixteens o1 o2 n len is within = omega (arith, is, within)

twenties : (o3 o4 n len : ℕ) → n ≡ (o4 - o3) / 20 → o4 ≤ len → 20 * n ≤ len
twenties o3 o4 n len is within = omega (arith, is, within)

units_inside : (b : List ℕ) → PassesTests b → 16 * unit_count b ≤ length b
units_inside b p =
    let o = ordered b p.format in
    sixteens (u32_at b 4) (u32_at b 8) (unit_count b) (length b) (unit_count_is b (has_format b p)) (omega (arith, o.second, o.third, o.fourth, o.fifth, o.ends))

addresses_inside : (b : List ℕ) → PassesTests b → 20 * length (index_addresses b) ≤ length b
addresses_inside b p =
    let o = ordered b p.format in
    twenties (u32_at b 12) (u32_at b 16) (length (index_addresses b)) (length b) (address_count_is b (has_format b p)) (omega (arith, o.fourth, o.fifth, o.ends))

pub checked_is_well_formed_lem : CheckedIsWellFormed
checked_is_well_formed_lem b (inl empty) = record {
  units_within = omega (arith, units_of_none b empty);
  addresses_within = omega (arith, addresses_of_none b empty);
  units_exist = subst (All (λ (a : AddressEntry). a.unit < unit_count b)) (sym (no_addresses b empty)) (All-nil (λ (a : AddressEntry). a.unit < unit_count b));
  found = λ name elements is. absurd (not_found b name elements is (nothing_in b name empty));
}
checked_is_well_formed_lem b (inr p) = record {
  units_within = units_inside b p;
  addresses_within = addresses_inside b p;
  units_exist = p.units_exist;
  found = λ name elements is. is_found b name elements p is;
}

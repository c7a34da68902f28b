-- What the probes of an index that passed answer: each stored name is found, and no other.
use Rattle.std.proofs.Common.{◌≡◌, ◌≢◌, ℕ, zero, suc, Bool, true, false, ◌+◌, ◌-◌, ◌<◌, ◌≤◌, cond, List, Option, Some, None, Result, Ok, refl, sym, ap, subst, ◌∙◌, arith, inl, inr}
use Rattle.std.specs.Prelude.{option_map}
use Rattle.std.specs.Str.{bytes_eq}
use Rattle.std.specs.List.{All, AllPairs, Contains, filter_map, cons_option, range_with_len}
use Rattle.std.specs.Option.{option_and_then}
use Rattle.std.proofs.lemmas.Bool.{cases_eq, cases_lt}
use Rattle.std.proofs.lemmas.List.Elements.{All-nil, All-cons, All-head, All-tail}
use Rattle.std.proofs.lemmas.List.Kept.{AllPairs-cons}
use Rattle.std.proofs.lemmas.Slice.Eq.{bytes_eq-Decides}
use Rattle.elf_format.specs.Bytes.{string_at}
use Rattle.gdb_index_format.specs.declared.bad_index.BadIndex.{BadIndex}
use Rattle.gdb_index_format.specs.Hash.{name_hash}
use Rattle.gdb_index_format.specs.Probe.{ProbeStep, Ends, Passes, Probed, after_step, probe_from, slot_count, vector_at, step_in, step_named, step_at, probe}
use Rattle.gdb_index.proofs.Filling.{slot_below}
use Rattle.gdb_index.proofs.Finding.{probe_is}
use Rattle.index_browser.specs.declared.slots.Taken.{Taken}
use Rattle.index_browser.specs.Stored.{stored_in, stored, last_slot}
use Rattle.index_browser.specs.Checked.{IsWellStored, PassesTests}
use Rattle.index_browser.specs.steps.Offsets.{HasFormat}
use Rattle.index_browser.specs.steps.Taken.{taken_in}
use Rattle.index_browser.specs.steps.Listing.{name_in, taken_names, HasVector}
use Rattle.index_browser.proofs.ProbeSlots.{step_of, step_is_of}
use Rattle.index_browser.proofs.StoredSlots.{stored_of, stored_is}

-- ---- the step at which a probe ends

-- the answer of a probe whose last step this is
abbrev pub answer_of : ProbeStep → Result (Option (List ℕ)) BadIndex
answer_of (Ends answer) = answer
answer_of Passes = Ok None

record EndsAt (f : ℕ → ProbeStep) (p : Probed) (low : ℕ) : Type 0 where
  step : ℕ
  steps : p.steps ≡ step + 1
  answer : p.answer ≡ answer_of (f step)

ends_first : (f : ℕ → ProbeStep) (k : ℕ) (rest : Probed) (step : ProbeStep) → step ≡ f k → (step ≡ Passes → EndsAt f rest k) → EndsAt f (after_step step k rest) k
ends_first f k rest (Ends answer) is later = record { step = k; steps = refl; answer = ap answer_of is }
ends_first f k rest Passes is later = let e = later refl in record { step = e.step; steps = e.steps; answer = e.answer }

ends_at : (f : ℕ → ProbeStep) (left k : ℕ) → EndsAt f (probe_from f (suc left) k) k
unfolding probe_from
ends_at f zero k = ends_first f k (record { answer = Ok None; steps = k + 1 }) (f k) refl (λ passes. record { step = k; steps = refl; answer = ap answer_of (sym passes) })
ends_at f (suc left) k =
    ends_first f k (probe_from f (suc left) (k + 1)) (f k) refl (λ passes. let e = ends_at f left (k + 1) in record { step = e.step; steps = e.steps; answer = e.answer })

at_count : (f : ℕ → ProbeStep) (n : ℕ) → 0 < n → EndsAt f (probe_from f n 0) 0
at_count f zero some = absurd (omega arith)
at_count f (suc n) some = ends_at f n 0

pub answer_at_last : (b name : List ℕ) → HasFormat b → 0 < slot_count b → (probe b name).answer ≡ answer_of (step_in b name (last_slot b name))
unfolding last_slot
answer_at_last b name h some =
    let e = at_count (step_at b name) (slot_count b) some in
    let is = probe_is b name h.long h.format in
    let steps : (probe b name).steps - 1 ≡ e.step = omega (arith, ap (λ (p : Probed). p.steps) is, e.steps) in
    ap (λ (p : Probed). p.answer) is ∙ e.answer ∙ ap (λ k. answer_of (step_at b name k)) (sym steps)

pub last_below : (b name : List ℕ) → 0 < slot_count b → last_slot b name < slot_count b
unfolding last_slot
last_below b name some = slot_below (slot_count b) (name_hash name) ((probe b name).steps - 1) some

pub no_slots : (b name : List ℕ) → HasFormat b → slot_count b ≡ 0 → (probe b name).answer ≡ Ok None
unfolding probe_from
no_slots b name h none = ap (λ (p : Probed). p.answer) (probe_is b name h.long h.format) ∙ ap (λ n. (probe_from (step_at b name) n 0).answer) none

-- ---- what is kept of the numbers of a range

module _ {X : Type 0} (h : ℕ → Option X) where
  head_of : (P : X → Type 0) (o : Option X) (xs : List X) (x : X) → o ≡ Some x → All P (cons_option o xs) → P x
  head_of P None xs x is all = absurd cc
  head_of P (Some y) xs x is all = let same : y ≡ x = some_is y x is in subst P same (All-head P y xs all) where
    some_is : (y x : X) → Some y ≡ Some x → y ≡ x
    some_is y x e = cc

  rest_of : (P : X → Type 0) (o : Option X) (xs : List X) → All P (cons_option o xs) → All P xs
  rest_of P None xs all = all
  rest_of P (Some y) xs all = All-tail P y xs all

  pub from_range : (P : X → Type 0) (a n : ℕ) → All P (filter_map h (range_with_len a n)) → (s : ℕ) (x : X) → a ≤ s → s < a + n → h s ≡ Some x → P x
  from_range P a zero all s x low high is = absurd (omega (arith, low, high))
  from_range P a (suc n) all s x low high is = elim (cases_eq s a) [
    | inl same ↦ head_of P (h a) (filter_map h (range_with_len (a + 1) n)) x (ap h (sym same) ∙ is) all
    | inr differ ↦ from_range P (a + 1) n (rest_of P (h a) (filter_map h (range_with_len (a + 1) n)) all) s x (omega (arith, low, differ)) (omega (arith, high)) is
  ]

  join : (P : X → Type 0) (o : Option X) (xs : List X) → ((x : X) → o ≡ Some x → P x) → All P xs → All P (cons_option o xs)
  join P None xs here later = later
  join P (Some y) xs here later = All-cons P y xs (here y refl) later

  pub to_range : (P : X → Type 0) (a n : ℕ) → ((s : ℕ) (x : X) → a ≤ s → s < a + n → h s ≡ Some x → P x) → All P (filter_map h (range_with_len a n))
  to_range P a zero each = All-nil P
  to_range P a (suc n) each = join P (h a) (filter_map h (range_with_len (a + 1) n)) (λ x is. each a x (omega arith) (omega arith) is) (to_range P (a + 1) n (λ s x low high is. each s x (omega (arith, low)) (omega (arith, high)) is))

  holds_head : (o : Option X) (xs : List X) (x : X) → o ≡ Some x → Contains (cons_option o xs) x
  holds_head None xs x is = absurd cc
  holds_head (Some y) xs x is = (0, omega arith, same y x is) where
    same : (y x : X) → Some y ≡ Some x → y ≡ x
    same y x e = cc

  holds_rest : (o : Option X) (xs : List X) (x : X) → Contains xs x → Contains (cons_option o xs) x
  holds_rest None xs x has = has
  holds_rest (Some y) xs x has = (suc has.0, omega (arith, has.1), has.2)

  pub in_range : (a n : ℕ) (s : ℕ) (x : X) → a ≤ s → s < a + n → h s ≡ Some x → Contains (filter_map h (range_with_len a n)) x
  in_range a zero s x low high is = absurd (omega (arith, low, high))
  in_range a (suc n) s x low high is = elim (cases_eq s a) [
    | inl same ↦ holds_head (h a) (filter_map h (range_with_len (a + 1) n)) x (ap h (sym same) ∙ is)
    | inr differ ↦ holds_rest (h a) (filter_map h (range_with_len (a + 1) n)) x (in_range (a + 1) n s x (omega (arith, low, differ)) (omega (arith, high)) is)
  ]

  join_pairs : (R : X → X → Type 0) (o : Option X) (xs : List X) → ((x : X) → o ≡ Some x → All (R x) xs) → AllPairs R xs → AllPairs R (cons_option o xs)
  join_pairs R None xs here later = later
  join_pairs R (Some y) xs here later = AllPairs-cons R y xs (here y refl) later

  pub pairs_in_range : (R : X → X → Type 0) (a n : ℕ) → ((s t : ℕ) (x y : X) → a ≤ s → s < t → t < a + n → h s ≡ Some x → h t ≡ Some y → R x y) → AllPairs R (filter_map h (range_with_len a n))
  pairs_in_range R a zero each = λ i j d l m. absurd (omega (arith, m))
  pairs_in_range R a (suc n) each =
      join_pairs R (h a) (filter_map h (range_with_len (a + 1) n))
      (λ x is. to_range (R x) (a + 1) n (λ t y low high at. each a t x y (omega arith) (omega (arith, low)) (omega (arith, high)) is at))
      (pairs_in_range R (a + 1) n (λ s t x y low less high at too. each s t x y (omega (arith, low)) less (omega (arith, high)) at too))

-- ---- a slot of an index that passed

-- its name, its elements, and that its probe ends there
pub record FoundSlot (b : List ℕ) (s : ℕ) (t : Taken) : Type 0 where
  pub name : List ℕ
  pub elements : List ℕ
  pub named : string_at b t.name ≡ Some name
  pub read : vector_at b t.vector ≡ Ok (Some elements)
  pub here : last_slot b name ≡ s

pub found_slot : (b : List ℕ) (s : ℕ) (t : Taken) → PassesTests b → s < slot_count b → taken_in b s ≡ Some t → FoundSlot b s t
found_slot b s t p below taken =
    let is : stored_in b s ≡ Some (stored_of b s t) = sym (stored_is b s) ∙ ap (λ (o : Option Taken). option_map (stored_of b s) o) taken in
    let w = from_range (stored_in b) (IsWellStored b) 0 (slot_count b) p.slots s (stored_of b s t) (omega arith) (omega (arith, below)) is in
    record { name = w.name; elements = w.elements; named = w.named; read = w.vector; here = w.found_here }

same_name : (b name stored : List ℕ) (at : ℕ) → stored ≡ name → step_named b name at (Some stored) ≡ Ends (vector_at b at)
same_name b name stored at same = ap (λ x. cond x (Ends (vector_at b at)) Passes) ((bytes_eq-Decides stored name).1 same)

pub has_format : (b : List ℕ) → PassesTests b → HasFormat b
has_format b p = record { long = p.long; format = p.format }

-- the name of a slot is found, with its elements
pub slot_answer : (b : List ℕ) (s : ℕ) (t : Taken) (p : PassesTests b) (below : s < slot_count b) (taken : taken_in b s ≡ Some t) → let f = found_slot b s t p below taken in (probe b f.name).answer ≡ Ok (Some f.elements)
slot_answer b s t p below taken =
    let f = found_slot b s t p below taken in
    answer_at_last b f.name (has_format b p) (omega (arith, below))
    ∙ ap (λ x. answer_of (step_in b f.name x)) f.here
    ∙ ap answer_of (step_is_of b f.name s ∙ ap (step_of b f.name) taken ∙ ap (step_named b f.name t.vector) f.named ∙ same_name b f.name f.name t.vector refl)
    ∙ f.read

-- ---- the names of all slots

-- a name is that of a taken slot
record SlotOf (b : List ℕ) (s : ℕ) (name : List ℕ) : Type 0 where
  taken : Taken
  there : taken_in b s ≡ Some taken
  named : string_at b taken.name ≡ Some name

slot_of_name : (b : List ℕ) (s : ℕ) (name : List ℕ) (o : Option Taken) → o ≡ taken_in b s → option_and_then (λ (t : Taken). string_at b t.name) o ≡ Some name → SlotOf b s name
slot_of_name b s name None is named = absurd cc
slot_of_name b s name (Some t) is named = record { taken = t; there = sym is; named = named }

one_name : (x y : List ℕ) (o : Option (List ℕ)) → o ≡ Some x → o ≡ Some y → x ≡ y
one_name x y o p q = cc

-- the slot at which the probe for it ends
home : (b : List ℕ) (s : ℕ) (name : List ℕ) → PassesTests b → s < slot_count b → name_in b s ≡ Some name → (last_slot b name ≡ s) × HasVector b name
home b s name p below is =
    let o = slot_of_name b s name (taken_in b s) refl is in
    let f = found_slot b s o.taken p below o.there in
    let same : f.name ≡ name = one_name f.name name (string_at b o.taken.name) f.named o.named in
    (subst (λ n. last_slot b n ≡ s) same f.here, (f.elements, subst (λ n. (probe b n).answer ≡ Ok (Some f.elements)) same (slot_answer b s o.taken p below o.there)))

pub names_have_vectors : (b : List ℕ) → PassesTests b → All (HasVector b) (taken_names b)
names_have_vectors b p = to_range (name_in b) (HasVector b) 0 (slot_count b) (λ s name low high is. (home b s name p (omega (arith, high)) is).1)

pub names_differ : (b : List ℕ) → PassesTests b → AllPairs (λ x y. x ≢ y) (taken_names b)
names_differ b p =
    pairs_in_range (name_in b) (λ x y. x ≢ y) 0 (slot_count b)
    (λ s t x y low less high is at same. omega (arith, less, sym (home b s x p (omega (arith, less, high)) is).0 ∙ ap (last_slot b) same ∙ (home b t y p (omega (arith, high)) at).0))

-- a name that no slot has
passes_by : (b name stored : List ℕ) (at : ℕ) (t : Bool) → bytes_eq stored name ≡ t → (stored ≡ name → ⊥) → answer_of (step_named b name at (Some stored)) ≡ Ok None
passes_by b name stored at true is other = absurd (other ((bytes_eq-Decides stored name).0 is))
passes_by b name stored at false is other = ap (λ x. answer_of (cond x (Ends (vector_at b at)) Passes)) is

absent_in : (b name : List ℕ) (s : ℕ) (o : Option Taken) → PassesTests b → s < slot_count b → o ≡ taken_in b s → (Contains (taken_names b) name → ⊥) → answer_of (step_of b name o) ≡ Ok None
absent_in b name s None p below is lacks = refl
absent_in b name s (Some t) p below is lacks =
    let f = found_slot b s t p below (sym is) in
    let listed : name_in b s ≡ Some f.name = ap (λ (o : Option Taken). option_and_then (λ (t : Taken). string_at b t.name) o) (sym is) ∙ f.named in
    ap (λ x. answer_of (step_named b name t.vector x)) f.named
    ∙ passes_by b name f.name t.vector (bytes_eq f.name name) refl (λ same. lacks (subst (Contains (taken_names b)) same (in_range (name_in b) 0 (slot_count b) s f.name (omega arith) (omega (arith, below)) listed)))

pub others_are_absent : (b : List ℕ) → PassesTests b → (name : List ℕ) → (Contains (taken_names b) name → ⊥) → (probe b name).answer ≡ Ok None
others_are_absent b p name lacks = elim (cases_lt 0 (slot_count b)) [
  | inl some ↦
      let s = last_slot b name in
      answer_at_last b name (has_format b p) some ∙ ap answer_of (step_is_of b name s) ∙ absent_in b name s (taken_in b s) p (last_below b name some) refl lacks
  | inr none ↦ no_slots b name (has_format b p) (omega (arith, none))
]

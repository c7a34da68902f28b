-- Entries of a table of sections.
use Rattle.std.proofs.Common.{◌≡◌, ℕ, zero, suc, ◌<◌, ◌≤◌, Bool, true, false, ◌&&◌, ◌==◌, List, [], ◌∷◌, length, replicate, get_or, Option, Some, None, refl, ap, sym, ◌∙◌, arith, inl, inr, lt-ltb}
use Rattle.std.proofs.Math.ListN.{set}
use Rattle.std.proofs.lemmas.Bool.Decides.{eqb_tells}
use Rattle.std.proofs.lemmas.Bool.{ne_eqb}
use Rattle.std.specs.Prelude.{nat_lt, if◌then◌else◌, position}
use Rattle.std.specs.List.{list_all, position_from}
use Rattle.std.specs.Option.{option_or, option_flatten}
use Rattle.elf_format.specs.Class.{Class}
use Rattle.elf_format.specs.Section.{sections}
use Rattle.elf_format.proofs.SearchLemmas.{position_is_from}
use Rattle.elf_view.specs.Relocation.{relocation_entry, relocates_section, has_target, all_have_targets}

pub or_nothing : {X : Type 0} (a : Option X) → option_or a None ≡ a
or_nothing None = refl
or_nothing (Some x) = refl

pub entry_none : (n i : ℕ) → relocation_entry (replicate n None) i ≡ None
entry_none zero i = refl
entry_none (suc n) zero = refl
entry_none (suc n) (suc i) = entry_none n i

entry_set : (xs : List (Option ℕ)) (i : ℕ) (v : Option ℕ) → i < length xs → relocation_entry (set xs i v) i ≡ v
entry_set [] i v h = absurd (omega arith)
entry_set (x ∷ xs) zero v h = refl
entry_set (x ∷ xs) (suc i) v h = entry_set xs i v (omega arith)

entry_kept : (xs : List (Option ℕ)) (i j : ℕ) (v : Option ℕ) → (i ≡ j → ⊥) → relocation_entry (set xs i v) j ≡ relocation_entry xs j
entry_kept [] i j v h = refl
entry_kept (x ∷ xs) zero zero v h = absurd (h refl)
entry_kept (x ∷ xs) zero (suc j) v h = refl
entry_kept (x ∷ xs) (suc i) zero v h = refl
entry_kept (x ∷ xs) (suc i) (suc j) v h = entry_kept xs i j v (λ e. h (ap suc e))

entry_is : (xs : List (Option ℕ)) (i : ℕ) (d : Option ℕ) → i < length xs → relocation_entry xs i ≡ get_or xs i d
entry_is [] i d h = absurd (omega arith)
entry_is (x ∷ xs) zero d h = flat x where
  flat : (x : Option ℕ) → option_flatten (Some x) ≡ x
  flat None = refl
  flat (Some n) = refl
entry_is (x ∷ xs) (suc i) d h = entry_is xs i d (omega arith)

skip : {X : Type 0} (b : Bool) (x y : Option X) → option_or x (if b && false then y else None) ≡ x
skip true x y = or_nothing x
skip false x y = or_nothing x

pub put_first_lem : (xs : List (Option ℕ)) (target index i : ℕ) (d : Option ℕ) → 0 < target → target < length xs
    → relocation_entry (set xs target (option_or (get_or xs target d) (Some index))) i ≡ option_or (relocation_entry xs i) (if nat_lt 0 i && target == i then Some index else None)
put_first_lem xs target index i d above within =
    elim (eqb_tells target i) [
      | inl same ↦
          let here : relocation_entry (set xs target (option_or (get_or xs target d) (Some index))) i ≡ option_or (get_or xs target d) (Some index) =
          ap (relocation_entry (set xs target (option_or (get_or xs target d) (Some index)))) (sym same.1) ∙ entry_set xs target (option_or (get_or xs target d) (Some index)) within in
          let old : relocation_entry xs i ≡ get_or xs target d = ap (relocation_entry xs) (sym same.1) ∙ entry_is xs target d within in
          let positive : nat_lt 0 i ≡ true = lt-ltb 0 i (omega arith) in
          rw (here, old, same.0, positive) refl
      | inr other ↦
          let here : relocation_entry (set xs target (option_or (get_or xs target d) (Some index))) i ≡ relocation_entry xs i = entry_kept xs target i (option_or (get_or xs target d) (Some index)) other.1 in
          rw (here, other.0) (sym (skip (nat_lt 0 i) (relocation_entry xs i) (Some index)))
    ]

pub keep_first : (xs : List (Option ℕ)) (target index i : ℕ) → target ≤ 0 → relocation_entry xs i ≡ option_or (relocation_entry xs i) (if nat_lt 0 i && target == i then Some index else None)
keep_first xs zero index zero h = sym (or_nothing (relocation_entry xs zero))
keep_first xs zero index (suc i) h = rw (ne_eqb 0 (suc i) (λ e. absurd (omega (arith, e)))) (sym (skip (nat_lt 0 (suc i)) (relocation_entry xs (suc i)) (Some index)))
keep_first xs (suc target) index i h = absurd (omega arith)

-- the step of a search for the first
pub first_step : (old new : Option ℕ) (p : Bool) (index : ℕ) (later whole : Option ℕ) → new ≡ option_or old (if p then Some index else None)
    → option_or old (if p then Some index else later) ≡ whole → option_or new later ≡ whole
first_step old new p index later whole e h = rw e (step old p ∙ h) where
  step : (o : Option ℕ) (b : Bool) → option_or (option_or o (if b then Some index else None)) later ≡ option_or o (if b then Some index else later)
  step None true = refl
  step None false = refl
  step (Some n) true = refl
  step (Some n) false = refl

-- before the first section
pub gather_start : (c : Class) (bytes : List ℕ) (table count : ℕ) (first : List (Option ℕ)) (headers : List (List ℕ)) → headers ≡ sections c bytes → count ≡ length headers → first ≡ replicate count None
    → (all_have_targets c bytes table ≡ list_all (has_target c table count) headers)
    × ((target : ℕ) → option_or (relocation_entry first target) (position_from (relocates_section c table target) 0 headers) ≡ position (relocates_section c table target) (sections c bytes))
unfolding all_have_targets
gather_start c bytes table count first headers h n e = (
  rw (n, h) refl,
  λ target. rw (e, entry_none count target, h) (sym (position_is_from (relocates_section c table target) (sections c bytes))),
)

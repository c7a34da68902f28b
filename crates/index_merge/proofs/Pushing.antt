-- Items that are pushed one after another, and the first that passes a test.
use Rattle.std.proofs.Common.{◌≡◌, ℕ, ◌+◌, ◌<◌, ◌≤◌, Bool, true, false, cond, ltb, List, [], ◌∷◌, ◌++◌, length, take, get_or, map, Some, None, refl, sym, ap, subst, ◌∙◌, arith, append_assoc, inl, inr}
use Rattle.std.specs.Prelude.{not, slice_get, position}
use Rattle.std.specs.List.{All, position_or_len}
use Rattle.std.proofs.lemmas.Bool.{cases_eq, cond-true, cond-false, lt-ltb, le-ltb, ltb-true, ltb-false}
use Rattle.std.proofs.lemmas.List.{append-nil, map-append, take_all, take_more}
use Rattle.std.proofs.lemmas.List.Sums.{position_or_len_is, fails_before_first}
use Rattle.std.proofs.Math.Nat.{add-zero}
use Rattle.std.proofs.lemmas.Option.{get_or_from_slice_get, slice_get_within, slice_get-get_or}
use Rattle.gdb_index_format.specs.declared.unit.CuBoundary.{CuBoundary}
use Rattle.gdb_index_format.specs.declared.placement.AddressEntry.{AddressEntry}
use Rattle.index_merge.specs.Joined.{moved_element}
use Rattle.index_merge.specs.Merged.{moved_unit, moved_address, is_too_far}
use Rattle.index_merge.specs.steps.Merging.{IsNear}

module _ {X Y : Type 0} (f : X → Y) (xs : List X) (start : List Y) where
  -- the items of a list up to one, pushed after some
  abbrev pub IsPushed : List Y → ℕ → Type 0
  IsPushed now n = now ≡ start ++ map f (take n xs)

  pub push_begin : IsPushed start 0
  push_begin = sym (append-nil start)

  pub push_more : (now more : List Y) (n : ℕ) (x : X) → slice_get xs n ≡ Some x → more ≡ now ++ f x ∷ [] → IsPushed now n → IsPushed more (n + 1)
  push_more now more n x there grows so_far =
      let below = slice_get_within xs n x there in
      grows ∙ ap (λ ys. ys ++ f x ∷ []) so_far ∙ append_assoc start (map f (take n xs)) (f x ∷ [])
      ∙ ap (λ y. start ++ (map f (take n xs) ++ f y ∷ [])) (sym (get_or_from_slice_get xs n x x there))
      ∙ ap (λ ys. start ++ ys) (sym (ap (map f) (take_more xs n x below) ∙ map-append f (take n xs) (get_or xs n x ∷ [])))

  pub push_over : (now : List Y) (n : ℕ) → length xs ≤ n → IsPushed now n → now ≡ start ++ map f xs
  push_over now n past so_far = so_far ∙ ap (λ (ys : List X). start ++ map f ys) (take_all n xs past)

-- what holds of an item that is read
pub holds_at : {X : Type 0} (P : X → Type 0) (xs : List X) (n : ℕ) (x : X) → All P xs → slice_get xs n ≡ Some x → P x
holds_at P xs n x all there = subst P (get_or_from_slice_get xs n x x there) (all n x (slice_get_within xs n x there))

pub past_end : {X : Type 0} (xs : List X) (n : ℕ) → slice_get xs n ≡ None → length xs ≤ n
past_end [] n is = omega arith
past_end (x ∷ xs) n is = by (ltb n (length (x ∷ xs))) refl where
  by : (t : Bool) → ltb n (length (x ∷ xs)) ≡ t → length (x ∷ xs) ≤ n
  by true e = let below : n < length (x ∷ xs) = ltb-true _ _ e in let clash : Some (get_or (x ∷ xs) n x) ≡ None = sym (slice_get-get_or (x ∷ xs) n x below) ∙ is in absurd cc
  by false e = ltb-false _ _ e

-- ---- the first that passes a test

module _ {X : Type 0} (p : X → Bool) (xs : List X) where
  -- none before this one passes
  abbrev pub NoneBefore : ℕ → Type 0
  NoneBefore n = (k : ℕ) (d : X) → k < n → p (get_or xs k d) ≡ false

  pub none_before : NoneBefore 0
  none_before k d below = absurd (omega arith)

  pub none_more : (n : ℕ) (x : X) → slice_get xs n ≡ Some x → p x ≡ false → NoneBefore n → NoneBefore (n + 1)
  none_more n x there fails before k d below = elim (cases_eq k n) [
    | inl same ↦ ap p (ap (λ (j : ℕ). get_or xs j d) same ∙ get_or_from_slice_get xs n x d there) ∙ fails
    | inr differ ↦ before k d (omega (arith, below, differ))
  ]

  pub first_found : (n : ℕ) (x : X) → slice_get xs n ≡ Some x → p x ≡ true → NoneBefore n → Some n ≡ position p xs
  first_found n x there passes before =
      let below = slice_get_within xs n x there in
      let is : position_or_len p xs ≡ n = position_or_len_is p xs n x (omega (arith, below)) (λ k l. before k x l) (λ l. ap p (get_or_from_slice_get xs n x x there) ∙ passes) in
      ap (λ k. Some k) (sym is)
      ∙ sym (cond-true (ltb (position_or_len p xs) (length xs)) (Some (position_or_len p xs)) None (lt-ltb _ _ (omega (arith, is, below))))

  pub none_found : (n : ℕ) → length xs ≤ n → NoneBefore n → None ≡ position p xs
  none_found n past before = elim xs as (λ (ys : List X). ys ≡ xs → None ≡ position p xs) [ [] ↦ λ e. ap (position p) e | y ∷ ys ↦ λ e. some y ] refl where
    some : X → None ≡ position p xs
    some d =
        let is : position_or_len p xs ≡ length xs = position_or_len_is p xs (length xs) d (omega arith) (λ k l. before k d (omega (arith, past, l))) (λ l. absurd (omega (arith, l))) in
        sym (cond-false (ltb (position_or_len p xs) (length xs)) (Some (position_or_len p xs)) None (le-ltb _ _ (omega (arith, is))))

fails : (t : Bool) (n : ℕ) → cond t (Some n) None ≡ None → t ≡ false
fails true n is = absurd cc
fails false n is = refl

pub none_passes : {X : Type 0} (p : X → Bool) (xs : List X) → position p xs ≡ None → All (λ x. p x ≡ false) xs
none_passes p xs none k d below =
    let past = ltb-false _ _ (fails (ltb (position_or_len p xs) (length xs)) (position_or_len p xs) none) in
    fails_before_first p xs k d (omega (arith, below, past))

-- ---- two lists, one after the other

pub map_same : {X : Type 0} (f : X → X) → ((x : X) → f x ≡ x) → (xs : List X) → map f xs ≡ xs
map_same f same [] = refl
map_same f same (x ∷ xs) = ap (λ y. y ∷ map f xs) (same x) ∙ ap (λ ys. x ∷ ys) (map_same f same xs)

pub both_pushed : {X : Type 0} (f g : X → X) (xs ys none one all : List X) → ((x : X) → f x ≡ x) → none ≡ [] → one ≡ none ++ map f xs → all ≡ one ++ map g ys → all ≡ xs ++ map g ys
both_pushed f g xs ys none one all same empty first second =
    second ∙ ap (λ zs. zs ++ map g ys) (first ∙ ap (λ zs. zs ++ map f xs) empty ∙ map_same f same xs)

pub unit_stays : (u : CuBoundary) → moved_unit 0 u ≡ u
unit_stays u = ap (λ n. record { offset = n; length = u.length }) (add-zero u.offset)

pub address_stays : (a : AddressEntry) → moved_address 0 a ≡ a
address_stays a = ap (λ n. record { low = a.low; high = a.high; unit = n }) (add-zero a.unit)

pub element_stays : (e : ℕ) → moved_element 0 e ≡ e
element_stays e = add-zero e

turned : (t : Bool) → not t ≡ false → t ≡ true
turned true is = refl
turned false is = absurd cc

-- units that are not too far
pub all_near : (offset : ℕ) (us : List CuBoundary) → position (is_too_far offset) us ≡ None → All (IsNear offset) us
all_near offset us none k d below fits = ltb-true _ _ (turned (ltb ((get_or us k d).offset + offset) 18446744073709551616) (none_passes (is_too_far offset) us none k d below))

-- Lists in ascending order of a key.
use Rattle.std.proofs.Common.{◌≡◌, ℕ, zero, suc, ◌+◌, Bool, true, false, List, [], ◌∷◌, ◌++◌, map, refl, sym, ap, ◌∙◌}
use Rattle.std.specs.Prelude.{◌==◌}
use Rattle.std.specs.List.{filter, flat_map, range_with_len}
use Rattle.std.proofs.lemmas.Bool.{cond-true, cond-false}
use Rattle.std.proofs.lemmas.List.{map-append}

-- key by key, those of one key in their order
abbrev pub keyed : {X : Type 0} → (X → ℕ) → ℕ → ℕ → List X → List X
keyed key a n xs = flat_map (λ b. filter (λ x. key x == b) xs) (range_with_len a n)

-- ---- lists that are made item by item

module _ {X Y : Type 0} (f : X → Y) (key : Y → ℕ) where
  pub filter-map : (b : ℕ) (xs : List X) → filter (λ y. key y == b) (map f xs) ≡ map f (filter (λ x. key (f x) == b) xs)
  filter-map b [] = refl
  filter-map b (x ∷ xs) = by (key (f x) == b) refl (filter-map b xs) where
    by : (t : Bool) → (key (f x) == b) ≡ t → filter (λ y. key y == b) (map f xs) ≡ map f (filter (λ x. key (f x) == b) xs) → filter (λ y. key y == b) (map f (x ∷ xs)) ≡ map f (filter (λ x. key (f x) == b) (x ∷ xs))
    by true e rest = cond-true (key (f x) == b) (f x ∷ filter (λ y. key y == b) (map f xs)) (filter (λ y. key y == b) (map f xs)) e ∙ ap (λ l. f x ∷ l) rest ∙ sym (ap (map f) (cond-true (key (f x) == b) (x ∷ filter (λ x. key (f x) == b) xs) (filter (λ x. key (f x) == b) xs) e))
    by false e rest = cond-false (key (f x) == b) (f x ∷ filter (λ y. key y == b) (map f xs)) (filter (λ y. key y == b) (map f xs)) e ∙ rest ∙ sym (ap (map f) (cond-false (key (f x) == b) (x ∷ filter (λ x. key (f x) == b) xs) (filter (λ x. key (f x) == b) xs) e))

  pub keyed-map : (a n : ℕ) (xs : List X) → keyed key a n (map f xs) ≡ map f (keyed (λ x. key (f x)) a n xs)
  keyed-map a zero xs = refl
  keyed-map a (suc n) xs =
      ap (λ l. l ++ keyed key (a + 1) n (map f xs)) (filter-map a xs)
      ∙ ap (λ l. map f (filter (λ x. key (f x) == a) xs) ++ l) (keyed-map (a + 1) n xs)
      ∙ sym (map-append f (filter (λ x. key (f x) == a) xs) (keyed (λ x. key (f x)) (a + 1) n xs))

-- A list that is sorted by its names is sorted in each form.
use Rattle.std.proofs.Common.{◌≡◌, ℕ, ◌+◌, ◌<◌, List, [], ◌∷◌, length, map, get_or, sym, ap, ◌∙◌, arith, IsSortedByKey}
use Rattle.std.specs.Cmp.Lexicographic.{slice_cmp}
use Rattle.std.specs.Ordering.{nat_cmp, is_lt}
use Rattle.std.proofs.lemmas.List.{get_or-map, length-map}
use Rattle.gdb_index_format.specs.Named.{Named}

module _ {X Y : Type 0} (f : X → Named) (g : Y → Named) where
  same_name : (xs : List X) (ys : List Y) → map f xs ≡ map g ys → (k : ℕ) (d : X) (e : Y) → k < length xs → k < length ys → (f (get_or xs k d)).name ≡ (g (get_or ys k e)).name
  same_name xs ys same k d e in_xs in_ys =
      ap (λ (n : Named). n.name) (sym (get_or-map f xs k d (f d) in_xs) ∙ ap (λ (l : List Named). get_or l k (f d)) same ∙ get_or-map g ys k e (f d) in_ys)

  same_length : (xs : List X) (ys : List Y) → map f xs ≡ map g ys → length xs ≡ length ys
  same_length xs ys same = sym (length-map xs f) ∙ ap (λ (l : List Named). length l) same ∙ length-map ys g

  pub sorted_as : (xs : List X) (ys : List Y) → map f xs ≡ map g ys → IsSortedByKey (λ x. (f x).name) (slice_cmp nat_cmp) xs → IsSortedByKey (λ y. (g y).name) (slice_cmp nat_cmp) ys
  sorted_as [] ys same sorted = λ k d low below. absurd (omega (arith, below, same_length [] ys same))
  sorted_as (x ∷ xs) ys same sorted = λ k d low below.
      let long = same_length (x ∷ xs) ys same in
      let here : k + 1 < length (x ∷ xs) = omega (arith, below, long) in
      ap (λ (l : List ℕ). is_lt (slice_cmp nat_cmp l (g (get_or ys k d)).name)) (sym (same_name (x ∷ xs) ys same (k + 1) x d here below))
      ∙ ap (λ (l : List ℕ). is_lt (slice_cmp nat_cmp (f (get_or (x ∷ xs) (k + 1) x)).name l)) (sym (same_name (x ∷ xs) ys same k x d (omega (arith, here)) (omega (arith, below))))
      ∙ sorted k x low here

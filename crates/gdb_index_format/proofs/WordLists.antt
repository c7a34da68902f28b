-- A list of numbers has one ascending order.
use Rattle.std.proofs.Common.{◌≡◌, ℕ, suc, ◌+◌, ◌<◌, ◌≤◌, eqb, cond, List, [], ◌∷◌, length, get_or, refl, sym, ap, ◌∙◌, arith, ◌⊎◌, inl, inr}
use Rattle.std.specs.List.{sum_by}
use Rattle.std.specs.List.Sorted.{IsPermutation, IsNonDecreasing}
use Rattle.std.proofs.lemmas.List.Sorted.{sum_by-IsPermutation}
use Rattle.std.proofs.lemmas.List.Sums.{sum_by-cons}
use Rattle.std.proofs.lemmas.Bool.Decides.{nat_tests}
use Rattle.gdb_index_format.specs.Published.{VectorsAreOne}

one_if : ℕ → ℕ → ℕ
one_if x y = cond (eqb y x) 1 0

one_if_same : (x : ℕ) → one_if x x ≡ 1
unfolding one_if
one_if_same x = grind (arith, nat_tests)

one_if_more : (x y : ℕ) → x < y → one_if x y ≡ 0
unfolding one_if
one_if_more x y l = grind (arith, nat_tests)

counted : ℕ → List ℕ → ℕ
counted x ys = sum_by (one_if x) ys

counted_next : (x y : ℕ) (ys : List ℕ) → counted x (y ∷ ys) ≡ one_if x y + counted x ys
unfolding counted
counted_next x y ys = sum_by-cons (one_if x) y ys

empty : (x : ℕ) → counted x [] ≡ 0
unfolding counted
empty x = refl

none_counted : (x y : ℕ) (ys : List ℕ) → x < y → ((k : ℕ) → k < length ys → y ≤ get_or ys k 0) → counted x ys ≡ 0
unfolding counted
none_counted x y [] l above = refl
none_counted x y (z ∷ zs) l above = sum_by-cons (one_if x) z zs ∙ omega (arith, one_if_more x z (omega (arith, above 0 (omega arith))), none_counted x y zs l (λ k m. above (suc k) (omega arith)))

tail_ascends : (x : ℕ) (xs : List ℕ) → IsNonDecreasing (x ∷ xs) → IsNonDecreasing xs
tail_ascends x xs h i j d l m = h (suc i) (suc j) d (omega arith) (omega arith)

head_below : (x : ℕ) (xs : List ℕ) → IsNonDecreasing (x ∷ xs) → (k : ℕ) → k < length (x ∷ xs) → x ≤ get_or (x ∷ xs) k 0
head_below x xs h k l = h 0 k 0 (omega arith) l

either : (a b : ℕ) → (a ≡ b) ⊎ ((a < b) ⊎ (b < a))
either a b = grind arith

one_order : (vs ws : List ℕ) → IsNonDecreasing vs → IsNonDecreasing ws → ((x : ℕ) → counted x vs ≡ counted x ws) → vs ≡ ws
one_order [] [] p q same = refl
one_order [] (w ∷ ws) p q same = absurd (omega (arith, same w, counted_next w w ws, one_if_same w, empty w))
one_order (v ∷ vs) [] p q same = absurd (omega (arith, same v, counted_next v v vs, one_if_same v, empty v))
one_order (v ∷ vs) (w ∷ ws) p q same = elim (either v w) [
  | inl heads ↦ ap (λ x. x ∷ vs) heads ∙ ap (λ xs. w ∷ xs) (one_order vs ws (tail_ascends v vs p) (tail_ascends w ws q) (λ x. tails x heads (same x)))
  | inr (inl less) ↦ absurd (omega (arith, same v, counted_next v v vs, one_if_same v, none_counted v w (w ∷ ws) less (head_below w ws q)))
  | inr (inr more) ↦ absurd (omega (arith, same w, counted_next w w ws, one_if_same w, none_counted w v (v ∷ vs) more (head_below v vs p)))
] where
  tails : (x : ℕ) → v ≡ w → counted x (v ∷ vs) ≡ counted x (w ∷ ws) → counted x vs ≡ counted x ws
  tails x heads all = omega (arith, counted_next x v vs, counted_next x w ws, ap (one_if x) heads)

counts : (xs ys : List ℕ) → IsPermutation xs ys → (x : ℕ) → counted x ys ≡ counted x xs
unfolding counted
counts xs ys p x = sum_by-IsPermutation (one_if x) xs ys p

pub one_list_of_words : VectorsAreOne
one_list_of_words name ps vs ws p q = one_order vs ws p.ascending q.ascending (λ x. counts _ vs p.same x ∙ sym (counts _ ws q.same x))

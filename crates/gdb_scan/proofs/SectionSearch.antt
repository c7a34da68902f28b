-- Sections that are gone over with their indexes.
use Rattle.std.proofs.Common.{◌≡◌, ℕ, suc, ◌+◌, List, [], ◌∷◌, ◌++◌, Option, Some, None, sym, ap, ◌∙◌, arith, append_assoc}
use Rattle.std.specs.Prelude.{slice_get, MatchOption}
use Rattle.std.specs.List.{enumerate_from}

-- what an iterator over sections gives next
pub next_step : {A : Type 0} (view : A → ℕ × List ℕ) (s t : List (ℕ × List ℕ)) (r : Option A) (x : A) → r ≡ Some x → MatchOption r ((s ≡ []) × (t ≡ [])) (λ y. s ≡ view y ∷ t) → s ≡ view x ∷ t
next_step view s t None x e h = absurd (cc e)
next_step view s t (Some y) x e h = h ∙ ap (λ z. view z ∷ t) (same e) where
  same : Some y ≡ Some x → y ≡ x
  same e = cc e

pub at_end : {A : Type 0} (view : A → ℕ × List ℕ) (s t : List (ℕ × List ℕ)) (r : Option A) → r ≡ None → MatchOption r ((s ≡ []) × (t ≡ [])) (λ y. s ≡ view y ∷ t) → s ≡ []
at_end view s t None e h = h.0
at_end view s t (Some y) e h = absurd (cc e)

-- a section after those that are done stands at its index
Stands : List (List ℕ) → ℕ → ℕ → List ℕ → Type 0
Stands xs from index header = (k : ℕ) × (index ≡ from + k) × (slice_get xs k ≡ Some header)

stands_from : (done : List (ℕ × List ℕ)) (index : ℕ) (header : List ℕ) (rest : List (ℕ × List ℕ)) (xs : List (List ℕ)) (from : ℕ) → done ++ (index, header) ∷ rest ≡ enumerate_from from xs → Stands xs from index header
unfolding Stands
stands_from [] index header rest [] from e = absurd (cc e)
stands_from [] index header rest (x ∷ xs) from e = (0, first_index e ∙ omega arith, ap (λ h. Some h) (sym (first_header e))) where
  first_index : (index, header) ∷ rest ≡ (from, x) ∷ enumerate_from (from + 1) xs → index ≡ from
  first_index e = ap (λ (l : List (ℕ × List ℕ)). elim l as (λ _. ℕ) [ [] ↦ 0 | ◌∷◌ s more ↦ s.0 ]) e

  first_header : (index, header) ∷ rest ≡ (from, x) ∷ enumerate_from (from + 1) xs → header ≡ x
  first_header e = ap (λ (l : List (ℕ × List ℕ)). elim l as (λ _. List ℕ) [ [] ↦ [] | ◌∷◌ s more ↦ s.1 ]) e
stands_from (d ∷ done) index header rest [] from e = absurd (cc e)
stands_from (d ∷ done) index header rest (x ∷ xs) from e =
    let later = stands_from done index header rest xs (from + 1) (tails e) in
    (suc later.0, later.1 ∙ omega arith, later.2) where
      tails : d ∷ (done ++ (index, header) ∷ rest) ≡ (from, x) ∷ enumerate_from (from + 1) xs → done ++ (index, header) ∷ rest ≡ enumerate_from (from + 1) xs
      tails e = ap (λ (l : List (ℕ × List ℕ)). elim l as (λ _. List (ℕ × List ℕ)) [ [] ↦ [] | ◌∷◌ s more ↦ more ]) e

pub stands : (done : List (ℕ × List ℕ)) (index : ℕ) (header : List ℕ) (rest : List (ℕ × List ℕ)) (xs : List (List ℕ)) → done ++ (index, header) ∷ rest ≡ enumerate_from 0 xs → slice_get xs index ≡ Some header
unfolding Stands
stands done index header rest xs e = let at = stands_from done index header rest xs 0 e in ap (slice_get xs) (at.1 ∙ omega arith) ∙ at.2

pub one_more_done : (done : List (ℕ × List ℕ)) (s : ℕ × List ℕ) (rest all : List (ℕ × List ℕ)) → done ++ s ∷ rest ≡ all → (done ++ s ∷ []) ++ rest ≡ all
one_more_done done s rest all e = append_assoc done (s ∷ []) rest ∙ e

-- What is collected, slot by slot.
use Rattle.std.proofs.Common.{◌≡◌, ℕ, ◌+◌, ◌-◌, ◌<◌, ◌≤◌, List, [], ◌∷◌, ◌++◌, Option, Some, None, sym, ap, ◌∙◌, arith, append_assoc}
use Rattle.std.specs.List.{filter_map, cons_option, range_with_len}
use Rattle.std.proofs.lemmas.List.{append-nil}
use Rattle.index_browser.proofs.Walks.{next_number, no_number}

module _ {X : Type 0} (h : ℕ → Option X) (n : ℕ) where
  -- what was collected, and what the numbers from one on give
  abbrev pub CollectsFrom : List X → ℕ → Type 0
  CollectsFrom xs s = xs ++ filter_map h (range_with_len s (n - s)) ≡ filter_map h (range_with_len 0 n)

  next_of : (s : ℕ) → s < n → filter_map h (range_with_len s (n - s)) ≡ cons_option (h s) (filter_map h (range_with_len (s + 1) (n - (s + 1))))
  next_of s below = ap (filter_map h) (next_number s n below)

  pub collect_begin : CollectsFrom [] 0
  collect_begin = ap (λ k. filter_map h (range_with_len 0 k)) (whole n) where
    whole : (k : ℕ) → k - 0 ≡ k
    whole k = omega arith

  pub collect_none : (xs same : List X) (s : ℕ) → s < n → same ≡ xs → None ≡ h s → CollectsFrom xs s → CollectsFrom same (s + 1)
  collect_none xs same s below is none so_far =
      let rest = filter_map h (range_with_len (s + 1) (n - (s + 1))) in
      ap (λ ys. ys ++ rest) is ∙ ap (λ o. xs ++ cons_option o rest) none ∙ ap (λ ys. xs ++ ys) (sym (next_of s below)) ∙ so_far

  pub collect_some : (xs more : List X) (x : X) (s : ℕ) → s < n → more ≡ xs ++ x ∷ [] → Some x ≡ h s → CollectsFrom xs s → CollectsFrom more (s + 1)
  collect_some xs more x s below grows some so_far =
      let rest = filter_map h (range_with_len (s + 1) (n - (s + 1))) in
      ap (λ ys. ys ++ rest) grows ∙ append_assoc xs (x ∷ []) rest ∙ ap (λ o. xs ++ cons_option o rest) some ∙ ap (λ ys. xs ++ ys) (sym (next_of s below)) ∙ so_far

  pub collect_over : (xs : List X) (s : ℕ) → n ≤ s → CollectsFrom xs s → xs ≡ filter_map h (range_with_len 0 n)
  collect_over xs s past so_far =
      sym (append-nil xs) ∙ ap (λ ks. xs ++ filter_map h ks) (sym (no_number s n past)) ∙ so_far

-- Elements that are gathered one by one are all of a list.
use Rattle.std.proofs.Common.{◌≡◌, ℕ, zero, suc, ◌+◌, ◌≤◌, List, [], ◌∷◌, ◌++◌, length, take, Some, None, sym, ap, ◌∙◌, arith, length-append}
use Rattle.std.specs.Prelude.{slice_get}
use Rattle.std.proofs.lemmas.Grind.{take_at_read}
use Rattle.std.proofs.lemmas.List.{take_all}
use Rattle.std.proofs.lemmas.Option.{slice_get_within, get_or_from_slice_get}

module _ {X : Type 0} where
  pub gathered_more : (all items now : List X) (x : X) (n : ℕ) → n ≡ length items → Some x ≡ slice_get all n → now ≡ items ++ x ∷ [] → items ≡ take (length items) all → now ≡ take (length now) all
  gathered_more all items now x n counted is grown so_far =
      let some : slice_get all n ≡ Some x = sym is in
      let next = (take_at_read all n x (slice_get_within all n x some)).1 in
      let more : n + 1 ≡ length now = omega (arith, counted, ap (λ (l : List X). length l) grown, length-append items (x ∷ [])) in
      grown
      ∙ ap (λ (l : List X). l ++ x ∷ []) (so_far ∙ ap (λ m. take m all) (sym counted))
      ∙ ap (λ y. take n all ++ y ∷ []) (sym (get_or_from_slice_get all n x x some))
      ∙ sym next
      ∙ ap (λ m. take m all) more

  none_past : (all : List X) (n : ℕ) → None ≡ slice_get all n → length all ≤ n
  none_past [] n is = omega arith
  none_past (x ∷ all) zero is = absurd cc
  none_past (x ∷ all) (suc n) is = omega (arith, none_past all n is)

  pub gathered_all : (all items : List X) (n : ℕ) → n ≡ length items → None ≡ slice_get all n → items ≡ take (length items) all → items ≡ all
  gathered_all all items n counted none so_far =
      let past : length all ≤ length items = omega (arith, counted, none_past all n none) in
      so_far ∙ take_all (length items) all past

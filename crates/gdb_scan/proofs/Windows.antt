-- What passes a test and stands together.
use Rattle.std.proofs.Common.{◌≡◌, ℕ, zero, suc, ◌-◌, ◌<◌, ◌≤◌, Bool, true, false, ltb, leb, eqb, List, [], ◌∷◌, length, take, drop, get_or, refl, sym, ap, ◌∙◌, subst, arith, inl, inr}
use Rattle.std.specs.List.{filter}
use Rattle.std.specs.List.Sorted.{IsPartitionPoint, IsNonDecreasingBy}
use Rattle.std.proofs.lemmas.Bool.{cond-true, cond-false, cases_lt}
use Rattle.std.proofs.lemmas.Bool.Decides.{nat_tests}
use Rattle.gdb_index_format.specs.declared.placement.Placement.{Placement}
use Rattle.gdb_scan.specs.PlacedIn.{ArePlacements}

module _ {X : Type 0} where
  pub window : (p : X → Bool) (xs : List X) (s e : ℕ) → s ≤ e → e ≤ length xs → ((k : ℕ) (d : X) → k < s → k < length xs → p (get_or xs k d) ≡ false) → ((k : ℕ) (d : X) → s ≤ k → k < e → p (get_or xs k d) ≡ true) → ((k : ℕ) (d : X) → e ≤ k → k < length xs → p (get_or xs k d) ≡ false) → take (e - s) (drop s xs) ≡ filter p xs
  window p [] zero zero le bound low mid high = refl
  window p [] (suc s) e le bound low mid high = absurd (omega arith)
  window p [] zero (suc e) le bound low mid high = absurd (omega arith)
  window p (x ∷ xs) (suc s) zero le bound low mid high = absurd (omega arith)
  window p (x ∷ xs) (suc s) (suc e) le bound low mid high =
      let less : suc e - suc s ≡ e - s = omega arith in
      ap (λ n. take n (drop s xs)) less
      ∙ window p xs s e (omega arith) (omega arith) (λ k d l m. low (suc k) d (omega arith) (omega arith)) (λ k d l m. mid (suc k) d (omega arith) (omega arith)) (λ k d l m. high (suc k) d (omega arith) (omega arith))
      ∙ sym (cond-false (p x) (x ∷ filter p xs) (filter p xs) (low zero x (omega arith) (omega arith)))
  window p (x ∷ xs) zero (suc e) le bound low mid high =
      let whole : suc e - 0 ≡ suc e = omega arith in
      let same : e ≡ e - 0 = omega arith in
      ap (λ n. take n (x ∷ xs)) whole
      ∙ ap (λ n. x ∷ take n xs) same
      ∙ ap (λ l. x ∷ l) (window p xs zero e (omega arith) (omega arith) (λ k d l m. absurd (omega arith)) (λ k d l m. mid (suc k) d (omega arith) (omega arith)) (λ k d l m. high (suc k) d (omega arith) (omega arith)))
      ∙ sym (cond-true (p x) (x ∷ filter p xs) (filter p xs) (mid zero x (omega arith) (omega arith)))
  window p (x ∷ xs) zero zero le bound low mid high =
      window p xs zero zero (omega arith) (omega arith) (λ k d l m. absurd (omega arith)) (λ k d l m. absurd (omega arith)) (λ k d l m. high (suc k) d (omega arith) (omega arith))
      ∙ sym (cond-false (p x) (x ∷ filter p xs) (filter p xs) (high zero x (omega arith) (omega arith)))

-- ---- the placements of an object

pub objects_do_not_fall : (ps : List Placement) → ArePlacements ps → IsNonDecreasingBy (λ p. p.object) ps
objects_do_not_fall ps are i j d le l = elim (cases_lt i j) [
  | inl less ↦ elim (are.ascend i j d less l) [
    | inl lower ↦ omega arith
    | inr same ↦ omega (arith, same.0)
  ]
  | inr ge ↦ let same : i ≡ j = omega arith in subst (λ k. (get_or ps i d).object ≤ (get_or ps k d).object) same (omega arith)
]

-- where the elements of a key begin and end
module _ {X : Type 0} (key : X → ℕ) where
  pub record Bounds (xs : List X) (k start end : ℕ) : Type 0 where
    pub low_bound : start ≤ length xs
    pub high_bound : end ≤ length xs
    pub low : (i : ℕ) (d : X) → i < start → key (get_or xs i d) < k
    pub not_low : (i : ℕ) (d : X) → start ≤ i → i < length xs → k ≤ key (get_or xs i d)
    pub not_high : (i : ℕ) (d : X) → i < end → key (get_or xs i d) ≤ k
    pub high : (i : ℕ) (d : X) → end ≤ i → i < length xs → k < key (get_or xs i d)

  pub bounds : (xs : List X) (k start end : ℕ) → start ≤ length xs → end ≤ length xs → IsPartitionPoint (λ x. ltb (key x) k ≡ true) (λ x. ltb (key x) k ≡ false) xs start → IsPartitionPoint (λ x. leb (key x) k ≡ true) (λ x. leb (key x) k ≡ false) xs end → Bounds xs k start end
  bounds xs k start end low_bound high_bound s e = record {
    low_bound = low_bound;
    high_bound = high_bound;
    low = λ i d l. let t = s.0 i d (omega arith) l in grind (arith, nat_tests);
    not_low = λ i d le l. let t = s.1 i d le l in grind (arith, nat_tests);
    not_high = λ i d l. let t = e.0 i d (omega arith) l in grind (arith, nat_tests);
    high = λ i d le l. let t = e.1 i d le l in grind (arith, nat_tests);
  }

  pub start_le_end : (xs : List X) (k start end : ℕ) → Bounds xs k start end → start ≤ end
  start_le_end [] k start end b = omega (arith, b.low_bound)
  start_le_end (x ∷ xs) k start end b = elim (cases_lt end start) [
    | inl less ↦ absurd (omega (arith, b.low end x less, b.high end x (omega arith) (omega (arith, b.low_bound))))
    | inr ge ↦ ge
  ]

  pub window_of : (xs : List X) (k start end : ℕ) → Bounds xs k start end → take (end - start) (drop start xs) ≡ filter (λ x. eqb (key x) k) xs
  window_of xs k start end b =
      window (λ x. eqb (key x) k) xs start end (start_le_end xs k start end b) b.high_bound
      (λ i d l m. let t = b.low i d l in grind (arith, nat_tests))
      (λ i d l m. let t = b.not_low i d l (omega (arith, b.high_bound)) in let u = b.not_high i d m in grind (arith, nat_tests))
      (λ i d l m. let t = b.high i d l m in grind (arith, nat_tests))

-- Searching units by binary search.
use Rattle.std.proofs.Common.{◌≡◌, ℕ, zero, suc, ◌+◌, ◌-◌, ◌^◌, ◌<◌, ◌≤◌, Bool, true, false, eqb, ltb, leb, List, length, get_or, Option, Some, None, Result, Ok, Err, refl, sym, ap, ◌∙◌, subst, arith, inl, inr}
use Rattle.std.specs.List.{position, position_or_len}
use Rattle.std.specs.List.Sorted.{IsSearchInRange, IsBinarySearchResult, IsPartitionPoint, IsNonDecreasingBy}
use Rattle.std.specs.Ordering.{nat_cmp, ordering_index}
use Rattle.std.specs.Result.{result_ok}
use Rattle.std.specs.Cmp.{nat_cmp_is}
use Rattle.std.specs.declared.cmp.Ordering.{Ordering}
use Rattle.std.specs.declared.cmp.Ordering.TheVariants.{Less, Equal, Greater}
use Rattle.std.proofs.lemmas.Bool.{cases_lt, cond-true, cond-false, lt-ltb, ltb-true, eqb-true, eqb-false, false_from_ne_true}
use Rattle.std.proofs.lemmas.Bool.Decides.{nat_tests}
use Rattle.std.proofs.lemmas.Cmp.{ranked}
use Rattle.std.proofs.lemmas.List.Quantifiers.{position-Some}
use Rattle.std.proofs.lemmas.List.Sums.{fails_before_first, position_or_len_is}
use Rattle.gdb_index_format.specs.declared.unit.CuBoundary.{CuBoundary}
use Rattle.gdb_index_format.specs.Units.{holds_offset, unit_holding}
use Rattle.dwarf_sections.specs.UnitSearch.{Ascend, AreAdjacent, unit_at}

-- ---- the unit that begins at an offset

abbrev Found : Option ℕ → List CuBoundary → ℕ → Type 0
Found o us offset = unit_at us offset ≡ o

fails_all : (us : List CuBoundary) (offset : ℕ) → unit_at us offset ≡ None → (k : ℕ) (d : CuBoundary) → k < length us → (get_or us k d).offset ≡ offset → ⊥
fails_all us offset none k d l same =
    let p : CuBoundary → Bool = λ u. eqb u.offset offset in
    elim (cases_lt (position_or_len p us) (length us)) [
      | inl lt ↦ apart (position_or_len p us) (position p us) (cond-true (ltb (position_or_len p us) (length us)) (Some (position_or_len p us)) None (lt-ltb _ _ lt)) none
      | inr le ↦ eqb-false (get_or us k d).offset offset (fails_before_first p us k d (omega arith)) same
    ] where
      apart : (n : ℕ) (o : Option ℕ) → o ≡ Some n → o ≡ None → ⊥
      apart n o p q = cc

passes : (us : List CuBoundary) (offset j : ℕ) → unit_at us offset ≡ Some j → (d : CuBoundary) → (j < length us) × ((get_or us j d).offset ≡ offset)
passes us offset j some d = let found = position-Some (λ (u : CuBoundary). eqb u.offset offset) us j d some in (found.0, eqb-true (get_or us j d).offset offset found.1)

abbrev pub no_unit : CuBoundary
no_unit = record { offset = 0; length = 0 }

-- units that ascend have one index at most for an offset
one_index : (us : List CuBoundary) (offset i j : ℕ) → Ascend us → i < length us → j < length us → (get_or us i no_unit).offset ≡ offset → (get_or us j no_unit).offset ≡ offset → i ≡ j
one_index us offset i j ascend p q here there =
    elim (cases_lt i j) [
      | inl less ↦ absurd (omega (arith, ascend i j no_unit less q))
      | inr le ↦ elim (cases_lt j i) [
        | inl less ↦ absurd (omega (arith, ascend j i no_unit less p))
        | inr ge ↦ omega arith
      ]
    ]

rises : (x y offset : ℕ) → x ≤ y → ordering_index (nat_cmp x offset) ≤ ordering_index (nat_cmp y offset)
rises x y offset le =
    elim (cases_lt x offset) [
      | inl less ↦ subst (λ o. ordering_index o ≤ ordering_index (nat_cmp y offset)) (nat_cmp_is x offset Less less) (omega arith)
      | inr ge ↦ elim (cases_lt offset y) [
        | inl more ↦ subst (λ o. ordering_index (nat_cmp x offset) ≤ ordering_index o) (nat_cmp_is y offset Greater more) (at_most (nat_cmp x offset))
        | inr same ↦ let equal : x ≡ y = omega arith in subst (λ z. ordering_index (nat_cmp x offset) ≤ ordering_index (nat_cmp z offset)) equal (omega arith)
      ]
    ] where
      at_most : (o : Ordering) → ordering_index o ≤ 2
      at_most Less = omega arith
      at_most Equal = omega arith
      at_most Greater = omega arith

offsets_rise : (us : List CuBoundary) → Ascend us → (i j : ℕ) (d : CuBoundary) → i ≤ j → j < length us → (get_or us i d).offset ≤ (get_or us j d).offset
offsets_rise us ascend i j d le l =
    elim (cases_lt i j) [
      | inl less ↦ omega (arith, ascend i j d less l)
      | inr ge ↦ let same : i ≡ j = omega arith in subst (λ k. (get_or us i d).offset ≤ (get_or us k d).offset) same (omega arith)
    ]

pub unit_searched : (us : List CuBoundary) (offset : ℕ) (r : Result ℕ ℕ) → Ascend us → IsSearchInRange r (length us) → IsBinarySearchResult (λ u. nat_cmp u.offset offset) us r → result_ok r ≡ unit_at us offset
unit_searched us offset (Ok i) ascend bound equal = by (unit_at us offset) refl where
  by : (o : Option ℕ) → unit_at us offset ≡ o → Some i ≡ unit_at us offset
  by None is = absurd (fails_all us offset is i no_unit bound (ranked (get_or us i no_unit).offset offset Equal (sym (equal no_unit))))
  by (Some j) is =
      let there = passes us offset j is no_unit in
      ap (λ k. Some k) (one_index us offset i j ascend bound there.0 (ranked (get_or us i no_unit).offset offset Equal (sym (equal no_unit))) there.1) ∙ sym is
unit_searched us offset (Err i) ascend bound parts = by (unit_at us offset) refl where
  by : (o : Option ℕ) → unit_at us offset ≡ o → None ≡ unit_at us offset
  by None is = sym is
  by (Some j) is =
      let there = passes us offset j is no_unit in
      let around = parts (λ x y d le l. rises (get_or us x d).offset (get_or us y d).offset offset (offsets_rise us ascend x y d le l)) in
      absurd (elim (cases_lt j i) [
        | inl before ↦ omega (arith, there.1, ranked (get_or us j no_unit).offset offset Less (sym (around.0 j no_unit (omega arith) before)))
        | inr upper ↦ omega (arith, there.1, ranked (get_or us j no_unit).offset offset Greater (sym (around.1 j no_unit upper there.0)))
      ])

-- ---- the unit that holds an offset

-- later units begin no lower
begins_later : (us : List CuBoundary) → AreAdjacent us → (i n : ℕ) (d : CuBoundary) → i + n < length us → (get_or us i d).offset ≤ (get_or us (i + n) d).offset
begins_later us adjacent i zero d l = let same : i + 0 ≡ i = omega arith in subst (λ k. (get_or us i d).offset ≤ (get_or us k d).offset) (sym same) (omega arith)
begins_later us adjacent i (suc n) d l =
    let before = begins_later us adjacent i n d (omega arith) in
    let next = adjacent.next (i + n) d (omega arith) in
    let same : i + n + 1 ≡ i + suc n = omega arith in
    subst (λ k. (get_or us i d).offset ≤ (get_or us k d).offset) same (omega (arith, before, next))

pub offsets_do_not_fall : (us : List CuBoundary) → AreAdjacent us → IsNonDecreasingBy (λ u. u.offset) us
offsets_do_not_fall us adjacent i j d le l = let same : i + (j - i) ≡ j = omega arith in subst (λ k. (get_or us i d).offset ≤ (get_or us k d).offset) same (begins_later us adjacent i (j - i) d (omega arith))

-- a unit ends where a later one begins, or before
ends_before : (us : List CuBoundary) → AreAdjacent us → (i j : ℕ) (d : CuBoundary) → i < j → j < length us → (get_or us i d).offset + (get_or us i d).length ≤ (get_or us j d).offset
ends_before us adjacent i j d less l = omega (arith, adjacent.next i d (omega arith), offsets_do_not_fall us adjacent (i + 1) j d (omega arith) l)

not_held : (offset : ℕ) (u : CuBoundary) → (u.offset ≤ offset → offset < u.offset + u.length → ⊥) → holds_offset offset u ≡ false
not_held offset u h = false_from_ne_true (holds_offset offset u) (λ t. let both : (u.offset ≤ offset) × (offset < u.offset + u.length) = grind (arith, nat_tests) in h both.0 both.1)

held : (offset : ℕ) (u : CuBoundary) → u.offset ≤ offset → offset < u.offset + u.length → holds_offset offset u ≡ true
held offset u low high = grind (arith, nat_tests)

position_is : (us : List CuBoundary) (offset k : ℕ) (d : CuBoundary) → k < length us → ((j : ℕ) → j < k → holds_offset offset (get_or us j d) ≡ false) → holds_offset offset (get_or us k d) ≡ true → Some k ≡ unit_holding us offset
position_is us offset k d l before here =
    let p : CuBoundary → Bool = holds_offset offset in
    let is : position_or_len p us ≡ k = position_or_len_is p us k d (omega arith) before (λ _. here) in
    sym (cond-true (ltb (position_or_len p us) (length us)) (Some (position_or_len p us)) None (lt-ltb _ _ (omega (arith, is, l))) ∙ ap (λ n. Some n) is)

position_none : (us : List CuBoundary) (offset : ℕ) (d : CuBoundary) → ((j : ℕ) → j < length us → holds_offset offset (get_or us j d) ≡ false) → None ≡ unit_holding us offset
position_none us offset d fails =
    let p : CuBoundary → Bool = holds_offset offset in
    let is : position_or_len p us ≡ length us = position_or_len_is p us (length us) d (omega arith) fails (λ l. absurd (omega arith)) in
    sym (cond-false (ltb (position_or_len p us) (length us)) (Some (position_or_len p us)) None (false_from_ne_true _ (λ t. omega (arith, is, ltb-true _ _ t))))

-- units at or before the offset, then units after it
pub record Parted (us : List CuBoundary) (offset upper : ℕ) : Type 0 where
  pub bound : upper ≤ length us
  pub low : (k : ℕ) (d : CuBoundary) → k < upper → (get_or us k d).offset ≤ offset
  pub high : (k : ℕ) (d : CuBoundary) → upper ≤ k → k < length us → offset < (get_or us k d).offset

pub parted : (us : List CuBoundary) (offset upper : ℕ) → upper ≤ length us → IsPartitionPoint (λ u. leb u.offset offset ≡ true) (λ u. leb u.offset offset ≡ false) us upper → Parted us offset upper
parted us offset upper bound parts = record {
  bound = bound;
  low = λ k d l. let t = parts.0 k d (omega arith) l in grind (arith, nat_tests);
  high = λ k d le l. let t = parts.1 k d le l in grind (arith, nat_tests);
}

pub none_before : (us : List CuBoundary) (offset upper : ℕ) → Parted us offset upper → upper ≡ 0 → None ≡ unit_holding us offset
none_before us offset upper parts none = position_none us offset no_unit (λ j l. not_held offset (get_or us j no_unit) (λ low high. omega (arith, parts.high j no_unit (omega arith) l)))

pub last_holds : (us : List CuBoundary) (offset upper k : ℕ) → AreAdjacent us → Parted us offset upper → upper ≡ k + 1 → offset < (get_or us k no_unit).offset + (get_or us k no_unit).length → Some k ≡ unit_holding us offset
last_holds us offset upper k adjacent parts is within =
    let below : k < length us = omega (arith, parts.bound) in
    position_is us offset k no_unit below
    (λ j l. not_held offset (get_or us j no_unit) (λ low high. omega (arith, ends_before us adjacent j k no_unit l below, parts.low k no_unit (omega arith))))
    (held offset (get_or us k no_unit) (parts.low k no_unit (omega arith)) within)

pub last_does_not_hold : (us : List CuBoundary) (offset upper k : ℕ) → AreAdjacent us → Parted us offset upper → upper ≡ k + 1 → (get_or us k no_unit).offset + (get_or us k no_unit).length ≤ offset → None ≡ unit_holding us offset
last_does_not_hold us offset upper k adjacent parts is beyond =
    position_none us offset no_unit (λ j l. not_held offset (get_or us j no_unit) (λ low high. elim (cases_lt j upper) [
      | inr after ↦ omega (arith, parts.high j no_unit after l)
      | inl before ↦ elim (cases_lt j k) [
        | inl less ↦ omega (arith, ends_before us adjacent j k no_unit less (omega (arith, parts.bound)), parts.low k no_unit (omega arith))
        | inr same ↦ let j_is : j ≡ k = omega arith in omega (arith, ap (λ n. (get_or us n no_unit).offset + (get_or us n no_unit).length) j_is)
      ]
    ]))

-- no unit holds an offset that does not fit 64 bits
pub none_holds : (us : List CuBoundary) (offset : ℕ) → AreAdjacent us → 2 ^ 64 ≤ offset → None ≡ unit_holding us offset
none_holds us offset adjacent beyond = position_none us offset no_unit (λ j l. not_held offset (get_or us j no_unit) (λ low high. omega (arith, adjacent.fit j no_unit l)))

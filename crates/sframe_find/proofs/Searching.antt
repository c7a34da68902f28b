-- Where a binary search stands, and its steps.
use Rattle.std.proofs.Common.{◌≡◌, ◌⊎◌, ℕ, ℤ, pos, zero, suc, ◌+◌, ◌-◌, ◌*◌, ◌^◌, ◌<◌, ◌≤◌, ◌≤ℤ◌, ◌<ℤ◌, [], length, get_or, Some, None, Option, inl, inr, refl, ap, subst, ◌∙◌, arith}
use Rattle.std.proofs.Math.Nat.{pow-suc, mul-le-mul_left, mul_assoc}
use Rattle.std.proofs.lemmas.Bool.{cases_order}
use Rattle.std.proofs.lemmas.Int.{ints}
use Rattle.sframe_format.specs.Contribution.{Function}
use Rattle.sframe_find.specs.Frames.{Frames, function_address}
use Rattle.sframe_find.specs.Ordered.{AddressesAscend}
use Rattle.sframe_find.specs.Scan.{IsScan, IsLastUpTo}

abbrev at_index : Frames → ℕ → Function → ℤ
at_index frames j d = function_address frames.base (get_or frames.functions j d)

-- the functions before low are at most a, those from high on above it
pub record IsBetween (frames : Frames) (a low high : ℕ) : Type 0 where
  pub order : low ≤ high
  pub within : high ≤ length frames.functions
  pub before : (j : ℕ) (d : Function) → j < low → at_index frames j d ≤ℤ pos a
  pub after : (j : ℕ) (d : Function) → high ≤ j → j < length frames.functions → pos a <ℤ at_index frames j d

-- k steps left so many functions
pub record AreSteps (n k left : ℕ) : Type 0 where
  pub halved : 2 ^ k * left ≤ n
  pub few : 2 ^ k ≤ 2 * n + 1

abbrev pub Ascend : Frames → Type 0
Ascend frames = AddressesAscend frames.base frames.functions

at_most : (x y z : ℤ) → x ≤ℤ y → y ≤ℤ z → x ≤ℤ z
at_most x y z p q = omega (arith, ints)

above : (x y z : ℤ) → x <ℤ y → y ≤ℤ z → x <ℤ z
above x y z p q = omega (arith, ints)

apart : (x y : ℤ) → x <ℤ y → y ≤ℤ x → ⊥
apart x y p q = omega (arith, ints)

same : (x : ℤ) → x ≤ℤ x
same x = omega (arith, ints)

-- the addresses ascend over more than one index
up_by : (frames : Frames) (i k : ℕ) (d : Function) → Ascend frames → i + k < length frames.functions → at_index frames i d ≤ℤ at_index frames (i + k) d
up_by frames i zero d ascend below =
    let e : i ≡ i + 0 = omega arith in
    subst (λ n. at_index frames i d ≤ℤ at_index frames n d) e (same (at_index frames i d))
up_by frames i (suc k) d ascend below =
    let e : i + k + 1 ≡ i + suc k = omega arith in
    subst (λ n. at_index frames i d ≤ℤ at_index frames n d) e (at_most (at_index frames i d) (at_index frames (i + k) d) (at_index frames (i + k + 1) d) (up_by frames i k d ascend (omega arith)) (ascend (i + k) d (omega arith)))

pub up_to : (frames : Frames) (i j : ℕ) (d : Function) → Ascend frames → i ≤ j → j < length frames.functions → at_index frames i d ≤ℤ at_index frames j d
up_to frames i j d ascend order below =
    let e : i + (j - i) ≡ j = omega arith in
    let h : at_index frames i d ≤ℤ at_index frames (i + (j - i)) d = up_by frames i (j - i) d ascend (omega arith) in
    subst (λ n. at_index frames i d ≤ℤ at_index frames n d) e h

pub begun : (frames : Frames) (a n : ℕ) → n ≡ length frames.functions → IsBetween frames a 0 n
begun frames a n e = record { order = omega arith; within = omega arith; before = λ j d b. absurd (omega arith); after = λ j d b below. absurd (omega arith) }

pub up_to_wanted : (frames : Frames) (a k : ℕ) (x y : ℤ) → y ≡ pos a → ((d : Function) → x ≡ at_index frames k d) → x ≤ℤ y → (d : Function) → at_index frames k d ≤ℤ pos a
up_to_wanted frames a k x y e at h d = let f : x ≡ at_index frames k d = at d in omega (arith, ints)

pub from_wanted : (frames : Frames) (a k : ℕ) (x y : ℤ) → y ≡ pos a → ((d : Function) → x ≡ at_index frames k d) → y <ℤ x → (d : Function) → pos a <ℤ at_index frames k d
from_wanted frames a k x y e at h d = let f : x ≡ at_index frames k d = at d in omega (arith, ints)

-- the function in the middle is at most a
pub raised : (frames : Frames) (a low high middle : ℕ) → Ascend frames → IsBetween frames a low high → middle < high → low ≤ middle → ((d : Function) → at_index frames middle d ≤ℤ pos a) → IsBetween frames a (middle + 1) high
raised frames a low high middle ascend at below from reached = record {
  order = omega arith;
  within = at.within;
  before = λ j d b. at_most (at_index frames j d) (at_index frames middle d) (pos a) (up_to frames j middle d ascend (omega arith) (omega (arith, at.within))) (reached d);
  after = at.after;
}

-- the function in the middle is above a
pub lowered : (frames : Frames) (a low high middle : ℕ) → Ascend frames → IsBetween frames a low high → middle < high → low ≤ middle → ((d : Function) → pos a <ℤ at_index frames middle d) → IsBetween frames a low middle
lowered frames a low high middle ascend at below from beyond = record {
  order = from;
  within = omega (arith, at.within);
  before = at.before;
  after = λ j d b within. above (pos a) (at_index frames middle d) (at_index frames j d) (beyond d) (up_to frames middle j d ascend b within);
}

-- the search is over
pub ended_none : (frames : Frames) (a high : ℕ) → IsBetween frames a 0 high → high ≤ 0 → IsScan frames a None
ended_none frames a high at none = λ j d below. at.after j d (omega arith) below

pub ended_some : (frames : Frames) (a low high k : ℕ) → IsBetween frames a low high → high ≤ low → 0 < low → k ≡ low - 1 → IsScan frames a (Some k)
ended_some frames a low high k at order some e = record {
  within = omega (arith, at.within);
  reached = λ d. at.before k d (omega arith);
  last = λ j d later below. at.after j d (omega arith) below;
}

-- ---- steps

pub no_steps : (n k left : ℕ) → k ≡ 0 → left ≡ n → AreSteps n k left
no_steps n k left e all = let one : 2 ^ k ≡ 1 = ap (λ k. 2 ^ k) e in record { halved = omega (arith, ap (λ p. p * left) one); few = omega (arith, one) }

halved : (p m m' n : ℕ) → p * m ≤ n → 2 * m' ≤ m → p * 2 * m' ≤ n
halved p m m' n h less = omega (arith, mul_assoc p 2 m', mul-le-mul_left p less)

fewer : (p m n : ℕ) → p * m ≤ n → 0 < m → p * 2 ≤ 2 * n + 1
fewer p m n h some = let one : p * 1 ≤ p * m = mul-le-mul_left p some in omega (arith, one)

power : (k : ℕ) → 2 ^ (k + 1) ≡ 2 ^ k * 2
power k = let e : k + 1 ≡ suc k = omega arith in ap (λ n. 2 ^ n) e ∙ pow-suc 2 k

pub one_step : (n k k' left left' : ℕ) → AreSteps n k left → 0 < left → 2 * left' ≤ left → k' ≡ k + 1 → AreSteps n k' left'
one_step n k k' left left' steps some less e =
    let p : 2 ^ k' ≡ 2 ^ k * 2 = ap (λ k. 2 ^ k) e ∙ power k in
    record {
      halved = omega (arith, ap (λ p. p * left') p, halved (2 ^ k) left left' n steps.halved less);
      few = omega (arith, p, fewer (2 ^ k) left n steps.halved some);
    }

-- ---- one answer

higher_last : (frames : Frames) (a k l : ℕ) (d : Function) → IsLastUpTo frames a k → IsLastUpTo frames a l → k < l → ⊥
higher_last frames a k l d x y less = apart (pos a) (at_index frames l d) (x.last l d less y.within) (y.reached d)

no_function : Function
no_function = record { start = pos 0; size = []; info = []; fres = [] }

pub one_scan : (frames : Frames) (a : ℕ) (x y : Option ℕ) → IsScan frames a x → IsScan frames a y → x ≡ y
one_scan frames a None None x y = refl
one_scan frames a None (Some l) x y = absurd (apart (pos a) (at_index frames l no_function) (x l no_function y.within) (y.reached no_function))
one_scan frames a (Some k) None x y = absurd (apart (pos a) (at_index frames k no_function) (y k no_function x.within) (x.reached no_function))
one_scan frames a (Some k) (Some l) x y = at (cases_order k l)
  where
    at : (k ≡ l) ⊎ ((k < l) ⊎ (l < k)) → Some k ≡ Some l
    at (inl e) = ap (λ n. Some n) e
    at (inr (inl less)) = absurd (higher_last frames a k l no_function x y less)
    at (inr (inr less)) = absurd (higher_last frames a l k no_function y x less)

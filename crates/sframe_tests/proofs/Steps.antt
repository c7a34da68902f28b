-- Steps of which two are the most.
use Rattle.std.proofs.Common.{◌≡◌, ◌⊎◌, ℕ, zero, suc, ◌+◌, ◌-◌, ◌*◌, ◌^◌, ◌<◌, ◌≤◌, inl, inr, ap, ◌∙◌, arith}
use Rattle.std.proofs.lemmas.Bool.{cases_lt}
use Rattle.std.proofs.Math.Nat.{pow-suc}

power : (k : ℕ) → 2 ^ (k + 1) ≡ 2 ^ k * 2
power k = let e : k + 1 ≡ suc k = omega arith in ap (λ n. 2 ^ n) e ∙ pow-suc 2 k

-- 2 ^ (k + 3) is at least 8
at_least_8 : (k : ℕ) → 8 ≤ 2 ^ (k + 3)
at_least_8 zero = omega arith
at_least_8 (suc k) =
    let e : suc k + 3 ≡ k + 3 + 1 = omega arith in
    let p : 2 ^ (suc k + 3) ≡ 2 ^ (k + 3) * 2 = ap (λ n. 2 ^ n) e ∙ power (k + 3) in
    omega (arith, p, at_least_8 k)

pub two_steps : (before after n : ℕ) → n ≡ 2 → before ≤ after → 2 ^ (after - before) ≤ 2 * n + 1 → after ≤ before + 2
two_steps before after n two later few = at (cases_lt (after - before) 3)
  where
    at : (after - before < 3) ⊎ (3 ≤ after - before) → after ≤ before + 2
    at (inl less) = omega arith
    at (inr more) =
        let e : after - before ≡ after - before - 3 + 3 = omega arith in
        let p : 2 ^ (after - before) ≡ 2 ^ (after - before - 3 + 3) = ap (λ k. 2 ^ k) e in
        absurd (omega (arith, p, at_least_8 (after - before - 3)))

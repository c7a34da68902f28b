-- The next number that leaves a given rest.
use Rattle.std.proofs.Common.{◌≡◌, ℕ, suc, ◌+◌, ◌-◌, ◌*◌, ◌/◌, ◌%◌, ◌<◌, ◌≤◌, inl, inr, ap, ◌∙◌, arith, mul-le-mul_right}
use Rattle.std.proofs.Math.Nat.{mod-add-div', mod-lt, eq-or-lt_of_le}
use Rattle.std.proofs.lemmas.Nat.{mod-mul-add, le-div}

quotients : (a value m : ℕ) → 0 < a → value ≤ m → value / a ≤ m / a
quotients a value m above h =
    let e : value % a + value / a * a ≡ value = mod-add-div' value a in
    le-div (value / a) m a above (omega arith)

pub least_here : (a value m wanted : ℕ) → 0 < a → value ≤ m → m % a ≡ wanted → value % a ≤ wanted → value + (wanted - value % a) ≤ m
least_here a value m wanted above h same low =
    let e : value % a + value / a * a ≡ value = mod-add-div' value a in
    let f : m % a + m / a * a ≡ m = mod-add-div' m a in
    let k : value / a * a ≤ m / a * a = mul-le-mul_right a (quotients a value m above h) in
    omega arith

pub least_next : (a value m wanted : ℕ) → 0 < a → value ≤ m → m % a ≡ wanted → wanted < value % a → value + (a - value % a + wanted) ≤ m
least_next a value m wanted above h same high =
    let e : value % a + value / a * a ≡ value = mod-add-div' value a in
    let f : m % a + m / a * a ≡ m = mod-add-div' m a in
    let r : value % a < a = mod-lt value above in
    elim (eq-or-lt_of_le (quotients a value m above h)) [
      | inl eq ↦ absurd (let k : value / a * a ≡ m / a * a = ap (λ q. q * a) eq in omega arith)
      | inr lt ↦ let k : suc (value / a) * a ≤ m / a * a = mul-le-mul_right a lt in let s : suc (value / a) * a ≡ value / a * a + a = omega arith in omega arith
    ]

pub rest_here : (a value wanted : ℕ) → wanted < a → value % a ≤ wanted → (value + (wanted - value % a)) % a ≡ wanted
rest_here a value wanted small low =
    let e : value % a + value / a * a ≡ value = mod-add-div' value a in
    let n : value + (wanted - value % a) ≡ value / a * a + wanted = omega arith in
    ap (λ x. x % a) n ∙ mod-mul-add (value / a) a wanted small

pub rest_next : (a value wanted : ℕ) → wanted < a → wanted < value % a → (value + (a - value % a + wanted)) % a ≡ wanted
rest_next a value wanted small high =
    let e : value % a + value / a * a ≡ value = mod-add-div' value a in
    let r : value % a < a = mod-lt value (omega arith) in
    let s : suc (value / a) * a ≡ value / a * a + a = omega arith in
    let n : value + (a - value % a + wanted) ≡ suc (value / a) * a + wanted = omega arith in
    ap (λ x. x % a) n ∙ mod-mul-add (suc (value / a)) a wanted small

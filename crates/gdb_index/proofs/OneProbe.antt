-- Probes that begin at one slot are one probe.
use Rattle.std.proofs.Common.{◌≡◌, ℕ, ◌+◌, ◌-◌, ◌*◌, ◌/◌, ◌%◌, ◌^◌, ◌<◌, ◌≤◌, sym, ap, ◌∙◌, arith, inl, inr}
use Rattle.std.specs.Int.{IsPowerOfTwo}
use Rattle.std.proofs.Math.Nat.{mod-add-div, mod-add-mod, add-mul-mod_self_left, mul_assoc, pow-le-pow_right}
use Rattle.std.proofs.lemmas.Bool.{cases_lt}
use Rattle.std.proofs.lemmas.Nat.{pow-add, mul-mod}
use Rattle.gdb_index_format.specs.Slots.{slot_of, step_size, with_lowest_bit}

-- a remainder by a multiple has the same remainder
inner_mod : (n s c m : ℕ) → m ≡ s * c → n % m % s ≡ n % s
inner_mod n s c m is =
    let whole : n % m + s * (c * (n / m)) ≡ n =
    ap (λ x. n % m + x) (sym (mul_assoc s c (n / m)) ∙ ap (λ x. x * (n / m)) (sym is)) ∙ mod-add-div n m in
    sym (add-mul-mod_self_left (n % m) s (c * (n / m))) ∙ ap (λ x. x % s) whole

-- 2 ^ 32 is a multiple of each smaller power of two
multiple : (slots : ℕ) → IsPowerOfTwo slots → slots < 2 ^ 32 → (c : ℕ) × (4294967296 ≡ slots * c)
multiple slots (k, is) below =
    elim (cases_lt 32 k) [
      | inl more ↦ absurd (omega (arith, pow-le-pow_right {n = 2} (omega arith) (at_most more), is, below))
      | inr less ↦ (2 ^ (32 - k), ap (λ n. 2 ^ n) (parts k less) ∙ pow-add 2 k (32 - k) ∙ ap (λ x. x * 2 ^ (32 - k)) (sym is))
    ] where
      at_most : {a b : ℕ} → a < b → a ≤ b
      at_most h = omega arith

      parts : (j : ℕ) → j ≤ 32 → 32 ≡ j + (32 - j)
      parts j h = omega arith

-- the step size depends on the remainder alone
step_size_of_rest : (slots hash c : ℕ) → 4294967296 ≡ slots * c → step_size slots hash ≡ with_lowest_bit (hash % slots * (17 % slots) % slots)
step_size_of_rest slots hash c is = ap with_lowest_bit (inner_mod (hash * 17) slots c 4294967296 is ∙ mul-mod hash 17 slots)

pub one_probe : (slots g h step : ℕ) → IsPowerOfTwo slots → slots < 2 ^ 32 → slot_of slots g 0 ≡ slot_of slots h 0 → slot_of slots g step ≡ slot_of slots h step
unfolding slot_of
one_probe slots g h step power below same =
    let (c, is) = multiple slots power below in
    let rest : g % slots ≡ h % slots = ap (λ x. x % slots) (begins g (step_size slots g)) ∙ same ∙ sym (ap (λ x. x % slots) (begins h (step_size slots h))) in
    let sizes : step_size slots g ≡ step_size slots h = step_size_of_rest slots g c is ∙ ap (λ x. with_lowest_bit (x * (17 % slots) % slots)) rest ∙ sym (step_size_of_rest slots h c is) in
    sym (mod-add-mod g slots (step * step_size slots g))
    ∙ ap (λ x. (x + step * step_size slots g) % slots) rest
    ∙ ap (λ x. (h % slots + step * x) % slots) sizes
    ∙ mod-add-mod h slots (step * step_size slots h) where
      begins : (n s : ℕ) → n ≡ n + 0 * s
      begins n s = omega arith

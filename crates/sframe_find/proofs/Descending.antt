-- Each address beside the one before it.
use Rattle.std.proofs.Common.{◌≡◌, ◌⊎◌, ℕ, ℤ, ◌+◌, ◌-◌, ◌<◌, ◌≤◌, ◌≤ℤ◌, ◌<ℤ◌, List, length, get_or, inl, inr, subst, arith}
use Rattle.std.proofs.lemmas.Bool.{cases_lt}
use Rattle.std.proofs.lemmas.Int.{ints}
use Rattle.sframe_format.specs.Contribution.{Function}
use Rattle.sframe_find.specs.Frames.{function_address}
use Rattle.sframe_find.specs.Ordered.{IsFirstDescent}

-- the addresses ascend below index k
abbrev pub AscendBelow : ℕ → List Function → ℕ → Type 0
AscendBelow base fs k = (j : ℕ) (f : Function) → j + 1 < k → function_address base (get_or fs j f) ≤ℤ function_address base (get_or fs (j + 1) f)

less : (x y a b : ℤ) → a ≡ x → b ≡ y → a <ℤ b → x <ℤ y
less x y a b p q h = omega (arith, ints)

no_less : (x y a b : ℤ) → a ≡ x → b ≡ y → b ≤ℤ a → y ≤ℤ x
no_less x y a b p q h = omega (arith, ints)

pub first_at : (base : ℕ) (fs : List Function) (k : ℕ) (a b : ℤ) → 1 ≤ k → k < length fs → ((f : Function) → a ≡ function_address base (get_or fs k f)) → ((f : Function) → b ≡ function_address base (get_or fs (k - 1) f)) → a <ℤ b → AscendBelow base fs k → IsFirstDescent base fs k
first_at base fs k a b some within at before h up = record {
  follows = some;
  within = within;
  below = λ f. less _ _ a b (at f) (before f) h;
  before = up;
}

pub up_more : (base : ℕ) (fs : List Function) (k : ℕ) (a b : ℤ) → 1 ≤ k → ((f : Function) → a ≡ function_address base (get_or fs k f)) → ((f : Function) → b ≡ function_address base (get_or fs (k - 1) f)) → b ≤ℤ a → AscendBelow base fs k → AscendBelow base fs (k + 1)
up_more base fs k a b some at before h up = λ j f below. last j f below (cases_lt (j + 1) k)
  where
    last : (j : ℕ) (f : Function) → j + 1 < k + 1 → (j + 1 < k) ⊎ (k ≤ j + 1) → function_address base (get_or fs j f) ≤ℤ function_address base (get_or fs (j + 1) f)
    last j f below (inl less) = up j f less
    last j f below (inr more) =
        let e : k ≡ j + 1 = omega arith in
        let e' : k - 1 ≡ j = omega arith in
        subst (λ n. function_address base (get_or fs j f) ≤ℤ function_address base (get_or fs n f)) e
        (subst (λ n. function_address base (get_or fs n f) ≤ℤ function_address base (get_or fs k f)) e' (no_less _ _ a b (at f) (before f) h))

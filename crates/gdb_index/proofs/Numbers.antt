-- Powers of two, and a number's lowest bit.
use Rattle.std.proofs.Common.{◌≡◌, ℕ, zero, suc, ◌+◌, ◌*◌, ◌/◌, ◌%◌, ◌^◌, ◌<◌, ◌≤◌, ◌≢◌, refl, ap, subst, ◌∙◌, arith, inl, inr}
use Rattle.std.specs.Prelude.{bit_or, max}
use Rattle.std.specs.Int.{IsPowerOfTwo}
use Rattle.std.specs.Int.Bits.{or_zero_r}
use Rattle.std.proofs.Math.Nat.{pow-suc, pow-le-pow_right}
use Rattle.std.proofs.lemmas.Nat.{or_block, mul-le}
use Rattle.std.proofs.lemmas.Bool.{cases_lt}
use Rattle.gdb_index_format.specs.Slots.{IsLeastPower, IsSlotCount, with_lowest_bit}

lowest : (r : ℕ) → r < 2 → bit_or r 1 ≡ 1
lowest zero l = refl
lowest (suc zero) l = refl
lowest (suc (suc r)) l = absurd (omega arith)

with_none : (n : ℕ) → bit_or n 0 ≡ n
with_none n = or_zero_r n

pub bit_or-one : (n : ℕ) → bit_or n 1 ≡ with_lowest_bit n
bit_or-one n =
    let parts : bit_or (n / 2 * 2 ^ 1 + n % 2) (0 * 2 ^ 1 + 1) ≡ bit_or (n / 2) 0 * 2 ^ 1 + bit_or (n % 2) 1 = or_block 1 (n / 2) 0 (n % 2) 1 (omega arith) (omega arith) in
    ap (λ x. bit_or x 1) (whole n) ∙ parts ∙ ap (λ x. x * 2 + bit_or (n % 2) 1) (with_none (n / 2)) ∙ ap (λ x. n / 2 * 2 + x) (lowest (n % 2) (omega arith)) where
      whole : (n : ℕ) → n ≡ n / 2 * 2 + n % 2
      whole n = omega arith

below_half : (j k : ℕ) → 2 ^ k < 2 ^ j → 2 ^ k ≤ 2 ^ j / 2
below_half j k less =
    elim (cases_lt k j) [
      | inl lt ↦ omega (arith, pow-le-pow_right {n = 2} (omega arith) (next_at_most lt), pow-suc 2 k)
      | inr le ↦ absurd (omega (arith, pow-le-pow_right {n = 2} (omega arith) le))
    ] where
      next_at_most : {a b : ℕ} → a < b → suc a ≤ b
      next_at_most h = omega arith

pub IsLeastPower-from_half : (n p : ℕ) → 0 < n → IsPowerOfTwo p → n ≤ p → p / 2 < max 1 n → IsLeastPower n p
IsLeastPower-from_half n p some (j, is) above half = record {
  power_of_two = (j, is);
  not_below = above;
  least = λ k fits. elim (cases_lt (2 ^ k) p) [
    | inl less ↦ absurd (omega (arith, below_half j k (subst (λ x. 2 ^ k < x) is less), is, ap (λ x. x / 2) is))
    | inr done ↦ done
  ];
}

-- what the next power of two is, as a number of slots
pub IsSlotCount-from_half : (count slots : ℕ) → count ≢ 0 → IsPowerOfTwo slots → count * 4 / 3 + 1 ≤ slots → slots / 2 < max 1 (count * 4 / 3 + 1) → IsSlotCount count slots
IsSlotCount-from_half zero slots some power above half = absurd (some refl)
IsSlotCount-from_half (suc n) slots some power above half =
    subst (λ x. IsLeastPower (x / 3 + 1) slots) (order (suc n)) (IsLeastPower-from_half (suc n * 4 / 3 + 1) slots (omega arith) power above half) where
      order : (n : ℕ) → n * 4 ≡ 4 * n
      order n = omega arith

-- a step's offset before it is taken modulo the slots
pub steps_fit : (slots hash step x : ℕ) → slots < 2 ^ 32 → hash < 2 ^ 32 → step < slots → x < slots → hash + step * with_lowest_bit x < 2 ^ 64
steps_fit slots hash step x table hashed within below =
    omega (arith, mul-le step (with_lowest_bit x) 4294967294 4294967295 (omega arith) (omega arith))

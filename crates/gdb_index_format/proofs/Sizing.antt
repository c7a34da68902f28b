-- Counts have one number of slots and one size.
use Rattle.std.proofs.Common.{◌≡◌, ℕ, zero, suc, ◌+◌, ◌*◌, ◌/◌, ◌^◌, ◌<◌, ◌≤◌, eqb, cond, refl, sym, ap, subst, ◌∙◌, arith, ◌⊎◌, inl, inr}
use Rattle.std.proofs.Math.Nat.{pow-le-pow_right, pow-suc}
use Rattle.std.proofs.lemmas.Nat.{pow_pos}
use Rattle.gdb_index_format.specs.Slots.{IsSlotCount, IsLeastPower}
use Rattle.gdb_index_format.specs.Size.{Counts, IsSize, size_with, SizesAreOne}

either : (a b : ℕ) → (a ≤ b) ⊎ (b < a)
either a b = grind arith

least_le : (n p q : ℕ) → IsLeastPower n p → IsLeastPower n q → p ≤ q
least_le n p q a b =
    let at_q : n ≤ 2 ^ b.power_of_two.0 = subst (λ x. n ≤ x) b.power_of_two.1 b.not_below in
    subst (λ x. p ≤ x) (sym b.power_of_two.1) (a.least b.power_of_two.0 at_q)

pub one_slot_count : (names s t : ℕ) → IsSlotCount names s → IsSlotCount names t → s ≡ t
one_slot_count zero s t a b = a ∙ sym b
one_slot_count (suc n) s t a b = omega (arith, least_le (4 * suc n / 3 + 1) s t a b, least_le (4 * suc n / 3 + 1) t s b a)

-- a power of two above another is at least twice it
twice : (e k : ℕ) → 2 ^ e < 2 ^ k → 2 ^ suc e ≤ 2 ^ k
twice e k below = elim (either k e) [
  | inl low ↦ let no : 2 ^ k ≤ 2 ^ e = pow-le-pow_right {n = 2} (omega arith) low in absurd (omega arith)
  | inr high ↦ pow-le-pow_right {n = 2} (omega arith) (omega arith)
]

next_power : (n p : ℕ) → IsLeastPower n p → (q : ℕ) × IsLeastPower (suc n) q
next_power n p is = elim (either (suc n) p) [
  | inl enough ↦ (p, record { power_of_two = is.power_of_two; not_below = enough; least = λ k l. is.least k (omega arith) })
  | inr short ↦
      let e = is.power_of_two.0 in
      let exact : 2 ^ e ≡ n = omega (arith, is.power_of_two.1, is.not_below) in
      (2 ^ suc e, record { power_of_two = (suc e, refl); not_below = omega (arith, pow-suc 2 e, pow_pos e); least = λ k l. twice e k (omega arith) })
]

least_power : (n : ℕ) → (p : ℕ) × IsLeastPower n p
least_power zero = (1, record { power_of_two = (0, refl); not_below = omega arith; least = λ k l. omega (arith, pow_pos k) })
least_power (suc n) = let before = least_power n in next_power n before.0 before.1

some_slot_count : (names : ℕ) → (slots : ℕ) × IsSlotCount names slots
some_slot_count zero = (0, refl)
some_slot_count (suc n) = least_power (4 * suc n / 3 + 1)

some_size : (version : ℕ) (n : Counts) → (size : ℕ) × IsSize version n size
some_size version n = let slots = some_slot_count n.names in (_, record { slots = slots.0; counted = slots.1; size_is = refl })

one_size : (version : ℕ) (n : Counts) (s t : ℕ) → IsSize version n s → IsSize version n t → s ≡ t
one_size version n s t p q =
    let same : p.slots ≡ q.slots = one_slot_count n.names p.slots q.slots p.counted q.counted in
    p.size_is ∙ ap (λ (k : ℕ). cond (eqb n.units 0) 0 (size_with version n k)) same ∙ sym q.size_is

pub sizes_are_one_lem : SizesAreOne
sizes_are_one_lem = record { some_size = some_size; one_size = one_size; one_slot_count = one_slot_count }

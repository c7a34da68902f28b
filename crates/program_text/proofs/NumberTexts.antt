-- A number and the one text that it is read from.
use Rattle.std.proofs.Common.{◌≡◌, ◌==◌, ◌<◌, ◌≤◌, ◌^◌, ◌&&◌, ◌↔◌, ℕ, List, [], ◌∷◌, Bool, true, false, not, length, get_or, nat_lt, refl, sym, ap, ◌∙◌, arith, if◌then◌else◌, decimal, inl, inr}
use Rattle.std.specs.Prelude.{Some, None}
use Rattle.std.specs.Str.{all_ascii_digits}
use Rattle.std.proofs.Math.Bool.{and-true}
use Rattle.std.proofs.lemmas.Bool.{and_parts, not-true, eqb-false, ltb-true, lt-ltb, cases_eq}
use Rattle.std.proofs.lemmas.Fmt.{digits_decimal, digits_value-decimal, decimal-digits_value, decimal_nonempty, first_decimal, length-decimal-le}
use Rattle.program_text.specs.Number.{value_of, is_decimal, number_of}
use Rattle.program_text.proofs.NumberLemmas.{own, decimal_is}

-- a decimal word: its digits, of which there is one, and no needless zero
decimal_parts : (word : List ℕ) → is_decimal word ≡ true → (all_ascii_digits word ≡ true) × (0 < length word) × (get_or word 0 0 ≡ 48 → length word ≡ 1)
decimal_parts [] is = absurd (cc)
decimal_parts (digit ∷ []) is = (and-true _ ∙ is, omega arith, λ _. refl)
decimal_parts (digit ∷ (next ∷ digits)) is =
    let parts = and_parts (not (digit == 48)) (all_ascii_digits (digit ∷ next ∷ digits)) is in
    (parts.1, omega arith, λ zero. absurd (eqb-false digit 48 (not-true (digit == 48) parts.0) zero))

read : (word : List ℕ) (n : ℕ) (all small : Bool) → is_decimal word ≡ all → nat_lt (value_of word) (2 ^ 64) ≡ small → (if all && small then Some (value_of word) else None) ≡ Some n → (n < 2 ^ 64) × (word ≡ decimal n)
read word n true true all small is =
    let parts = decimal_parts word all in
    let value : value_of word ≡ n = cc in
    let below = ltb-true (value_of word) (2 ^ 64) small in
    (omega arith, sym (decimal-digits_value own word parts.0 parts.1 parts.2 below) ∙ ap decimal value)
read word n true false all small is = absurd (cc)
read word n false small all _ is = absurd (cc)

-- a number's text has no needless zero
no_needless : (n : ℕ) → n < 2 ^ 64 → get_or (decimal n) 0 0 ≡ 48 → length (decimal n) ≤ 1
no_needless n small zero =
    elim (cases_eq n 0) [
      | inl none ↦ length-decimal-le 1 n (omega arith) (omega arith) small
      | inr some ↦ absurd (omega (arith, first_decimal n (omega (arith, some)) small))
    ]

written : (n : ℕ) → n < 2 ^ 64 → number_of (decimal n) ≡ Some n
written n small =
    let value = digits_value-decimal own n small in
    ap (λ b. if b && nat_lt (value_of (decimal n)) (2 ^ 64) then Some (value_of (decimal n)) else None)
    (decimal_is (decimal n) (decimal_nonempty n small) (no_needless n small) ∙ digits_decimal own n small)
    ∙ ap (λ v. if nat_lt v (2 ^ 64) then Some v else None) value
    ∙ ap (λ b. if b then Some n else None) (lt-ltb n (2 ^ 64) small)

pub one_text : (word : List ℕ) (n : ℕ) → (number_of word ≡ Some n) ↔ ((n < 2 ^ 64) × (word ≡ decimal n))
one_text word n = (λ is. read word n _ _ refl refl is, λ (small, is). ap number_of is ∙ written n small)

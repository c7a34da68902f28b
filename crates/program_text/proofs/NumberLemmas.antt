-- Decimal numbers are what std reads, where no plus and no needless zero stands first.
use Rattle.std.proofs.Common.{rules, ◌≡◌, ◌≢◌, ◌==◌, ◌-◌, ◌<◌, ◌≤◌, ◌^◌, ◌&&◌, ℕ, List, [], ◌∷◌, Bool, true, false, not, length, length-drop, take, drop, get_or, nat_lt, refl, sym, ap, ◌∙◌, arith, if◌then◌else◌}
use Rattle.std.specs.Prelude.{Some, None, Result, Ok, Err}
use Rattle.std.specs.Result.{OkIff, result_ok}
use Rattle.std.specs.Char.{is_ascii_digit}
use Rattle.std.specs.Str.{all_ascii_digits}
use Rattle.std.specs.Str.Parse.{ParsesUnsigned}
use Rattle.std.proofs.Math.Bool.{and-true}
use Rattle.std.proofs.lemmas.Bool.{ltb-true, lt-ltb, eqb-true, ne_eqb}
use Rattle.std.proofs.lemmas.List.{length-take}
use Rattle.std.proofs.lemmas.Str.Parse.{IsNumeralModel, numerals_by_weight, tells_all_ascii_digits, parse_plain}
use Rattle.program_text.specs.Number.{value_of, is_decimal, number_of}

-- these digits and their value are std's
pub own : IsNumeralModel (λ ds. all_ascii_digits ds ≡ true) value_of
own = numerals_by_weight _ tells_all_ascii_digits value_of (search rules)

-- a word with no needless zero is decimal where it is digits
pub decimal_is : (word : List ℕ) → 0 < length word → (get_or word 0 0 ≡ 48 → length word ≤ 1) → is_decimal word ≡ all_ascii_digits word
decimal_is [] some short = absurd (omega arith)
decimal_is (digit ∷ []) some short = sym (and-true (is_ascii_digit digit))
decimal_is (digit ∷ (next ∷ digits)) some short =
    ap (λ b. not b && all_ascii_digits (digit ∷ next ∷ digits)) (ne_eqb digit 48 (λ same. absurd (omega (arith, short same))))

by_tests : {E : Type 0} (r : Result ℕ E) (all small : Bool) (n v : ℕ) → nat_lt v (2 ^ 64) ≡ small → 0 < n → OkIff r ((all ≡ true) × (0 < n) × (v < 2 ^ 64)) v → result_ok r ≡ (if all && small then Some v else None)
by_tests (Ok x) all small n v is some (good, same) =
    ap Some same ∙ sym (ap (λ b. if b && small then Some v else None) good.0 ∙ ap (λ b. if b then Some v else None) (sym is ∙ lt-ltb v (2 ^ 64) good.2))
by_tests (Err e) true true n v is some bad = absurd (bad (refl, some, ltb-true v (2 ^ 64) is))
by_tests (Err e) true false n v is some bad = refl
by_tests (Err e) false small n v is some bad = refl

pub as_read : {E : Type 0} (word : List ℕ) (r : Result ℕ E) → 1 ≤ length word → get_or word 0 0 ≢ 43 → (get_or word 0 0 ≡ 48 → length word ≤ 1) → ParsesUnsigned 64 10 word r → result_ok r ≡ number_of word
as_read word r some no_plus short read =
    by_tests r (all_ascii_digits word) (nat_lt (value_of word) (2 ^ 64)) (length word) (value_of word) refl some (parse_plain own 64 word r read no_plus)
    ∙ ap (λ b. if b && nat_lt (value_of word) (2 ^ 64) then Some (value_of word) else None) (sym (decimal_is word some short))

-- a word of which nothing follows the first byte
pub short_word : (word : List ℕ) (empty needless : Bool) → empty ≡ (length (take (length word - 1) (drop 1 word)) == 0) → needless ≡ not empty → needless ≡ false → length word ≤ 1
short_word word true needless is_empty _ _ =
    omega (arith, eqb-true _ 0 (sym is_empty), length-take (length word - 1) (drop 1 word), length-drop 1 word)
short_word word false needless is_empty is good = absurd (cc)

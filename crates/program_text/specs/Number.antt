-- Decimal numbers below 2^64 without needless zeros.
use Rattle.std.specs.Prelude.{ℕ, ◌+◌, ◌-◌, ◌*◌, ◌^◌, ◌==◌, ◌&&◌, Bool, false, not, List, [], ◌∷◌, length, if◌then◌else◌, nat_lt, Option, Some, None}
use Rattle.std.specs.Char.{is_ascii_digit}
use Rattle.std.specs.Str.{all_ascii_digits}

-- the number that digits write: each counts by the digits after it
abbrev pub value_of : List ℕ → ℕ
value_of [] = 0
value_of (digit ∷ digits) = (digit - 48) * 10 ^ length digits + value_of digits

-- whether a word is digits, at least one, and no zero stands before another digit
abbrev pub is_decimal : List ℕ → Bool
is_decimal [] = false
is_decimal (digit ∷ []) = is_ascii_digit digit
is_decimal (digit ∷ (next ∷ digits)) = not (digit == 48) && all_ascii_digits (digit ∷ next ∷ digits)

-- the number that a word writes
abbrev pub number_of : List ℕ → Option ℕ
number_of word = if is_decimal word && nat_lt (value_of word) (2 ^ 64) then Some (value_of word) else None

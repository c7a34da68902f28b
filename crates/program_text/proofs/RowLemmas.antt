-- The digits of a row are stored two by two.
use Rattle.std.proofs.Common.{◌≡◌, ◌+◌, ◌*◌, ◌/◌, ◌%◌, ◌<◌, ℕ, List, [], ◌∷◌, ◌++◌, length, take, refl, sym, ap, ◌∙◌, arith, append_assoc, slice_index}
use Rattle.std.proofs.lemmas.List.{take_more, length-set}
use Rattle.std.proofs.lemmas.Grind.{take-set_at}
use Rattle.std.specs.Prelude.{slice_set}
use Rattle.hex.specs.Hex.{encode_lower, encode_with, lower_digits}
use Rattle.program_text.proofs.ReportLemmas.{digits_of_parts}

-- the digits of one byte
digits_of_byte : (byte : ℕ) → encode_lower (byte ∷ []) ≡ slice_index lower_digits (byte / 16) ∷ slice_index lower_digits (byte % 16) ∷ []
unfolding encode_with
digits_of_byte byte = refl

-- two digits after those of the bytes before
two_after : (front : List ℕ) (high low : ℕ) → (front ++ high ∷ []) ++ low ∷ [] ≡ front ++ high ∷ low ∷ []
two_after front high low = append_assoc front (high ∷ []) (low ∷ [])

-- the digits of one more byte
digits_of_more : (row : List ℕ) (i : ℕ) → i < length row → encode_lower (take (i + 1) row) ≡ encode_lower (take i row) ++ slice_index lower_digits (slice_index row i / 16) ∷ slice_index lower_digits (slice_index row i % 16) ∷ []
digits_of_more row i within =
    ap encode_lower (take_more row i 0 within)
    ∙ digits_of_parts lower_digits (take i row) (slice_index row i ∷ [])
    ∙ ap (λ (l : List ℕ). encode_lower (take i row) ++ l) (digits_of_byte (slice_index row i))

-- both digits of a byte are stored after those of the bytes before
pub digits_stored : (room row : List ℕ) (i high low : ℕ) → 2 * i + 1 < length room → i < length row → high ≡ slice_index lower_digits (slice_index row i / 16) → low ≡ slice_index lower_digits (slice_index row i % 16) → take (2 * i) room ≡ encode_lower (take i row) → take (2 * (i + 1)) (slice_set (slice_set room (2 * i) high) (2 * i + 1) low) ≡ encode_lower (take (i + 1) row)
digits_stored room row i high low fits within high_is low_is before =
    take-set_at (slice_set room (2 * i) high) (2 * i + 1) (2 * (i + 1)) low (omega arith) (omega (arith, fits, length-set room (2 * i) high))
    ∙ ap (λ (l : List ℕ). l ++ low ∷ []) (take-set_at room (2 * i) (2 * i + 1) high refl (omega (arith, fits)))
    ∙ two_after (take (2 * i) room) high low
    ∙ ap (λ (l : List ℕ). l ++ high ∷ low ∷ []) before
    ∙ ap (λ (n : ℕ). encode_lower (take i row) ++ n ∷ low ∷ []) high_is
    ∙ ap (λ (n : ℕ). encode_lower (take i row) ++ slice_index lower_digits (slice_index row i / 16) ∷ n ∷ []) low_is
    ∙ sym (digits_of_more row i within)

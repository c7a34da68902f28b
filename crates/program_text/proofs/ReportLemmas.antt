-- The lines of bytes, one after another.
use Rattle.std.proofs.Common.{◌≡◌, ◌+◌, ◌*◌, ◌/◌, ◌%◌, ◌<◌, ℕ, suc, zero, List, [], ◌∷◌, ◌++◌, length, take, drop, map, refl, sym, ap, ◌∙◌, arith, length-drop, append_assoc}
use Rattle.std.proofs.lemmas.List.{drop-drop, take-append-drop}
use Rattle.std.specs.Prelude.{slice_index}
use Rattle.std.specs.List.{range_with_len}
use Rattle.hex.specs.Hex.{encode_lower, encode_with, lower_digits}
use Rattle.program_text.specs.Lines.{text_of}
use Rattle.program_text.specs.Report.{row, byte_lines}

-- the bytes after the first row are fewer
pub fewer : (after rest : List ℕ) → 0 < length rest → after ≡ drop 32 rest → length after < length rest
fewer after rest some is = omega (arith, ap (λ (l : List ℕ). length l) is, length-drop 32 rest)

-- the digits of a list are those of its parts
pub digits_of_parts : (digits front back : List ℕ) → encode_with digits (front ++ back) ≡ encode_with digits front ++ encode_with digits back
unfolding encode_with
digits_of_parts digits [] back = refl
digits_of_parts digits (byte ∷ front) back = ap (λ (l : List ℕ). slice_index digits (byte / 16) ∷ slice_index digits (byte % 16) ∷ l) (digits_of_parts digits front back)

-- a row whose digits were pushed
pub digits_pushed : (out row_out row after rest whole : List ℕ) → row ≡ take 32 rest → after ≡ drop 32 rest → row_out ≡ out ++ encode_lower row → out ++ encode_lower rest ≡ whole → row_out ++ encode_lower after ≡ whole
digits_pushed out row_out row after rest whole row-is after-is row_out-is before =
    ap (λ (l : List ℕ). l ++ encode_lower after) row_out-is
    ∙ append_assoc out (encode_lower row) (encode_lower after)
    ∙ ap (λ (l : List ℕ). out ++ l) (sym (digits_of_parts lower_digits row after))
    ∙ ap (λ (l : List ℕ). out ++ encode_lower (l ++ after)) row-is
    ∙ ap (λ (l : List ℕ). out ++ encode_lower (take 32 rest ++ l)) after-is
    ∙ ap (λ (l : List ℕ). out ++ encode_lower l) (take-append-drop 32 rest)
    ∙ before

-- the rows of the rest are the later rows of the whole
rows_of_rest : (bytes : List ℕ) (from count : ℕ) → map (λ k. encode_lower (row (drop 32 bytes) k)) (range_with_len from count) ≡ map (λ k. encode_lower (row bytes k)) (range_with_len (from + 1) count)
rows_of_rest bytes from zero = refl
rows_of_rest bytes from (suc count) =
    let same : drop (32 * from) (drop 32 bytes) ≡ drop (32 * (from + 1)) bytes = drop-drop (32 * from) 32 bytes ∙ ap (λ n. drop n bytes) (omega arith) in
    ap (λ (l : List ℕ). encode_lower (take 32 l) ∷ map (λ k. encode_lower (row (drop 32 bytes) k)) (range_with_len (from + 1) count)) same
    ∙ ap (λ (ls : List (List ℕ)). encode_lower (row bytes (from + 1)) ∷ ls) (rows_of_rest bytes (from + 1) count)

-- n rows, of which there is a first
counted_rows : (bytes : List ℕ) (n m : ℕ) → n ≡ suc m → map (λ k. encode_lower (row bytes k)) (range_with_len 0 n) ≡ encode_lower (take 32 bytes) ∷ map (λ k. encode_lower (row (drop 32 bytes) k)) (range_with_len 0 m)
counted_rows bytes n m is =
    ap (λ k. map (λ k. encode_lower (row bytes k)) (range_with_len 0 k)) is
    ∙ ap (λ (ls : List (List ℕ)). encode_lower (take 32 bytes) ∷ ls) (sym (rows_of_rest bytes 0 m))

pub first_row : (bytes : List ℕ) → 0 < length bytes → byte_lines bytes ≡ encode_lower (take 32 bytes) ∷ byte_lines (drop 32 bytes)
first_row bytes some =
    counted_rows bytes ((length bytes + 31) / 32) ((length (drop 32 bytes) + 31) / 32) (omega (arith, length-drop 32 bytes))

-- a row that was pushed, with its line feed
pub row_pushed : (out row_out line_out row after rest whole : List ℕ) → 0 < length rest → row ≡ take 32 rest → after ≡ drop 32 rest → row_out ≡ out ++ encode_lower row → line_out ≡ row_out ++ 10 ∷ [] → out ++ text_of (byte_lines rest) ≡ whole → line_out ++ text_of (byte_lines after) ≡ whole
row_pushed out row_out line_out row after rest whole some row-is after-is row_out-is line_out-is before =
    ap (λ (l : List ℕ). l ++ text_of (byte_lines after)) (line_out-is ∙ ap (λ (l : List ℕ). l ++ 10 ∷ []) row_out-is)
    ∙ ap (λ (r : List ℕ). out ++ encode_lower r ++ 10 ∷ [] ++ text_of (byte_lines after)) row-is
    ∙ ap (λ (r : List ℕ). out ++ encode_lower (take 32 rest) ++ 10 ∷ [] ++ text_of (byte_lines r)) after-is
    ∙ grouped out (encode_lower (take 32 rest)) (10 ∷ []) (text_of (byte_lines (drop 32 rest)))
    ∙ ap (λ (ls : List (List ℕ)). out ++ text_of ls) (sym (first_row rest some))
    ∙ before
  where
    grouped : (a b c d : List ℕ) → a ++ b ++ c ++ d ≡ a ++ (b ++ c ++ d)
    grouped a b c d = append_assoc (a ++ b) c d ∙ append_assoc a b (c ++ d) ∙ ap (λ (l : List ℕ). a ++ l) (sym (append_assoc b c d))

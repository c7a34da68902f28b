-- Pieces of one size, one after another.
use Rattle.std.proofs.Common.{◌≡◌, ℕ, zero, suc, ◌+◌, ◌-◌, ◌*◌, ◌<◌, ◌≤◌, List, [], ◌++◌, length, take, drop, map, get_or, sym, ap, subst, ◌∙◌, arith}
use Rattle.std.specs.List.{All, flat_map, range_with_len, slice_get}
use Rattle.std.specs.Prelude.{Some}
use Rattle.std.proofs.Math.Nat.{mul-le-mul_left, mul-suc}
use Rattle.std.proofs.lemmas.List.{length-append, take_at, drop_at, drop-drop, length-map, get_or-map}
use Rattle.std.proofs.lemmas.List.Elements.{All-map, All-from_get_or}
use Rattle.std.proofs.lemmas.List.FromFn.{fill_by_all, length-range_with_len, get_or-range_with_len, length-map-range_with_len, get_or-map-range_with_len}
use Rattle.elf_format.specs.declared.index.Span.{Span}
use Rattle.elf_format.specs.Span.{IsInside, AreInside, span_bytes}
use Rattle.demo_input.specs.Generated.{piece_span}

module _ (f : ℕ → List ℕ) (w : ℕ) (size : (k : ℕ) → length (f k) ≡ w) where
  pub length_pieces : (a n : ℕ) → length (flat_map f (range_with_len a n)) ≡ w * n
  length_pieces a zero = omega arith
  length_pieces a (suc n) =
      let rest : length (flat_map f (range_with_len (a + 1) n)) ≡ w * n = length_pieces (a + 1) n in
      omega (arith, length-append (f a) (flat_map f (range_with_len (a + 1) n)), size a)

  pub piece_at : (a n k : ℕ) → k < n → take w (drop (w * k) (flat_map f (range_with_len a n))) ≡ f (a + k)
  piece_at a zero k below = absurd (omega arith)
  piece_at a (suc n) zero below =
      let xs : List ℕ = flat_map f (range_with_len (a + 1) n) in
      let start : w * 0 ≡ 0 = omega arith in
      let here : a ≡ a + 0 = omega arith in
      ap (λ i. take w (drop i (f a ++ xs))) start ∙ take_at (f a) xs w (size a) ∙ ap f here
  piece_at a (suc n) (suc k) below =
      let xs : List ℕ = flat_map f (range_with_len (a + 1) n) in
      let start : w * suc k ≡ w + w * k = omega (arith, mul-suc w k) in
      let skip : drop (w * suc k) (f a ++ xs) ≡ drop (w * k) xs = ap (λ i. drop i (f a ++ xs)) start ∙ sym (drop-drop (w * k) w (f a ++ xs)) ∙ ap (drop (w * k)) (drop_at (f a) xs w (size a)) in
      let here : a + 1 + k ≡ a + suc k = omega arith in
      ap (take w) skip ∙ piece_at (a + 1) n k (omega arith) ∙ ap f here

  pub span_is_piece : (n k : ℕ) → k < n → span_bytes (flat_map f (range_with_len 0 n)) (piece_span w k) ≡ f k
  span_is_piece n k below =
      let width : w * k + w - w * k ≡ w = omega arith in
      let here : 0 + k ≡ k = omega arith in
      ap (λ i. take i (drop (w * k) (flat_map f (range_with_len 0 n)))) width ∙ piece_at 0 n k below ∙ ap f here

  pub spans_are_pieces : (n : ℕ) → map (span_bytes (flat_map f (range_with_len 0 n))) (map (piece_span w) (range_with_len 0 n)) ≡ map f (range_with_len 0 n)
  spans_are_pieces n =
      let b : List ℕ = flat_map f (range_with_len 0 n) in
      let spans : List Span = map (piece_span w) (range_with_len 0 n) in
      let len : length spans ≡ n = length-map-range_with_len (piece_span w) 0 n in
      fill_by_all f (map (span_bytes b) spans) n [] (length-map spans (span_bytes b) ∙ len)
      (λ k below. get_or-map (span_bytes b) spans k (piece_span w k) [] (omega arith) ∙ ap (span_bytes b) (get_or-map-range_with_len (piece_span w) 0 n k k (piece_span w k) below (omega arith)) ∙ span_is_piece n k below)

-- what holds of each number below another
pub All-range : (P : ℕ → Type 0) (n : ℕ) → ((k : ℕ) → k < n → P k) → All P (range_with_len 0 n)
All-range P n each = All-from_get_or P (range_with_len 0 n) 0 (λ k below. at k (omega (arith, length-range_with_len 0 n)))
  where
    at : (k : ℕ) → k < n → P (get_or (range_with_len 0 n) k 0)
    at k below =
        let here : get_or (range_with_len 0 n) k 0 ≡ k = omega (arith, get_or-range_with_len 0 n k 0 below) in
        subst P (sym here) (each k below)

pub spans_are_inside : (w n : ℕ) (b : List ℕ) → length b ≡ w * n → AreInside (length b) (map (piece_span w) (range_with_len 0 n))
spans_are_inside w n b len =
    All-map (IsInside (length b)) (piece_span w) (range_with_len 0 n) (All-range (λ k. IsInside (length b) (piece_span w k)) n (λ k below. record { ordered = omega arith; below = fits k below }))
  where
    fits : (k : ℕ) → k < n → w * k + w ≤ length b
    fits k below = let le : w * (k + 1) ≤ w * n = mul-le-mul_left w (omega arith) in omega (arith, mul-suc w k)

pub slice_get-range : {X : Type 0} (f : ℕ → X) (a n k : ℕ) → k < n → slice_get (map f (range_with_len a n)) k ≡ Some (f (a + k))
slice_get-range f a zero k below = absurd (omega arith)
slice_get-range f a (suc n) zero below =
    let here : a ≡ a + 0 = omega arith in
    ap (λ i. Some (f i)) here
slice_get-range f a (suc n) (suc k) below =
    let here : a + 1 + k ≡ a + suc k = omega arith in
    slice_get-range f (a + 1) n k (omega arith) ∙ ap (λ i. Some (f i)) here

-- FDEs and FREs of a well-formed contribution.
use Rattle.std.proofs.Common.{◌≡◌, ℕ, ℤ, ◌+◌, ◌-◌, ◌<◌, ◌≤◌, List, length, take, drop, get_or, ap, ◌∙◌, arith}
use Rattle.std.specs.List.{All, range_with_len, slice_range}
use Rattle.std.specs.List.Sorted.{IsPermutation}
use Rattle.std.proofs.lemmas.List.{take-take, drop-take, drop-drop}
use Rattle.std.proofs.lemmas.List.FromFn.{get_or-range_with_len, length-range_with_len}
use Rattle.std.proofs.lemmas.List.Elements.{All-map, All-from_get_or}
use Rattle.std.proofs.lemmas.List.Sorted.{All-permutation}
use Rattle.sframe_format.specs.Contribution.{Contribution, Function, header, row_offset, row_offsets, fres_start}
use Rattle.sframe_format.specs.Valid.{IsWellFormedContribution}

-- the row offsets lie before the end, in whichever order
pub offsets_inside : (c : Contribution) (ys : List ℕ) → IsWellFormedContribution c → IsPermutation (row_offsets c) ys → All (λ x. x ≤ length c.bytes - fres_start c) ys
offsets_inside c ys sound moved =
    All-permutation (λ x. x ≤ length c.bytes - fres_start c) (row_offsets c) ys moved (All-map (λ x. x ≤ length c.bytes - fres_start c) (row_offset c) (range_with_len 0 (header c).num_fdes)
    (All-from_get_or (λ d. row_offset c d ≤ length c.bytes - fres_start c) (range_with_len 0 (header c).num_fdes) 0 (λ i b. at i (omega (arith, length-range_with_len 0 (header c).num_fdes)))))
  where
    at : (i : ℕ) → i < (header c).num_fdes → row_offset c (get_or (range_with_len 0 (header c).num_fdes) i 0) ≤ length c.bytes - fres_start c
    at i b = let e : get_or (range_with_len 0 (header c).num_fdes) i 0 ≡ i = get_or-range_with_len 0 (header c).num_fdes i 0 b ∙ omega arith in omega (arith, ap (row_offset c) e, sound.offsets i b)

-- a part of a part
pub range-range : (bs : List ℕ) (at end low high low' high' : ℕ) → at + low ≡ low' → at + high ≡ high' → low ≤ high → high' ≤ end → slice_range (slice_range bs at end) low high ≡ slice_range bs low' high'
range-range bs at end low high low' high' p q h k =
    let m = end - at - low in
    let split : end - at ≡ low + m = omega arith in
    ap (λ n. take (high - low) (drop low (take n (drop at bs)))) split
    ∙ ap (take (high - low)) (drop-take low m (drop at bs) ∙ ap (take m) (drop-drop low at bs))
    ∙ take-take (high - low) m (drop (at + low) bs) (omega arith)
    ∙ ap (λ n. take n (drop (at + low) bs)) (omega arith)
    ∙ ap (λ n. take (high' - low') (drop n bs)) p

pub same_function : {r1 r2 : ℤ} {s1 s2 i1 i2 w1 w2 : List ℕ} → r1 ≡ r2 → s1 ≡ s2 → i1 ≡ i2 → w1 ≡ w2
    → (let f : Function = record { start = r1; size = s1; info = i1; fres = w1 } in let g : Function = record { start = r2; size = s2; info = i2; fres = w2 } in f ≡ g)
same_function p q r s = cc

pub same_range : (bs : List ℕ) (a a' b b' : ℕ) → a ≡ a' → b ≡ b' → slice_range bs a b ≡ slice_range bs a' b'
same_range bs a a' b b' p q = cc

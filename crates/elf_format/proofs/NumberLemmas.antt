-- A number at an offset: it depends on its own bytes alone, and is what the other spellings of code and std give.
use Rattle.std.proofs.Common.{◌≡◌, ℕ, zero, suc, ◌+◌, ◌-◌, ◌*◌, ◌^◌, ◌<◌, ◌≤◌, List, take, drop, refl, ap, ◌∙◌, arith}
use Rattle.std.specs.Prelude.{slice_index, slice_range}
use Rattle.std.specs.Int.{w16, w32, from_le_bytes}
use Rattle.std.proofs.lemmas.List.{get_or-take, get_or-drop}
use Rattle.elf_format.specs.Bytes.{le, sum_below, u16_at, u32_at, u64_at}

at_itself : (at : ℕ) → at + 0 ≡ at
at_itself at = omega arith

pub u8_is_byte : (bytes : List ℕ) (at : ℕ) → le bytes at 1 ≡ slice_index bytes at
unfolding le
u8_is_byte bytes at = rw at_itself (omega arith)

pub u16_is_sum : (bytes : List ℕ) (at : ℕ) → u16_at bytes at ≡ slice_index bytes at + 256 * slice_index bytes (at + 1)
unfolding le
u16_is_sum bytes at = rw at_itself (omega arith)

pub u32_is_sum : (bytes : List ℕ) (at : ℕ) → u32_at bytes at ≡ slice_index bytes at + 256 * slice_index bytes (at + 1) + 65536 * slice_index bytes (at + 2) + 16777216 * slice_index bytes (at + 3)
unfolding le
u32_is_sum bytes at = rw at_itself (omega arith)

pub u64_is_sum : (bytes : List ℕ) (at : ℕ) → u64_at bytes at ≡ u32_at bytes at + 4294967296 * u32_at bytes (at + 4)
unfolding le
u64_is_sum bytes at =
    let e4 : at + 4 + 0 ≡ at + 4 = omega arith in
    let e5 : at + 4 + 1 ≡ at + 5 = omega arith in
    let e6 : at + 4 + 2 ≡ at + 6 = omega arith in
    let e7 : at + 4 + 3 ≡ at + 7 = omega arith in
    rw (at_itself, e4, e5, e6, e7) (omega arith)

-- a byte of a piece is a byte of the whole
byte_of_piece : (bytes : List ℕ) (at width i : ℕ) → i < width → slice_index (slice_range bytes at (at + width)) i ≡ slice_index bytes (at + i)
byte_of_piece bytes at width i below = get_or-take (at + width - at) (drop at bytes) i 0 (omega arith) ∙ get_or-drop at bytes i 0

pub u16_is_read : (bytes : List ℕ) (at : ℕ) → u16_at bytes at ≡ from_le_bytes w16 (slice_range bytes at (at + 2))
unfolding le
u16_is_read bytes at = rw (byte_of_piece bytes at 2 0 (omega arith), byte_of_piece bytes at 2 1 (omega arith)) (omega arith)

pub u32_is_read : (bytes : List ℕ) (at : ℕ) → u32_at bytes at ≡ from_le_bytes w32 (slice_range bytes at (at + 4))
unfolding le
u32_is_read bytes at = rw (byte_of_piece bytes at 4 0 (omega arith), byte_of_piece bytes at 4 1 (omega arith), byte_of_piece bytes at 4 2 (omega arith), byte_of_piece bytes at 4 3 (omega arith)) (omega arith)

sums_are_same : (f g : ℕ → ℕ) (n : ℕ) → ((i : ℕ) → i < n → f i ≡ g i) → sum_below f n ≡ sum_below g n
sums_are_same f g zero same = refl
sums_are_same f g (suc n) same = ap (λ x. x + f n) (sums_are_same f g n (λ i l. same i (omega arith))) ∙ ap (λ x. sum_below g n + x) (same n (omega arith))

-- where the bytes are the same, the number is
pub numbers_are_same : (a b : List ℕ) (p q width : ℕ) → ((i : ℕ) → i < width → slice_index a (p + i) ≡ slice_index b (q + i)) → le a p width ≡ le b q width
unfolding le
numbers_are_same a b p q width same =
    sums_are_same (λ i. slice_index a (p + i) * 256 ^ i) (λ i. slice_index b (q + i) * 256 ^ i) width (λ i l. ap (λ x. x * 256 ^ i) (same i l))

-- a number within a part of the bytes
pub number_in_part : (bytes : List ℕ) (from n at width : ℕ) → at + width ≤ n → le (take n (drop from bytes)) at width ≡ le bytes (from + at) width
number_in_part bytes from n at width fits =
    numbers_are_same (take n (drop from bytes)) bytes at (from + at) width
    (λ i l. get_or-take n (drop from bytes) (at + i) 0 (omega arith) ∙ get_or-drop from bytes (at + i) 0 ∙ ap (λ (k : ℕ). slice_index bytes k) (omega arith))

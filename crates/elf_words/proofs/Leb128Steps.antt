-- The steps of reading and writing LEB128.
use Rattle.std.proofs.Common.{◌≡◌, ℕ, suc, ◌+◌, ◌-◌, ◌*◌, ◌/◌, ◌%◌, ◌^◌, ◌<◌, ◌≤◌, List, [], ◌∷◌, ◌++◌, length, take, drop, get_or, Ok, Err, refl, ap, ◌∙◌, arith, lt-ltb, le-ltb, pow-suc, append_assoc, drop-cons, lit<, mul-le-mul_right}
use Rattle.std.proofs.Math.ListN.{set}
use Rattle.std.proofs.Math.Seq.{take-suc-set}
use Rattle.std.proofs.Math.Nat.{pow-le-pow_right}
use Rattle.elf_format.specs.declared.cursor.CursorError.TheVariants.{Short, TooLong}
use Rattle.elf_format.specs.Leb128.{continuing, group_sum, number_bytes, leb128_groups, groups_before}
use Rattle.elf_format.proofs.Leb128Lemmas.{continuing_last, continuing_more}

-- the number ends at a byte below 128
pub number_ends : (bytes : List ℕ) (i : ℕ) → i + continuing (drop i bytes) ≡ continuing bytes → i ≤ 9 → i < length bytes → get_or bytes i 0 < 128 → number_bytes bytes ≡ Ok (take (i + 1) bytes, drop (i + 1) bytes)
unfolding number_bytes
number_ends bytes i kept small lt low =
    let z : continuing (drop i bytes) ≡ 0 = ap continuing (drop-cons bytes i 0 lt) ∙ continuing_last (get_or bytes i 0) (drop (suc i) bytes) low in
    let e : continuing bytes ≡ i = omega arith in
    let one : i + 1 ≡ suc i = omega arith in
    rw (e, one, le-ltb 9 i small, lt-ltb i (length bytes) lt) refl

-- it goes on at another
pub number_goes_on : (bytes : List ℕ) (i : ℕ) → i < length bytes → 128 ≤ get_or bytes i 0 → continuing (drop i bytes) ≡ suc (continuing (drop (i + 1) bytes))
number_goes_on bytes i lt high = ap continuing (drop-cons bytes i 0 lt) ∙ continuing_more (get_or bytes i 0) (drop (suc i) bytes) high ∙ (let one : i + 1 ≡ suc i = omega arith in rw one refl)

pub number_too_long : (bytes : List ℕ) → 9 < continuing bytes → number_bytes bytes ≡ Err TooLong
unfolding number_bytes
number_too_long bytes h = rw (lt-ltb 9 (continuing bytes) h) refl

pub number_short : (bytes : List ℕ) → continuing bytes ≤ 9 → length bytes ≤ continuing bytes → number_bytes bytes ≡ Err Short
unfolding number_bytes
number_short bytes h k = rw (le-ltb 9 (continuing bytes) h, le-ltb (continuing bytes) (length bytes) k) refl

pub sum_goes_on : (bytes : List ℕ) (i : ℕ) → i < length bytes → group_sum (drop i bytes) ≡ get_or bytes i 0 % 128 + 128 * group_sum (drop (i + 1) bytes)
sum_goes_on bytes i lt = ap group_sum (drop-cons bytes i 0 lt) ∙ (let one : i + 1 ≡ suc i = omega arith in rw one refl)

pub scale_small : (i : ℕ) → i ≤ 10 → 128 ^ i ≤ 2 ^ 70
scale_small i h = let p : 0 < 128 = lit< tt in pow-le-pow_right p h

pub digit_small : (d scale : ℕ) → d < 128 → d * scale ≤ 127 * scale
digit_small d scale h = mul-le-mul_right scale (omega arith)

pub sum_step : (sum d scale group rest whole : ℕ) → sum + group * scale ≡ whole → group ≡ d + 128 * rest → sum + d * scale + rest * (scale * 128) ≡ whole
sum_step sum d scale group rest whole h e = let k : sum + (d + 128 * rest) * scale ≡ whole = rw (← e) h in omega arith

pub scale_step : (scale i : ℕ) → scale ≡ 128 ^ i → scale * 128 ≡ 128 ^ (i + 1)
scale_step scale i h = let one : i + 1 ≡ suc i = omega arith in rw (one, pow-suc, h) refl

pub group_put : (bytes : List ℕ) (i count rest : ℕ) (whole : List ℕ) → take i bytes ++ leb128_groups (count - i) rest ≡ whole → i < count → i < length bytes
    → take (i + 1) (set bytes i (128 + rest % 128)) ++ leb128_groups (count - (i + 1)) (rest / 128) ≡ whole
group_put bytes i count rest whole kept lt room =
    let one : i + 1 ≡ suc i = omega arith in
    let left : count - i ≡ suc (count - (i + 1)) = omega arith in
    let t : take (i + 1) (set bytes i (128 + rest % 128)) ≡ take i bytes ++ (128 + rest % 128) ∷ [] = rw one (take-suc-set bytes i (128 + rest % 128) room) in
    rw (t, append_assoc) (rw left at kept)

pub count_step : (most count rest whole : ℕ) → count + groups_before (most - count) rest ≡ whole → count < most → 128 ≤ rest → count + 1 + groups_before (most - (count + 1)) (rest / 128) ≡ whole
count_step most count rest whole kept lt high =
    let left : most - count ≡ suc (most - (count + 1)) = omega arith in
    let e : groups_before (most - count) rest ≡ suc (groups_before (most - (count + 1)) (rest / 128)) = rw (left, le-ltb rest 128 high) refl in
    omega arith

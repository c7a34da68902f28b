-- What is written in LEB128 is read again, whatever follows it.
use Rattle.std.proofs.Common.{◌≡◌, ℕ, zero, suc, ◌+◌, ◌-◌, ◌*◌, ◌/◌, ◌%◌, ◌^◌, ◌<◌, ◌≤◌, Bool, true, false, ltb, cond, ℤ, pos, negsuc, List, [], ◌∷◌, ◌++◌, length, take, drop, length-append, Ok, refl, ap, ◌∙◌, arith, lit<, lt-ltb, le-ltb, ltb-true, ltb-false, pow-suc}
use Rattle.std.proofs.lemmas.List.{take_at, drop_at}
use Rattle.elf_format.specs.Leb128.{continuing, group_sum, signed_below, signed_sum, number_bytes, unsigned_number, signed_number, is_i64, uleb128, sleb128, leb128_groups, groups_before, uleb128_size, uleb128_form, sleb128_form, magnitude, signed_groups_before, unsigned_below}
use Rattle.elf_format.specs.Chain.{◌>>=◌}

pub continuing_last : (b : ℕ) (bytes : List ℕ) → b < 128 → continuing (b ∷ bytes) ≡ 0
continuing_last b bytes h = rw (lt-ltb b 128 h) refl

pub continuing_more : (b : ℕ) (bytes : List ℕ) → 128 ≤ b → continuing (b ∷ bytes) ≡ suc (continuing bytes)
continuing_more b bytes h = rw (le-ltb b 128 h) refl

pub continuing_groups : (more n : ℕ) (rest : List ℕ) → continuing (leb128_groups more n ++ rest) ≡ more
continuing_groups zero n rest = continuing_last (n % 128) rest (omega arith)
continuing_groups (suc more) n rest = continuing_more (128 + n % 128) (leb128_groups more (n / 128) ++ rest) (omega arith) ∙ ap suc (continuing_groups more (n / 128) rest)

pub length_groups : (more n : ℕ) → length (leb128_groups more n) ≡ suc more
length_groups zero n = refl
length_groups (suc more) n = ap suc (length_groups more (n / 128))

scale_step : (more n : ℕ) → n < 128 ^ suc (suc more) → n / 128 < 128 ^ suc more
scale_step more n h = let e : 128 ^ suc (suc more) ≡ 128 ^ suc more * 128 = pow-suc 128 (suc more) in omega arith

scale_back : (more n : ℕ) → n / 128 < 128 ^ suc more → n < 128 ^ suc (suc more)
scale_back more n h = let e : 128 ^ suc (suc more) ≡ 128 ^ suc more * 128 = pow-suc 128 (suc more) in omega arith

pub sum_groups : (more n : ℕ) → n < 128 ^ suc more → group_sum (leb128_groups more n) ≡ n
sum_groups zero n h = omega arith
sum_groups (suc more) n h = let e : group_sum (leb128_groups more (n / 128)) ≡ n / 128 = sum_groups more (n / 128) (scale_step more n h) in omega arith

pub groups_enough : (most n : ℕ) → n < 128 ^ suc most → n < 128 ^ suc (groups_before most n)
groups_enough zero n h = h
groups_enough (suc most) n h =
    let P : Bool → Type 0 = λ b. n < 128 ^ suc (cond b 0 (suc (groups_before most (n / 128)))) in
    elim (ltb n 128) as (λ b. ltb n 128 ≡ b → P b) [
      | true ↦ λ e. ltb-true n 128 e
      | false ↦ λ e. scale_back (groups_before most (n / 128)) n (groups_enough most (n / 128) (scale_step most n h))
    ] refl

pub groups_at_most : (most n : ℕ) → groups_before most n ≤ most
groups_at_most zero n = omega arith
groups_at_most (suc most) n =
    elim (ltb n 128) as (λ b. cond b 0 (suc (groups_before most (n / 128))) ≤ suc most) [
      | true ↦ omega arith
      | false ↦ omega (arith, groups_at_most most (n / 128))
    ]

number_at : (bytes form rest : List ℕ) (more : ℕ) → continuing bytes ≡ more → more ≤ 9 → length form ≡ suc more → bytes ≡ form ++ rest → more < length bytes → number_bytes bytes ≡ Ok (form, rest)
unfolding number_bytes
number_at bytes form rest more e small len parts room =
    let t : take (suc more) bytes ≡ form = rw parts (take_at form rest (suc more) len) in
    let d : drop (suc more) bytes ≡ rest = rw parts (drop_at form rest (suc more) len) in
    rw (e, le-ltb 9 more small, lt-ltb more (length bytes) room, t, d) refl

pub number_again : (more n : ℕ) (rest : List ℕ) → more ≤ 9 → number_bytes (leb128_groups more n ++ rest) ≡ Ok (leb128_groups more n, rest)
number_again more n rest h =
    number_at (leb128_groups more n ++ rest) (leb128_groups more n) rest more (continuing_groups more n rest) h (length_groups more n) refl
    (omega (arith, length-append (leb128_groups more n) rest, length_groups more n))

unsigned_of : (form rest : List ℕ) (n : ℕ) → group_sum form ≡ n → n < 2 ^ 64 → unsigned_number (form, rest) ≡ Ok (n, rest)
unsigned_of form rest n e h = rw (e, lt-ltb n (2 ^ 64) h) refl

pub uleb128_again : (n : ℕ) (rest : List ℕ) → n < 2 ^ 64 → uleb128 (uleb128_form n ++ rest) ≡ Ok (n, rest)
unfolding uleb128 uleb128_form
uleb128_again n rest h =
    let fits : n < 128 ^ 10 = omega arith in
    ap (λ r. r >>= unsigned_number) (number_again (groups_before 9 n) n rest (groups_at_most 9 n))
    ∙ unsigned_of (leb128_groups (groups_before 9 n) n) rest n (sum_groups (groups_before 9 n) n (groups_enough 9 n fits)) h

-- in two's complement, a number below half the scale is read again

signed_again : (z : ℤ) (half : ℕ) → magnitude z < half → signed_below (unsigned_below z (2 * half)) (2 * half) ≡ z
signed_again (pos n) half h = rw (lt-ltb (2 * n) (2 * half) (omega arith)) refl
signed_again (negsuc n) half h =
    let low : 2 * half ≤ 2 * (2 * half - suc n) = omega arith in
    let e : 2 * half - suc (2 * half - suc n) ≡ n = omega arith in
    rw (le-ltb (2 * (2 * half - suc n)) (2 * half) low, e) refl

unsigned_small : (z : ℤ) (half : ℕ) → magnitude z < half → unsigned_below z (2 * half) < 2 * half
unsigned_small (pos n) half h = omega arith
unsigned_small (negsuc n) half h = omega arith

is_i64_of : (z : ℤ) → magnitude z < 2 ^ 63 → is_i64 z ≡ true
is_i64_of (pos n) h = lt-ltb n (2 ^ 63) h
is_i64_of (negsuc n) h = lt-ltb n (2 ^ 63) h

signed_of : (form rest : List ℕ) (z : ℤ) → signed_sum form ≡ z → magnitude z < 2 ^ 63 → signed_number (form, rest) ≡ Ok (z, rest)
signed_of form rest z e h = rw (e, is_i64_of z h) refl

-- a scale of groups is even
half_scale : (more : ℕ) → (half : ℕ) × (128 ^ suc more ≡ 2 * half)
half_scale more = let e : 128 ^ suc more ≡ 128 ^ more * 128 = pow-suc 128 more in (64 * 128 ^ more, omega arith)

signed_groups : (z : ℤ) (more scale half : ℕ) → scale ≡ 128 ^ suc more → scale ≡ 2 * half → magnitude z < half → signed_sum (leb128_groups more (unsigned_below z scale)) ≡ z
signed_groups z more scale half e f h =
    let small : unsigned_below z scale < 128 ^ suc more = rw (← e) (rw f (unsigned_small z half h)) in
    rw (sum_groups more (unsigned_below z scale) small, length_groups more (unsigned_below z scale), ← e, f) (signed_again z half h)

pub sleb128_again : (z : ℤ) (rest : List ℕ) → magnitude z < 2 ^ 63 → sleb128 (sleb128_form z ++ rest) ≡ Ok (z, rest)
unfolding sleb128 sleb128_form
sleb128_again z rest h =
    let more : ℕ = signed_groups_before z in
    let fits : 2 * magnitude z < 128 ^ 10 = omega arith in
    let enough : 2 * magnitude z < 128 ^ suc (signed_groups_before z) = groups_enough 9 (2 * magnitude z) fits in
    let half = half_scale (signed_groups_before z) in
    let scale : ℕ = 128 ^ suc (signed_groups_before z) in
    ap (λ r. r >>= signed_number) (number_again (signed_groups_before z) (unsigned_below z (128 ^ suc (signed_groups_before z))) rest (groups_at_most 9 (2 * magnitude z)))
    ∙ signed_of _ rest z (signed_groups z (signed_groups_before z) (128 ^ suc (signed_groups_before z)) half.0 refl half.1 (omega (arith, half.1, enough))) h

-- no form is shorter

sum_below_scale : (form : List ℕ) → group_sum form < 128 ^ length form
sum_below_scale [] = lit< tt
sum_below_scale (b ∷ bytes) = let e : 128 ^ suc (length bytes) ≡ 128 ^ length bytes * 128 = pow-suc 128 (length bytes) in omega (arith, sum_below_scale bytes)

groups_least : (most n k : ℕ) → n < 128 ^ suc k → groups_before most n ≤ k
groups_least zero n k h = omega arith
groups_least (suc most) n zero h = rw (lt-ltb n 128 (omega arith)) (omega arith)
groups_least (suc most) n (suc k) h =
    elim (ltb n 128) as (λ b. cond b 0 (suc (groups_before most (n / 128))) ≤ suc k) [
      | true ↦ omega arith
      | false ↦ omega (arith, groups_least most (n / 128) k (scale_step k n h))
    ]

pub uleb128_shortest : (b : ℕ) (bytes : List ℕ) → uleb128_size (group_sum (b ∷ bytes)) ≤ length (b ∷ bytes)
unfolding uleb128_size
uleb128_shortest b bytes = omega (arith, groups_least 9 (group_sum (b ∷ bytes)) (length bytes) (sum_below_scale (b ∷ bytes)))

signed_magnitude : (sum scale : ℕ) → sum < scale → 2 * magnitude (signed_below sum scale) < scale
signed_magnitude sum scale h =
    elim (ltb (2 * sum) scale) as (λ c. ltb (2 * sum) scale ≡ c → 2 * magnitude (cond c (pos sum) (negsuc (scale - suc sum))) < scale) [
      | true ↦ λ e. ltb-true (2 * sum) scale e
      | false ↦ λ e. omega (arith, ltb-false (2 * sum) scale e)
    ] refl

pub sleb128_shortest : (b : ℕ) (bytes : List ℕ) → suc (signed_groups_before (signed_sum (b ∷ bytes))) ≤ length (b ∷ bytes)
sleb128_shortest b bytes =
    omega (arith, groups_least 9 (2 * magnitude (signed_sum (b ∷ bytes))) (length bytes) (signed_magnitude (group_sum (b ∷ bytes)) (128 ^ length (b ∷ bytes)) (sum_below_scale (b ∷ bytes))))

-- A span of records is the records of a span of bytes.
use Rattle.std.proofs.Common.{◌≡◌, ℕ, zero, suc, ◌+◌, ◌-◌, ◌*◌, ◌/◌, ◌<◌, ◌≤◌, List, [], ◌∷◌, length, map, take, drop, refl, ap, sym, ◌∙◌, arith, mul_comm, mul-div_cancel, mul-le-mul_left}
use Rattle.std.proofs.Math.Nat.{mul-div-le}
use Rattle.std.specs.Prelude.{Option, Some, option_map, slice_get, slice_range}
use Rattle.std.proofs.lemmas.List.{drop-drop, drop-take, take-take, length-map}
use Rattle.elf_format.specs.Bytes.{records, whole_records}
use Rattle.elf_format.proofs.RecordLemmas.{length_records}

whole_div : (size n : ℕ) → 0 < size → size * n / size ≡ n
whole_div size n h = rw (mul_comm size n) (mul-div_cancel n h)

pub records_take : (size n : ℕ) (xs : List ℕ) → records size n (take (size * n) xs) ≡ records size n xs
records_take size zero xs = refl
records_take size (suc n) xs =
    let e : size * suc n ≡ size + size * n = omega arith in
    let t : take size (take (size * suc n) xs) ≡ take size xs = take-take size (size * suc n) xs (omega (arith, e)) in
    let d : drop size (take (size * suc n) xs) ≡ take (size * n) (drop size xs) = rw e (drop-take size (size * n) xs) in
    rw (t, d, records_take size n (drop size xs)) refl

pub records_drop : (size k n : ℕ) (xs : List ℕ) → records size n (drop (size * k) xs) ≡ drop k (records size (k + n) xs)
records_drop size zero n xs = let e : size * 0 ≡ 0 = omega arith in let z : 0 + n ≡ n = omega arith in rw (e, z) refl
records_drop size (suc k) n xs =
    let e : size * suc k ≡ size + size * k = omega arith in
    let s : suc k + n ≡ suc (k + n) = omega arith in
    let d : drop (size * suc k) xs ≡ drop (size * k) (drop size xs) = rw (e, drop-drop) refl in
    rw (d, s) (records_drop size k n (drop size xs))

pub records_front : (size m n : ℕ) (xs : List ℕ) → take m (records size (m + n) xs) ≡ records size m xs
records_front size zero n xs = refl
records_front size (suc m) n xs =
    let s : suc m + n ≡ suc (m + n) = omega arith in
    rw s (ap (λ ys. take size xs ∷ ys) (records_front size m n (drop size xs)))

-- from the record at `start` on, so many of `count`
pub span_records : (size count start len : ℕ) (xs : List ℕ) → start + len ≤ count → records size len (take (size * len) (drop (size * start) xs)) ≡ take len (drop start (records size count xs))
span_records size count start len xs h =
    let e : start + (len + (count - start - len)) ≡ count = omega arith in
    records_take size len (drop (size * start) xs)
    ∙ sym (records_front size len (count - start - len) (drop (size * start) xs))
    ∙ ap (take len) (records_drop size start (len + (count - start - len)) xs ∙ ap (λ n. drop start (records size n xs)) e)

map_take : {X Y : Type 0} (f : X → Y) (n : ℕ) (xs : List X) → map f (take n xs) ≡ take n (map f xs)
map_take f zero xs = refl
map_take f (suc n) [] = refl
map_take f (suc n) (x ∷ xs) = ap (λ ys. f x ∷ ys) (map_take f n xs)

map_drop : {X Y : Type 0} (f : X → Y) (n : ℕ) (xs : List X) → map f (drop n xs) ≡ drop n (map f xs)
map_drop f zero xs = refl
map_drop f (suc n) [] = refl
map_drop f (suc n) (x ∷ xs) = map_drop f n xs

-- whole records of a span of bytes
pub span_entries : {Y : Type 0} (f : List ℕ → Y) (size start stop : ℕ) (bytes part : List ℕ) → 0 < size → start ≤ stop → stop ≤ length bytes / size
    → part ≡ take (size * (stop - start)) (drop (size * start) bytes) → length part ≡ size * (stop - start)
    → map f (whole_records size part) ≡ take (stop - start) (drop start (map f (whole_records size bytes)))
span_entries f size start stop bytes part some order within is len =
    let n : length part / size ≡ stop - start = rw len (whole_div size (stop - start) some) in
    rw n (rw is (ap (map f) (span_records size (length bytes / size) start (stop - start) bytes (omega arith)) ∙ map_take f (stop - start) _ ∙ ap (take (stop - start)) (map_drop f start _)))

slice_get_map : {X Y : Type 0} (f : X → Y) (xs : List X) (i : ℕ) → slice_get (map f xs) i ≡ option_map f (slice_get xs i)
slice_get_map f [] i = refl
slice_get_map f (x ∷ xs) zero = refl
slice_get_map f (x ∷ xs) (suc i) = slice_get_map f xs i

pub entry_at : {R Y : Type 0} (contents : R → List ℕ) (f : List ℕ → Y) (size size2 : ℕ) (bytes : List ℕ) (i : ℕ) (r : R) (e : Y) (recs : List (List ℕ)) (got : Option R)
    → recs ≡ whole_records size bytes → size ≡ size2 → option_map contents got ≡ slice_get recs i → got ≡ Some r → e ≡ f (contents r)
    → Some e ≡ slice_get (map f (whole_records size2 bytes)) i
entry_at contents f size size2 bytes i r e recs got a b g was h =
    rw (slice_get_map f (whole_records size2 bytes) i, ← b, ← a, ← g, was, h) refl

-- so many records end within the bytes
pub span_fits : (size stop len : ℕ) → stop ≤ len / size → size * stop ≤ len
span_fits size stop len h =
    let a : size * stop ≤ size * (len / size) = mul-le-mul_left size h in
    let b : size * (len / size) ≤ len = mul-div-le len size in
    omega arith

pub entries_end : {Y : Type 0} (f : List ℕ → Y) (size stop : ℕ) (bytes : List ℕ) → stop ≤ length (map f (whole_records size bytes)) → stop ≤ length bytes / size
entries_end f size stop bytes h = rw (length-map, length_records) at h

pub map_range : {X Y : Type 0} (f : X → Y) (xs : List X) (start stop : ℕ) → map f (slice_range xs start stop) ≡ slice_range (map f xs) start stop
map_range f xs start stop = map_take f (stop - start) (drop start xs) ∙ ap (take (stop - start)) (map_drop f start xs)

-- Names are ordered by their first 32 bytes, read as four numbers, and by all their bytes where these are the same.
use Rattle.std.proofs.Common.{◌≡◌, ◌≢◌, ℕ, zero, suc, ◌+◌, ◌-◌, ◌*◌, ◌^◌, ◌<◌, ◌≤◌, List, [], ◌∷◌, ◌++◌, length, take, drop, replicate, get_or, refl, sym, ◌∙◌, ap, subst, arith, pow-suc}
use Rattle.std.specs.Int.{w64, from_be_bytes}
use Rattle.std.specs.List.{All}
use Rattle.std.specs.Ordering.{nat_cmp, ordering_then, MatchOrdering}
use Rattle.std.specs.Cmp.{nat_cmp_is}
use Rattle.std.specs.Cmp.Lexicographic.{slice_cmp}
use Rattle.std.specs.declared.cmp.Ordering.{Ordering}
use Rattle.std.specs.declared.cmp.Ordering.TheVariants.{Less, Equal, Greater}
use Rattle.std.proofs.lemmas.Cmp.{ranked}
use Rattle.std.proofs.lemmas.Nat.{mul-le}
use Rattle.std.proofs.lemmas.List.{length-drop, length-take, drop-drop, drop_all}
use Rattle.std.proofs.lemmas.List.Elements.{All-nil, All-cons, All-head, All-tail, All-take, All-drop}
use Rattle.gdb_index.specs.steps.NamePrefix.{padded, eight_at}

-- ---- the first bytes, with zeros after the end, order as the lists do

abbrev compared : List ℕ → List ℕ → Ordering
compared = slice_cmp nat_cmp

first_less : (y : ℕ) (o : Ordering) → ordering_then o Less ≡ Less → ordering_then (ordering_then (nat_cmp 0 y) o) Less ≡ Less
first_less zero o h = h
first_less (suc m) o h = subst (λ r. ordering_then (ordering_then r o) Less ≡ Less) (nat_cmp_is 0 (suc m) Less (omega arith)) refl

first_greater : (x : ℕ) (o : Ordering) → ordering_then o Greater ≡ Greater → ordering_then (ordering_then (nat_cmp x 0) o) Greater ≡ Greater
first_greater zero o h = h
first_greater (suc m) o h = subst (λ r. ordering_then (ordering_then r o) Greater ≡ Greater) (nat_cmp_is (suc m) 0 Greater (omega arith)) refl

zeros_before : (n : ℕ) (ys : List ℕ) → ordering_then (compared (padded n []) (padded n ys)) Less ≡ Less
unfolding padded
zeros_before zero ys = refl
zeros_before (suc n) [] = first_less 0 _ (zeros_before n [])
zeros_before (suc n) (y ∷ ys) = first_less y _ (zeros_before n ys)

zeros_after : (n : ℕ) (xs : List ℕ) → ordering_then (compared (padded n xs) (padded n [])) Greater ≡ Greater
unfolding padded
zeros_after zero xs = refl
zeros_after (suc n) [] = first_greater 0 _ (zeros_after n [])
zeros_after (suc n) (x ∷ xs) = first_greater x _ (zeros_after n xs)

both_first : (o p q : Ordering) → ordering_then p q ≡ q → ordering_then (ordering_then o p) (ordering_then o q) ≡ ordering_then o q
both_first Less p q h = refl
both_first Equal p q h = h
both_first Greater p q h = refl

first_decides : (n : ℕ) (xs ys : List ℕ) → ordering_then (compared (padded n xs) (padded n ys)) (compared xs ys) ≡ compared xs ys
unfolding padded
first_decides zero xs ys = refl
first_decides (suc n) [] [] = first_decides n [] []
first_decides (suc n) [] (y ∷ ys) = first_less y _ (zeros_before n ys)
first_decides (suc n) (x ∷ xs) [] = first_greater x _ (zeros_after n xs)
first_decides (suc n) (x ∷ xs) (y ∷ ys) = both_first (nat_cmp x y) _ _ (first_decides n xs ys)

pub length_padded : (n : ℕ) (xs : List ℕ) → length (padded n xs) ≡ n
unfolding padded
length_padded zero xs = refl
length_padded (suc n) [] = ap (λ k. suc k) (length_padded n [])
length_padded (suc n) (x ∷ xs) = ap (λ k. suc k) (length_padded n xs)

-- a short list copied into zeros, and the start of a long one
pub short_is_padded : (m : ℕ) (xs : List ℕ) → length xs ≤ m → xs ++ drop (length xs) (replicate m 0) ≡ padded m xs
unfolding padded
short_is_padded zero [] fits = refl
short_is_padded zero (x ∷ xs) fits = absurd (omega (arith, fits))
short_is_padded (suc m) [] fits = ap (λ l. 0 ∷ l) (short_is_padded m [] (omega arith))
short_is_padded (suc m) (x ∷ xs) fits = ap (λ l. x ∷ l) (short_is_padded m xs (omega (arith, fits)))

pub long_is_padded : (m : ℕ) (xs : List ℕ) → m ≤ length xs → take m xs ≡ padded m xs
unfolding padded
long_is_padded zero xs fits = refl
long_is_padded (suc m) [] fits = absurd (omega (arith, fits))
long_is_padded (suc m) (x ∷ xs) fits = ap (λ l. x ∷ l) (long_is_padded m xs (omega (arith, fits)))

-- ---- a list is compared piece by piece

then_assoc : (o p q : Ordering) → ordering_then o (ordering_then p q) ≡ ordering_then (ordering_then o p) q
then_assoc Less p q = refl
then_assoc Equal p q = refl
then_assoc Greater p q = refl

in_pieces : (k : ℕ) (xs ys : List ℕ) → compared xs ys ≡ ordering_then (compared (take k xs) (take k ys)) (compared (drop k xs) (drop k ys))
in_pieces zero xs ys = refl
in_pieces (suc k) [] [] = refl
in_pieces (suc k) [] (y ∷ ys) = refl
in_pieces (suc k) (x ∷ xs) [] = refl
in_pieces (suc k) (x ∷ xs) (y ∷ ys) = ap (λ o. ordering_then (nat_cmp x y) o) (in_pieces k xs ys) ∙ then_assoc (nat_cmp x y) _ _

-- ---- numbers of as many bytes order as the bytes do

abbrev value : List ℕ → ℕ
value [] = 0
value (x ∷ xs) = x * 256 ^ length xs + value xs

below_power : (x v b : ℕ) → x < 256 → v < b → x * b + v < b * 256
below_power x v b small below = omega (arith, mul-le (x + 1) b 256 b (omega arith) (omega arith))

value_below : (xs : List ℕ) → All (λ b. b < 256) xs → value xs < 256 ^ length xs
value_below [] small = omega arith
value_below (x ∷ xs) small =
    rw pow-suc (below_power x (value xs) (256 ^ length xs) (All-head (λ b. b < 256) x xs small) (value_below xs (All-tail (λ b. b < 256) x xs small)))

shifted : (a v w : ℕ) → nat_cmp v w ≡ nat_cmp (a + v) (a + w)
shifted a v w = nat_cmp_is (a + v) (a + w) (nat_cmp v w) (moved (nat_cmp v w) (ranked v w (nat_cmp v w) refl))
  where
    moved : (o : Ordering) → MatchOrdering o (v < w) (v ≡ w) (w < v) → MatchOrdering o (a + v < a + w) (a + v ≡ a + w) (a + w < a + v)
    moved Less h = omega (arith, h)
    moved Equal h = omega (arith, h)
    moved Greater h = omega (arith, h)

digit_below : (x y v w b : ℕ) → v < b → x < y → x * b + v < y * b + w
digit_below x y v w b below less = omega (arith, mul-le (x + 1) b y b (omega arith) (omega arith))

digit_first : (x y v w b : ℕ) → v < b → w < b → ordering_then (nat_cmp x y) (nat_cmp v w) ≡ nat_cmp (x * b + v) (y * b + w)
digit_first x y v w b p q = by (nat_cmp x y) (ranked x y (nat_cmp x y) refl)
  where
    by : (o : Ordering) → MatchOrdering o (x < y) (x ≡ y) (y < x) → ordering_then o (nat_cmp v w) ≡ nat_cmp (x * b + v) (y * b + w)
    by Less h = nat_cmp_is (x * b + v) (y * b + w) Less (digit_below x y v w b p h)
    by Equal h = shifted (x * b) v w ∙ ap (λ k. nat_cmp (x * b + v) (k * b + w)) h
    by Greater h = nat_cmp_is (x * b + v) (y * b + w) Greater (digit_below y x w v b q h)

values_order : (xs ys : List ℕ) → length xs ≡ length ys → All (λ b. b < 256) xs → All (λ b. b < 256) ys → compared xs ys ≡ nat_cmp (value xs) (value ys)
values_order [] [] same p q = refl
values_order [] (y ∷ ys) same p q = absurd (omega (arith, same))
values_order (x ∷ xs) [] same p q = absurd (omega (arith, same))
values_order (x ∷ xs) (y ∷ ys) same p q =
    let long : length xs ≡ length ys = omega (arith, same) in
    let p' = All-tail (λ b. b < 256) x xs p in
    let q' = All-tail (λ b. b < 256) y ys q in
    let low : value ys < 256 ^ length xs = subst (λ n. value ys < 256 ^ n) (sym long) (value_below ys q') in
    ap (λ o. ordering_then (nat_cmp x y) o) (values_order xs ys long p' q')
    ∙ digit_first x y (value xs) (value ys) (256 ^ length xs) (value_below xs p') low
    ∙ ap (λ n. nat_cmp (x * 256 ^ length xs + value xs) (y * 256 ^ n + value ys)) long

eight_is : (bs : List ℕ) → length bs ≡ 8 → value bs ≡ from_be_bytes w64 bs
eight_is [] same = absurd (omega (arith, same))
eight_is (a ∷ []) same = absurd (omega (arith, same))
eight_is (a ∷ b ∷ []) same = absurd (omega (arith, same))
eight_is (a ∷ b ∷ c ∷ []) same = absurd (omega (arith, same))
eight_is (a ∷ b ∷ c ∷ d ∷ []) same = absurd (omega (arith, same))
eight_is (a ∷ b ∷ c ∷ d ∷ e ∷ []) same = absurd (omega (arith, same))
eight_is (a ∷ b ∷ c ∷ d ∷ e ∷ f ∷ []) same = absurd (omega (arith, same))
eight_is (a ∷ b ∷ c ∷ d ∷ e ∷ f ∷ g ∷ []) same = absurd (omega (arith, same))
eight_is (a ∷ b ∷ c ∷ d ∷ e ∷ f ∷ g ∷ h ∷ []) same = omega arith
eight_is (a ∷ b ∷ c ∷ d ∷ e ∷ f ∷ g ∷ h ∷ i ∷ rest) same = absurd (omega (arith, same))

-- ---- the first 32 bytes as four numbers

abbrev AreBytes : List ℕ → Type 0
AreBytes = All (λ b. b < 256)

eight_long : (p : List ℕ) (at : ℕ) → at + 8 ≤ length p → length (take 8 (drop at p)) ≡ 8
eight_long p at fits = grind (arith, length-take, length-drop)

eight_value : (p : List ℕ) (at : ℕ) → at + 8 ≤ length p → value (take 8 (drop at p)) ≡ eight_at p at
unfolding eight_at
eight_value p at fits =
    let same : 8 ≡ at + 8 - at = omega arith in
    eight_is (take 8 (drop at p)) (eight_long p at fits) ∙ ap (λ (n : ℕ). from_be_bytes w64 (take n (drop at p))) same

-- the bytes from an offset on are compared by the number of the first eight of them, and then by the others
by_eight : (p q : List ℕ) (at : ℕ) → at + 8 ≤ length p → at + 8 ≤ length q → AreBytes p → AreBytes q
    → compared (drop at p) (drop at q) ≡ ordering_then (nat_cmp (eight_at p at) (eight_at q at)) (compared (drop (at + 8) p) (drop (at + 8) q))
by_eight p q at long_p long_q small_p small_q =
    let same : length (take 8 (drop at p)) ≡ length (take 8 (drop at q)) = eight_long p at long_p ∙ sym (eight_long q at long_q) in
    let bytes_p = All-take (λ b. b < 256) 8 (drop at p) (All-drop (λ b. b < 256) at p small_p) in
    let bytes_q = All-take (λ b. b < 256) 8 (drop at q) (All-drop (λ b. b < 256) at q small_q) in
    in_pieces 8 (drop at p) (drop at q)
    ∙ ap (λ o. ordering_then o (compared (drop 8 (drop at p)) (drop 8 (drop at q)))) (values_order (take 8 (drop at p)) (take 8 (drop at q)) same bytes_p bytes_q)
    ∙ ap (λ (n : ℕ). ordering_then (nat_cmp n (value (take 8 (drop at q)))) (compared (drop 8 (drop at p)) (drop 8 (drop at q)))) (eight_value p at long_p)
    ∙ ap (λ (n : ℕ). ordering_then (nat_cmp (eight_at p at) n) (compared (drop 8 (drop at p)) (drop 8 (drop at q)))) (eight_value q at long_q)
    ∙ ap (λ (l : List ℕ). ordering_then (nat_cmp (eight_at p at) (eight_at q at)) (compared l (drop 8 (drop at q)))) (drop-drop 8 at p)
    ∙ ap (λ (l : List ℕ). ordering_then (nat_cmp (eight_at p at) (eight_at q at)) (compared (drop (at + 8) p) l)) (drop-drop 8 at q)

-- the four numbers of the first bytes of two lists decide where they differ
four_numbers : (p q : List ℕ) → length p ≡ 32 → length q ≡ 32 → AreBytes p → AreBytes q
    → compared p q ≡ ordering_then (nat_cmp (eight_at p 0) (eight_at q 0)) (ordering_then (nat_cmp (eight_at p 8) (eight_at q 8)) (ordering_then (nat_cmp (eight_at p 16) (eight_at q 16)) (ordering_then (nat_cmp (eight_at p 24) (eight_at q 24)) Equal)))
four_numbers p q long_p long_q small_p small_q =
    let end : compared (drop 32 p) (drop 32 q) ≡ Equal =
    ap (λ (l : List ℕ). compared l (drop 32 q)) (drop_all 32 p (omega (arith, long_p))) ∙ ap (λ (l : List ℕ). compared [] l) (drop_all 32 q (omega (arith, long_q))) in
    by_eight p q 0 (omega (arith, long_p)) (omega (arith, long_q)) small_p small_q
    ∙ ap (λ o. ordering_then (nat_cmp (eight_at p 0) (eight_at q 0)) o) (by_eight p q 8 (omega (arith, long_p)) (omega (arith, long_q)) small_p small_q
    ∙ ap (λ o. ordering_then (nat_cmp (eight_at p 8) (eight_at q 8)) o) (by_eight p q 16 (omega (arith, long_p)) (omega (arith, long_q)) small_p small_q
    ∙ ap (λ o. ordering_then (nat_cmp (eight_at p 16) (eight_at q 16)) o) (by_eight p q 24 (omega (arith, long_p)) (omega (arith, long_q)) small_p small_q
    ∙ ap (λ o. ordering_then (nat_cmp (eight_at p 24) (eight_at q 24)) o) end)))

ends_equal : (a b c d r : Ordering) → ordering_then (ordering_then a (ordering_then b (ordering_then c (ordering_then d Equal)))) r ≡ ordering_then a (ordering_then b (ordering_then c (ordering_then d r)))
ends_equal Less b c d r = refl
ends_equal Greater b c d r = refl
ends_equal Equal Less c d r = refl
ends_equal Equal Greater c d r = refl
ends_equal Equal Equal Less d r = refl
ends_equal Equal Equal Greater d r = refl
ends_equal Equal Equal Equal Less r = refl
ends_equal Equal Equal Equal Greater r = refl
ends_equal Equal Equal Equal Equal r = refl

-- A list, and the four numbers of its first bytes.
pub record HasPrefix (x : List ℕ) (a b c d : ℕ) : Type 0 where
  pub first : a ≡ eight_at (padded 32 x) 0
  pub second : b ≡ eight_at (padded 32 x) 8
  pub third : c ≡ eight_at (padded 32 x) 16
  pub fourth : d ≡ eight_at (padded 32 x) 24
  pub bytes : AreBytes (padded 32 x)

-- lists are compared by their four numbers, and where these are the same by all bytes
pub by_prefix : (x y : List ℕ) (a b c d e f g h : ℕ) → HasPrefix x a b c d → HasPrefix y e f g h
    → ordering_then (nat_cmp a e) (ordering_then (nat_cmp b f) (ordering_then (nat_cmp c g) (ordering_then (nat_cmp d h) (slice_cmp nat_cmp x y)))) ≡ slice_cmp nat_cmp x y
by_prefix x y a b c d e f g h p q =
    rw (p.first, p.second, p.third, p.fourth, q.first, q.second, q.third, q.fourth)
    (sym (ends_equal (nat_cmp (eight_at (padded 32 x) 0) (eight_at (padded 32 y) 0)) (nat_cmp (eight_at (padded 32 x) 8) (eight_at (padded 32 y) 8)) (nat_cmp (eight_at (padded 32 x) 16) (eight_at (padded 32 y) 16)) (nat_cmp (eight_at (padded 32 x) 24) (eight_at (padded 32 y) 24)) (compared x y))
    ∙ ap (λ o. ordering_then o (compared x y)) (sym (four_numbers (padded 32 x) (padded 32 y) (length_padded 32 x) (length_padded 32 y) p.bytes q.bytes))
    ∙ first_decides 32 x y)

pub apart : (a b : ℕ) (r : Ordering) → a ≢ b → ordering_then (nat_cmp a b) r ≡ nat_cmp a b
apart a b r other = by (nat_cmp a b) (ranked a b (nat_cmp a b) refl)
  where
    by : (o : Ordering) → MatchOrdering o (a < b) (a ≡ b) (b < a) → ordering_then o r ≡ o
    by Less h = refl
    by Equal h = absurd (other h)
    by Greater h = refl

pub alike : (a b : ℕ) (r : Ordering) → a ≡ b → ordering_then (nat_cmp a b) r ≡ r
alike a b r same = ap (λ o. ordering_then o r) (sym (nat_cmp_is a b Equal same))

-- the first bytes are bytes
pub padded_bytes : (n : ℕ) (xs : List ℕ) → ((k : ℕ) → get_or xs k 0 < 256) → AreBytes (padded n xs)
unfolding padded
padded_bytes zero xs small = All-nil (λ b. b < 256)
padded_bytes (suc n) [] small = All-cons (λ b. b < 256) 0 (padded n []) (omega arith) (padded_bytes n [] small)
padded_bytes (suc n) (x ∷ xs) small = All-cons (λ b. b < 256) x (padded n xs) (small 0) (padded_bytes n xs (λ k. small (suc k)))

-- which number decides
module _ (x y : List ℕ) (a b c d e f g h : ℕ) (p : HasPrefix x a b c d) (q : HasPrefix y e f g h) where
  pub by_first : a ≢ e → nat_cmp a e ≡ slice_cmp nat_cmp x y
  by_first other = sym (apart a e _ other) ∙ by_prefix x y a b c d e f g h p q

  pub by_second : a ≡ e → b ≢ f → nat_cmp b f ≡ slice_cmp nat_cmp x y
  by_second one other = sym (apart b f _ other) ∙ sym (alike a e _ one) ∙ by_prefix x y a b c d e f g h p q

  pub by_third : a ≡ e → b ≡ f → c ≢ g → nat_cmp c g ≡ slice_cmp nat_cmp x y
  by_third one two other = sym (apart c g _ other) ∙ sym (alike b f _ two) ∙ sym (alike a e _ one) ∙ by_prefix x y a b c d e f g h p q

  pub by_fourth : a ≡ e → b ≡ f → c ≡ g → d ≢ h → nat_cmp d h ≡ slice_cmp nat_cmp x y
  by_fourth one two three other =
      sym (apart d h _ other) ∙ sym (alike c g _ three) ∙ sym (alike b f _ two) ∙ sym (alike a e _ one) ∙ by_prefix x y a b c d e f g h p q

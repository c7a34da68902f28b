-- Relocations that are gone over by index: how many are below a limit, and a range of them.
use Rattle.std.proofs.Common.{◌≡◌, ℕ, zero, suc, ◌+◌, ◌-◌, ◌<◌, ◌≤◌, Bool, true, false, cond, List, [], ◌∷◌, length, take, drop, refl, sym, ap, ◌∙◌, arith, add-one}
use Rattle.std.specs.Prelude.{Some, None, slice_get, slice_range, nat_lt, is_some, ◌≢◌}
use Rattle.std.specs.List.{prefix_len, list_all}
use Rattle.std.proofs.lemmas.Bool.Decides.{nat_tests}
use Rattle.std.proofs.lemmas.List.Sums.{prefix_len-le-length}
use Rattle.elf_format.specs.declared.crel.Crel.{Crel}
use Rattle.elf_format.specs.Rela.{symbol_of}
use Rattle.elf_frames.specs.Taken.{count_below, has_symbol}

-- ---- how many pass a test from the front on

cond_no : (b : Bool) (n : ℕ) → b ≡ false → 0 ≡ cond b n 0
cond_no true n e = cc
cond_no false n e = refl

cond_suc : (b : Bool) (n i : ℕ) → suc i ≤ cond b (1 + n) 0 → (cond b (1 + n) 0 ≡ suc n) × (i ≤ n)
cond_suc true n i h = (omega arith, omega arith)
cond_suc false n i h = absurd (omega arith)

cond_yes : (b : Bool) (n : ℕ) → b ≡ true → 1 ≤ cond b (1 + n) 0
cond_yes true n e = omega arith
cond_yes false n e = cc

same_test : {X : Type 0} (p : X → Bool) (x y : X) (b : Bool) → Some y ≡ Some x → p x ≡ b → p y ≡ b
same_test p x y b e t = cc

pub count_here : {X : Type 0} (p : X → Bool) (xs : List X) (i : ℕ) (x : X) → i ≤ prefix_len p xs → slice_get xs i ≡ Some x → p x ≡ false → i ≡ prefix_len p xs
count_here p [] i x h g t = cc
count_here p (y ∷ ys) zero x h g t = cond_no (p y) (1 + prefix_len p ys) (same_test p x y false g t)
count_here p (y ∷ ys) (suc i) x h g t =
    let both : (cond (p y) (1 + prefix_len p ys) 0 ≡ suc (prefix_len p ys)) × (i ≤ prefix_len p ys) = cond_suc (p y) (prefix_len p ys) i h in
    ap suc (count_here p ys i x both.1 g t) ∙ sym both.0

pub count_more : {X : Type 0} (p : X → Bool) (xs : List X) (i : ℕ) (x : X) → i ≤ prefix_len p xs → slice_get xs i ≡ Some x → p x ≡ true → i + 1 ≤ prefix_len p xs
count_more p [] i x h g t = cc
count_more p (y ∷ ys) zero x h g t = let one : 1 ≤ cond (p y) (1 + prefix_len p ys) 0 = cond_yes (p y) (prefix_len p ys) (same_test p x y true g t) in omega arith
count_more p (y ∷ ys) (suc i) x h g t =
    let both : (cond (p y) (1 + prefix_len p ys) 0 ≡ suc (prefix_len p ys)) × (i ≤ prefix_len p ys) = cond_suc (p y) (prefix_len p ys) i h in
    let later : i + 1 ≤ prefix_len p ys = count_more p ys i x both.1 g t in
    omega (arith, both.0)

pub past : {X : Type 0} (xs : List X) (i : ℕ) → slice_get xs i ≡ None → length xs ≤ i
past [] i g = omega arith
past (y ∷ ys) zero g = cc
past (y ∷ ys) (suc i) g = let h : length ys ≤ i = past ys i g in omega arith

pub count_none : {X : Type 0} (p : X → Bool) (xs : List X) (i : ℕ) → i ≤ prefix_len p xs → slice_get xs i ≡ None → i ≡ prefix_len p xs
count_none p xs i h g = omega (arith, past xs i g, prefix_len-le-length p xs)

pub count_all : {X : Type 0} (p : X → Bool) (xs : List X) (n : ℕ) → n ≡ length xs → n ≤ prefix_len p xs → n ≡ prefix_len p xs
count_all p xs n e h = omega (arith, prefix_len-le-length p xs)

-- fewer are below a lower limit
fewer : (b c : Bool) (m n : ℕ) → (b ≡ true → c ≡ true) → m ≤ n → cond b (1 + m) 0 ≤ cond c (1 + n) 0
fewer true true m n h k = omega arith
fewer true false m n h k = absurd (no (h refl)) where
  no : false ≡ true → ⊥
  no e = cc
fewer false c m n h k = omega arith

pub count_fewer : {X : Type 0} (p q : X → Bool) (xs : List X) → ((x : X) → p x ≡ true → q x ≡ true) → prefix_len p xs ≤ prefix_len q xs
count_fewer p q [] h = omega arith
count_fewer p q (x ∷ xs) h = fewer (p x) (q x) (prefix_len p xs) (prefix_len q xs) (h x) (count_fewer p q xs h)

-- ---- a range of a list

none_left : {X : Type 0} (n m : ℕ) (xs : List X) → n ≤ m → take (n - m) xs ≡ []
none_left n m xs h = let e : n - m ≡ 0 = omega arith in rw e refl

pub range_empty : {X : Type 0} (xs : List X) (i j : ℕ) → j ≤ i → slice_range xs i j ≡ []
range_empty xs i j h = none_left j i (drop i xs) h

drop_past : {X : Type 0} (xs : List X) (i : ℕ) → slice_get xs i ≡ None → drop i xs ≡ []
drop_past [] zero g = refl
drop_past [] (suc i) g = refl
drop_past (y ∷ ys) zero g = cc
drop_past (y ∷ ys) (suc i) g = drop_past ys i g

take_none : {X : Type 0} (n : ℕ) (xs : List X) → xs ≡ [] → take n xs ≡ []
take_none zero xs e = refl
take_none (suc n) [] e = refl
take_none (suc n) (x ∷ xs) e = cc

pub range_past : {X : Type 0} (xs : List X) (i j : ℕ) → slice_get xs i ≡ None → slice_range xs i j ≡ []
range_past xs i j g = take_none (j - i) (drop i xs) (drop_past xs i g)

drop_at : {X : Type 0} (xs : List X) (i : ℕ) (x : X) → slice_get xs i ≡ Some x → drop i xs ≡ x ∷ drop (suc i) xs
drop_at [] i x g = cc
drop_at (y ∷ ys) zero x g = cc
drop_at (y ∷ ys) (suc i) x g = drop_at ys i x g

pub range_step : {X : Type 0} (xs : List X) (i j : ℕ) (x : X) → i < j → slice_get xs i ≡ Some x → slice_range xs i j ≡ x ∷ slice_range xs (i + 1) j
range_step xs i j x h g =
    let e : j - i ≡ suc (j - (i + 1)) = omega arith in
    ap (take (j - i)) (drop_at xs i x g) ∙ ap (λ n. take n (x ∷ drop (suc i) xs)) e ∙ ap (λ n. x ∷ take (j - (i + 1)) (drop n xs)) (sym (add-one i))

-- ---- relocations below a limit

abbrev is_below : ℕ → Crel → Bool
is_below limit r = nat_lt r.offset limit

pub below_more : (limit : ℕ) (rs : List Crel) (i : ℕ) (r : Crel) → i ≤ count_below limit rs → slice_get rs i ≡ Some r → r.offset < limit → i + 1 ≤ count_below limit rs
below_more limit rs i r h g t = count_more (is_below limit) rs i r h g (grind (arith, nat_tests))

pub below_here : (limit : ℕ) (rs : List Crel) (i : ℕ) (r : Crel) → i ≤ count_below limit rs → slice_get rs i ≡ Some r → limit ≤ r.offset → i ≡ count_below limit rs
below_here limit rs i r h g t = count_here (is_below limit) rs i r h g (grind (arith, nat_tests))

pub below_end : (limit : ℕ) (rs : List Crel) (i : ℕ) → i ≤ count_below limit rs → slice_get rs i ≡ None → i ≡ count_below limit rs
below_end limit rs i h g = count_none (is_below limit) rs i h g

pub below_last : (limit : ℕ) (rs : List Crel) (n i : ℕ) → n ≡ length rs → n ≤ i → i ≤ count_below limit rs → n ≡ count_below limit rs
below_last limit rs n i e less h = count_all (is_below limit) rs n e (omega (arith, less, h))

below_later : (low high : ℕ) (r : Crel) → low ≤ high → nat_lt r.offset low ≡ true → nat_lt r.offset high ≡ true
below_later low high r h t = grind (arith, nat_tests)

pub below_fewer : (low high : ℕ) (rs : List Crel) → low ≤ high → count_below low rs ≤ count_below high rs
below_fewer low high rs h = count_fewer (is_below low) (is_below high) rs (λ r t. below_later low high r h t)

pub below_within : (limit : ℕ) (rs : List Crel) → count_below limit rs ≤ length rs
below_within limit rs = prefix_len-le-length (is_below limit) rs

-- ---- relocations with symbols

all_fail : {X : Type 0} (p : X → Bool) (x : X) (xs : List X) → p x ≡ false → list_all p (x ∷ xs) ≡ false
all_fail p x xs e = grind (arith, e)

all_pass : {X : Type 0} (p : X → Bool) (x : X) (xs : List X) → p x ≡ true → list_all p (x ∷ xs) ≡ list_all p xs
all_pass p x xs e = grind (arith, e)

no_symbol : (r : Crel) → r.symbol ≡ 0 → has_symbol r ≡ false
no_symbol r e = ap (λ n. is_some (symbol_of n)) e

symbol_there : (n : ℕ) → n ≢ 0 → is_some (symbol_of n) ≡ true
symbol_there zero h = absurd (h refl)
symbol_there (suc n) h = refl

pub symbols_more : (rs : List Crel) (i j : ℕ) (r : Crel) → i < j → Some r ≡ slice_get rs i → r.symbol ≢ 0 → list_all has_symbol (slice_range rs i j) ≡ list_all has_symbol (slice_range rs (i + 1) j)
symbols_more rs i j r h g s = ap (list_all has_symbol) (range_step rs i j r h (sym g)) ∙ all_pass has_symbol r (slice_range rs (i + 1) j) (symbol_there r.symbol s)

pub symbols_stop : (rs : List Crel) (i j : ℕ) (r : Crel) → i < j → Some r ≡ slice_get rs i → r.symbol ≡ 0 → list_all has_symbol (slice_range rs i j) ≡ false
symbols_stop rs i j r h g s = ap (list_all has_symbol) (range_step rs i j r h (sym g)) ∙ all_fail has_symbol r (slice_range rs (i + 1) j) (no_symbol r s)

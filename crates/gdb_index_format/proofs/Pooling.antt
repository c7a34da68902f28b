-- Each name has one bucket, so the buckets together have each name once.
use Rattle.std.proofs.Common.{◌≡◌, ℕ, zero, suc, ◌+◌, ◌^◌, ◌<◌, cond, List, [], ◌∷◌, ◌++◌, Bool, true, false, refl, sym, ap, subst, ◌∙◌, arith}
use Rattle.std.specs.Prelude.{◌==◌, ◌&&◌, not, nat_le, nat_lt}
use Rattle.std.specs.List.{filter, flat_map, fold, range_with_len}
use Rattle.std.specs.List.Sorted.{IsPermutation}
use Rattle.std.proofs.lemmas.Bool.Decides.{nat_tests}
use Rattle.std.proofs.lemmas.List.Sorted.{IsPermutation-refl, IsPermutation-trans, IsPermutation-append_right, IsPermutation-filter_both}
use Rattle.gdb_index_format.specs.Hash.{hash_step}
use Rattle.gdb_index_format.specs.Published.{bucket, by_bucket, first_names, pool_names, PoolHasEachName, NamesHaveBuckets}

module _ {X : Type 0} where
  filter_over : (p : X → Bool) (b : Bool) (x : X) (kept rest : List X) → filter p kept ≡ rest → filter p (cond b (x ∷ kept) kept) ≡ cond (b && p x) (x ∷ rest) rest
  filter_over p true x kept rest e = ap (λ l. cond (p x) (x ∷ l) l) e
  filter_over p false x kept rest e = e

  -- what passes one test and then another
  pub filter_twice : (p q r : X → Bool) → ((x : X) → r x ≡ (q x && p x)) → (xs : List X) → filter p (filter q xs) ≡ filter r xs
  filter_twice p q r same [] = refl
  filter_twice p q r same (x ∷ xs) = filter_over p (q x) x (filter q xs) (filter r xs) (filter_twice p q r same xs) ∙ ap (λ b. cond b (x ∷ filter r xs) (filter r xs)) (sym (same x))

  pub filter_none : (p : X → Bool) → ((x : X) → p x ≡ false) → (xs : List X) → filter p xs ≡ []
  filter_none p none [] = refl
  filter_none p none (x ∷ xs) = ap (λ b. cond b (x ∷ filter p xs) (filter p xs)) (none x) ∙ filter_none p none xs

  pub filter_all : (p : X → Bool) → ((x : X) → p x ≡ true) → (xs : List X) → filter p xs ≡ xs
  filter_all p all [] = refl
  filter_all p all (x ∷ xs) = ap (λ b. cond b (x ∷ filter p xs) (filter p xs)) (all x) ∙ ap (λ l. x ∷ l) (filter_all p all xs)

  within : (X → ℕ) → ℕ → ℕ → X → Bool
  within key a n x = nat_le a (key x) && nat_lt (key x) (a + n)

  -- the elements with each of some keys, key by key
  keys_in_order : (key : X → ℕ) (a n : ℕ) (xs : List X) → IsPermutation (filter (within key a n) xs) (flat_map (λ b. filter (λ x. key x == b) xs) (range_with_len a n))
  unfolding within
  keys_in_order key a zero xs = subst (λ l. IsPermutation l []) (sym (filter_none (within key a 0) (λ x. no (key x)) xs)) (IsPermutation-refl []) where
    no : (k : ℕ) → (nat_le a k && nat_lt k (a + 0)) ≡ false
    no k = grind (arith, nat_tests)
  keys_in_order key a (suc n) xs =
      let is : X → Bool = λ x. key x == a in
      let other : X → Bool = λ x. not (key x == a) in
      let kept = filter (within key a (suc n)) xs in
      let parts : IsPermutation kept (filter is kept ++ filter other kept) = IsPermutation-filter_both is other (λ x. refl) kept in
      let first : filter is kept ≡ filter is xs = filter_twice is (within key a (suc n)) is (λ x. first_test (key x)) xs in
      let others : filter other kept ≡ filter (within key (a + 1) n) xs = filter_twice other (within key a (suc n)) (within key (a + 1) n) (λ x. other_test (key x)) xs in
      let ahead : IsPermutation kept (filter is xs ++ filter (within key (a + 1) n) xs) = subst (λ l. IsPermutation kept l) (ap (λ l. l ++ filter other kept) first ∙ ap (λ l. filter is xs ++ l) others) parts in
      IsPermutation-trans kept _ _ ahead (IsPermutation-append_right (filter is xs) _ _ (keys_in_order key (a + 1) n xs)) where
        first_test : (k : ℕ) → (k == a) ≡ ((nat_le a k && nat_lt k (a + suc n)) && (k == a))
        first_test k = grind (arith, nat_tests)

        other_test : (k : ℕ) → (nat_le (a + 1) k && nat_lt k (a + 1 + n)) ≡ ((nat_le a k && nat_lt k (a + suc n)) && not (k == a))
        other_test k = grind (arith, nat_tests)

  -- where all keys are below a number
  pub all_keys_in_order : (key : X → ℕ) (n : ℕ) → ((x : X) → key x < n) → (xs : List X) → IsPermutation xs (flat_map (λ b. filter (λ x. key x == b) xs) (range_with_len 0 n))
  unfolding within
  all_keys_in_order key n below xs = subst (λ l. IsPermutation l (flat_map (λ b. filter (λ x. key x == b) xs) (range_with_len 0 n))) (filter_all (within key 0 n) (λ x. all (key x) (below x)) xs) (keys_in_order key 0 n xs) where
    all : (k : ℕ) → k < n → (nat_le 0 k && nat_lt k (0 + n)) ≡ true
    all k l = grind (arith, nat_tests)

hash_below : (hash : ℕ) (name : List ℕ) → hash < 2 ^ 32 → fold hash_step hash name < 2 ^ 32
hash_below hash [] l = l
hash_below hash (c ∷ name) l = hash_below (hash_step hash c) name (omega arith)

pub names_have_buckets_lem : NamesHaveBuckets
unfolding bucket
names_have_buckets_lem name = omega (arith, hash_below 0 name (omega arith))

pub by_bucket_permutes : (ns : List (List ℕ)) → IsPermutation ns (by_bucket ns)
by_bucket_permutes ns = all_keys_in_order bucket 32 names_have_buckets_lem ns

pub pool_has_each_name_lem : PoolHasEachName
unfolding pool_names
pool_has_each_name_lem ps = by_bucket_permutes (first_names ps)

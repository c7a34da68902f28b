-- Names with sorted CU vectors, bucket by bucket.
use Rattle.std.proofs.Common.{◌≡◌, ℕ, zero, suc, ◌+◌, ◌<◌, ◌≤◌, Bool, true, false, cond, not, List, [], ◌∷◌, ◌++◌, length, map, Option, refl, sym, ap, ◌∙◌, subst, arith, inl, inr, append_assoc}
use Rattle.std.specs.Prelude.{◌==◌, ◌&&◌}
use Rattle.std.specs.List.{AllByRecursion, IsDistinct, filter, flat_map, range_with_len}
use Rattle.std.specs.List.Sorted.{IsPermutation}
use Rattle.std.specs.Str.{bytes_eq}
use Rattle.std.proofs.lemmas.Bool.{cond-true, cond-false, and_from, eq-eqb, eqb-true, cases_eq}
use Rattle.std.proofs.lemmas.Bool.Decides.{nat_tests}
use Rattle.std.proofs.lemmas.List.{append-nil}
use Rattle.std.proofs.lemmas.List.Elements.{filter-append, All-filter}
use Rattle.std.proofs.lemmas.List.Sorted.{All-permutation, IsPermutation-sym}
use Rattle.std.proofs.lemmas.Map.Keys.{IsDistinct-IsPermutation}
use Rattle.gdb_index_format.specs.Named.{Named}
use Rattle.gdb_index_format.specs.Published.{bucket, by_bucket, firsts}
use Rattle.gdb_index_format.proofs.Pooling.{filter_twice, filter_none}
use Rattle.gdb_scan.specs.declared.mark.Mark.{Mark}
use Rattle.gdb_scan.specs.Buckets.{of_bucket, in_buckets}
use Rattle.gdb_scan.specs.Groups.{names_of, values_of, groups}
use Rattle.gdb_scan.specs.Scan.{ObjectScan, units_in_scan, names_in_scan}
use Rattle.gdb_scan.proofs.Bucketing.{keyed, keyed-map, filter-map}
use Rattle.gdb_scan.proofs.Grouping.{Name, same_from, eq_same, differ-sym, others, Lacks, Differ, tabled}
use Rattle.gdb_scan.proofs.Pairing.{HaveSome}
use Rattle.gdb_scan.proofs.Sounding.{each_from_All, All-from_each}
use Rattle.gdb_tables.specs.Merged.{AreSorted}
use Rattle.gdb_tables.specs.Scans.{mark_word, words_at, words_of_groups, words_from}

-- ---- names in another order

pub each_permuted : {X : Type 0} (P : X → Type 0) (xs ys : List X) → IsPermutation xs ys → AllByRecursion P xs → AllByRecursion P ys
each_permuted P xs ys p h = each_from_All P ys (All-permutation P xs ys p (All-from_each P xs h))

some_each : {X : Type 0} (f : Name → List X) (fs : List Name) → HaveSome f fs → AllByRecursion (λ m. f m ≡ [] → ⊥) fs
some_each f [] h = tt
some_each f (m ∷ fs) h = (h.0, some_each f fs h.1)

each_some : {X : Type 0} (f : Name → List X) (fs : List Name) → AllByRecursion (λ m. f m ≡ [] → ⊥) fs → HaveSome f fs
each_some f [] h = tt
each_some f (m ∷ fs) h = (h.0, each_some f fs h.1)

pub HaveSome-permuted : {X : Type 0} (f : Name → List X) (fs gs : List Name) → IsPermutation fs gs → HaveSome f fs → HaveSome f gs
HaveSome-permuted f fs gs p h = each_some f gs (each_permuted (λ m. f m ≡ [] → ⊥) fs gs p (some_each f fs h))

lacks_each : (n : Name) (fs : List Name) → Lacks n fs → AllByRecursion (λ f. bytes_eq n f ≡ false) fs
lacks_each n [] h = tt
lacks_each n (f ∷ fs) h = (h.0, lacks_each n fs h.1)

each_lacks : (n : Name) (fs : List Name) → AllByRecursion (λ f. bytes_eq n f ≡ false) fs → Lacks n fs
each_lacks n [] h = tt
each_lacks n (f ∷ fs) h = (h.0, each_lacks n fs h.1)

pub Lacks-permuted : (n : Name) (fs gs : List Name) → IsPermutation fs gs → Lacks n gs → Lacks n fs
Lacks-permuted n fs gs p h = each_lacks n fs (each_permuted (λ f. bytes_eq n f ≡ false) gs fs (IsPermutation-sym fs gs p) (lacks_each n gs h))

differ_distinct : (fs : List Name) → Differ fs → IsDistinct bytes_eq fs
unfolding IsDistinct
differ_distinct [] h = tt
differ_distinct (f ∷ fs) h = (lacks_each f fs h.0, differ_distinct fs h.1)

distinct_differ : (fs : List Name) → IsDistinct bytes_eq fs → Differ fs
unfolding IsDistinct
distinct_differ [] h = tt
distinct_differ (f ∷ fs) h = (each_lacks f fs h.0, distinct_differ fs h.1)

flips : (x y : Name) → bytes_eq x y ≡ bytes_eq y x
flips x y = by (bytes_eq x y) refl where
  by : (b : Bool) → bytes_eq x y ≡ b → bytes_eq x y ≡ bytes_eq y x
  by true e = e ∙ sym (subst (λ k. bytes_eq k x ≡ true) (same_from x y e) (eq_same x))
  by false e = e ∙ sym (differ-sym x y e)

pub Differ-permuted : (fs gs : List Name) → IsPermutation fs gs → Differ fs → Differ gs
Differ-permuted fs gs p h = distinct_differ gs (IsDistinct-IsPermutation bytes_eq flips fs gs p (differ_distinct fs h))

-- ---- bucket by bucket

-- a table by bucket is that of the names by bucket
pub tabled_in_buckets : {X : Type 0} (f : Name → List X) (fs : List Name) → in_buckets (tabled f fs) ≡ tabled f (by_bucket fs)
tabled_in_buckets {X} f fs = keyed-map (λ (m : Name). (m, f m)) (λ (g : Name × List X). bucket g.0) 0 32 fs

pub sorted_append : (gs hs : List (Name × List ℕ)) (ns ms : List Named) → AreSorted gs ns → AreSorted hs ms → AreSorted (gs ++ hs) (ns ++ ms)
sorted_append [] hs [] ms p q = q
sorted_append [] hs (n ∷ ns) ms p q = absurd p
sorted_append (g ∷ gs) hs [] ms p q = absurd p
sorted_append (g ∷ gs) hs (n ∷ ns) ms p q = (p.0, p.1, p.2, sorted_append gs hs ns ms p.3 q)

-- one more bucket
pub flat_more : {X : Type 0} (f : ℕ → List X) (a n : ℕ) → flat_map f (range_with_len a (n + 1)) ≡ flat_map f (range_with_len a n) ++ f (a + n)
flat_more f a n = ap (λ k. flat_map f (range_with_len a k)) (next n) ∙ more a n where
  next : (n : ℕ) → n + 1 ≡ suc n
  next n = omega arith

  more : (a n : ℕ) → flat_map f (range_with_len a (suc n)) ≡ flat_map f (range_with_len a n) ++ f (a + n)
  more a zero = append-nil (f a) ∙ ap f (omega arith)
  more a (suc n) =
      ap (λ l. f a ++ l) (more (a + 1) n)
      ∙ sym (append_assoc (f a) (flat_map f (range_with_len (a + 1) n)) (f (a + 1 + n)))
      ∙ ap (λ k. (f a ++ flat_map f (range_with_len (a + 1) n)) ++ f k) (omega arith)

pub flat_alike : {X : Type 0} (f g : ℕ → List X) (a n : ℕ) → ((b : ℕ) → b < a + n → f b ≡ g b) → flat_map f (range_with_len a n) ≡ flat_map g (range_with_len a n)
flat_alike f g a zero same = refl
flat_alike f g a (suc n) same = ap (λ l. l ++ flat_map f (range_with_len (a + 1) n)) (same a (omega arith)) ∙ ap (λ l. g a ++ l) (flat_alike f g (a + 1) n (λ b l. same b (omega (arith, l))))

-- ---- the groups of one bucket

and_none : (a : Bool) → (a && false) ≡ false
and_none true = refl
and_none false = refl

swaps : (a b : Bool) → (a && b) ≡ (b && a)
swaps true true = refl
swaps true false = refl
swaps false true = refl
swaps false false = refl

filter_swap : {X : Type 0} (p q : X → Bool) (xs : List X) → filter p (filter q xs) ≡ filter q (filter p xs)
filter_swap p q xs = filter_twice p q (λ x. q x && p x) (λ x. refl) xs ∙ sym (filter_twice q p (λ x. q x && p x) (λ x. swaps (q x) (p x)) xs)

-- a name that does not pass a test is none of those that do
others_apart : (p : Name → Bool) (n : Name) → p n ≡ false → (fs : List Name) → filter p (others n fs) ≡ filter p fs
others_apart p n fails fs = filter_twice p (λ k. not (bytes_eq k n)) p (λ x. by x (bytes_eq x n) refl) fs where
  by : (x : Name) (b : Bool) → bytes_eq x n ≡ b → p x ≡ (not (bytes_eq x n) && p x)
  by x true e = ap p (same_from x n e) ∙ fails ∙ sym (ap (λ b. not b && p x) e)
  by x false e = sym (ap (λ b. not b && p x) e)

firsts-filter : (p : Name → Bool) (ns : List Name) → firsts (filter p ns) ≡ filter p (firsts ns)
firsts-filter p [] = refl
firsts-filter p (n ∷ ns) = by (p n) refl (firsts-filter p ns) where
  by : (b : Bool) → p n ≡ b → firsts (filter p ns) ≡ filter p (firsts ns) → firsts (filter p (n ∷ ns)) ≡ filter p (firsts (n ∷ ns))
  by true e rest =
      ap firsts (cond-true (p n) (n ∷ filter p ns) (filter p ns) e)
      ∙ ap (λ fs. n ∷ others n fs) rest
      ∙ ap (λ fs. n ∷ fs) (filter_swap (λ k. not (bytes_eq k n)) p (firsts ns))
      ∙ sym (cond-true (p n) (n ∷ filter p (others n (firsts ns))) (filter p (others n (firsts ns))) e)
  by false e rest =
      ap firsts (cond-false (p n) (n ∷ filter p ns) (filter p ns) e)
      ∙ rest ∙ sym (others_apart p n e (firsts ns))
      ∙ sym (cond-false (p n) (n ∷ filter p (others n (firsts ns))) (filter p (others n (firsts ns))) e)

module _ {X : Type 0} where
  values_of_bucket : (b : ℕ) (n : Name) (ps : List (Name × X)) → bucket n ≡ b → values_of n (of_bucket b ps) ≡ values_of n ps
  values_of_bucket b n ps is = ap (map (λ (p : Name × X). p.1)) (filter_twice (λ (p : Name × X). bytes_eq p.0 n) (λ p. bucket p.0 == b) (λ p. bytes_eq p.0 n) (λ p. by p.0 (bytes_eq p.0 n) refl) ps) where
    by : (m : Name) (t : Bool) → bytes_eq m n ≡ t → bytes_eq m n ≡ ((bucket m == b) && bytes_eq m n)
    by m true e = e ∙ sym (and_from (bucket m == b) (bytes_eq m n) (eq-eqb (bucket m) b (ap bucket (same_from m n e) ∙ is)) e)
    by m false e = e ∙ sym (ap (λ t. (bucket m == b) && t) e ∙ and_none (bucket m == b))

  table_of_bucket : (b : ℕ) (f g : Name → List X) → ((n : Name) → bucket n ≡ b → f n ≡ g n) → (fs : List Name) → tabled f (filter (λ n. bucket n == b) fs) ≡ tabled g (filter (λ n. bucket n == b) fs)
  table_of_bucket b f g same [] = refl
  table_of_bucket b f g same (n ∷ fs) = by (bucket n == b) refl (table_of_bucket b f g same fs) where
    by : (t : Bool) → (bucket n == b) ≡ t → tabled f (filter (λ n. bucket n == b) fs) ≡ tabled g (filter (λ n. bucket n == b) fs) → tabled f (filter (λ n. bucket n == b) (n ∷ fs)) ≡ tabled g (filter (λ n. bucket n == b) (n ∷ fs))
    by true e rest =
        ap (tabled f) (cond-true (bucket n == b) (n ∷ filter (λ n. bucket n == b) fs) (filter (λ n. bucket n == b) fs) e)
        ∙ ap (λ (v : List X). (n, v) ∷ tabled f (filter (λ n. bucket n == b) fs)) (same n (eqb-true (bucket n) b e))
        ∙ ap (λ gs. (n, g n) ∷ gs) rest
        ∙ sym (ap (tabled g) (cond-true (bucket n == b) (n ∷ filter (λ n. bucket n == b) fs) (filter (λ n. bucket n == b) fs) e))
    by false e rest =
        ap (tabled f) (cond-false (bucket n == b) (n ∷ filter (λ n. bucket n == b) fs) (filter (λ n. bucket n == b) fs) e)
        ∙ rest
        ∙ sym (ap (tabled g) (cond-false (bucket n == b) (n ∷ filter (λ n. bucket n == b) fs) (filter (λ n. bucket n == b) fs) e))

  -- the groups of the pairs of a bucket are the groups of that bucket
  pub groups_of_bucket : (b : ℕ) (ps : List (Name × X)) → groups (of_bucket b ps) ≡ of_bucket b (groups ps)
  groups_of_bucket b ps =
      let fs = firsts (names_of ps) in
      let names : firsts (names_of (of_bucket b ps)) ≡ filter (λ n. bucket n == b) fs = ap firsts (sym (filter-map (λ (p : Name × X). p.0) bucket b ps)) ∙ firsts-filter (λ n. bucket n == b) (names_of ps) in
      ap (tabled (λ n. values_of n (of_bucket b ps))) names
      ∙ table_of_bucket b (λ n. values_of n (of_bucket b ps)) (λ n. values_of n ps) (λ n is. values_of_bucket b n ps is) fs
      ∙ sym (filter-map (λ (n : Name). (n, values_of n ps)) (λ (g : Name × List X). bucket g.0) b fs)

-- ---- the elements of one bucket

one_bucket : (b first : ℕ) (n : Name) (ms : List Mark) (t : Bool) → (bucket n == b) ≡ t → of_bucket b (words_at first (n, ms)) ≡ cond t (words_at first (n, ms)) []
one_bucket b first n [] true e = refl
one_bucket b first n [] false e = refl
one_bucket b first n (m ∷ ms) true e = ap (λ t. cond t ((n, mark_word first m) ∷ of_bucket b (words_at first (n, ms))) (of_bucket b (words_at first (n, ms)))) e ∙ ap (λ l. (n, mark_word first m) ∷ l) (one_bucket b first n ms true e)
one_bucket b first n (m ∷ ms) false e = ap (λ t. cond t ((n, mark_word first m) ∷ of_bucket b (words_at first (n, ms))) (of_bucket b (words_at first (n, ms)))) e ∙ one_bucket b first n ms false e

pub words_of_bucket : (b first : ℕ) (gs : List (Name × List Mark)) → of_bucket b (words_of_groups first gs) ≡ words_of_groups first (of_bucket b gs)
words_of_bucket b first [] = refl
words_of_bucket b first (g ∷ gs) =
    filter-append (λ (p : Name × ℕ). bucket p.0 == b) (words_at first g) (words_of_groups first gs)
    ∙ by (bucket g.0 == b) refl (words_of_bucket b first gs) where
      by : (t : Bool) → (bucket g.0 == b) ≡ t → of_bucket b (words_of_groups first gs) ≡ words_of_groups first (of_bucket b gs) → of_bucket b (words_at first g) ++ of_bucket b (words_of_groups first gs) ≡ words_of_groups first (of_bucket b (g ∷ gs))
      by true e rest =
          ap (λ l. l ++ of_bucket b (words_of_groups first gs)) (one_bucket b first g.0 g.1 true e)
          ∙ ap (λ l. words_at first g ++ l) rest
          ∙ sym (ap (words_of_groups first) (cond-true (bucket g.0 == b) (g ∷ of_bucket b gs) (of_bucket b gs) e))
      by false e rest =
          ap (λ l. l ++ of_bucket b (words_of_groups first gs)) (one_bucket b first g.0 g.1 false e)
          ∙ rest
          ∙ sym (ap (words_of_groups first) (cond-false (bucket g.0 == b) (g ∷ of_bucket b gs) (of_bucket b gs) e))

pub words_next : (b first : ℕ) (s : Option ObjectScan) (ss : List (Option ObjectScan)) → of_bucket b (words_from first (s ∷ ss)) ≡ words_of_groups first (of_bucket b (names_in_scan s)) ++ of_bucket b (words_from (first + length (units_in_scan s)) ss)
words_next b first s ss =
    filter-append (λ (p : Name × ℕ). bucket p.0 == b) (words_of_groups first (names_in_scan s)) (words_from (first + length (units_in_scan s)) ss)
    ∙ ap (λ l. l ++ of_bucket b (words_from (first + length (units_in_scan s)) ss)) (words_of_bucket b first (names_in_scan s))

-- ---- a bucket of names that stand by bucket

module _ {X : Type 0} (key : X → ℕ) where
  twice_same : (b : ℕ) (xs : List X) → filter (λ x. key x == b) (filter (λ x. key x == b) xs) ≡ filter (λ x. key x == b) xs
  twice_same b xs = filter_twice (λ x. key x == b) (λ x. key x == b) (λ x. key x == b) (λ x. both (key x == b)) xs where
    both : (t : Bool) → t ≡ (t && t)
    both true = refl
    both false = refl

  twice_other : (a b : ℕ) → (a ≡ b → ⊥) → (xs : List X) → filter (λ x. key x == b) (filter (λ x. key x == a) xs) ≡ []
  twice_other a b differ xs = filter_twice (λ x. key x == b) (λ x. key x == a) (λ x. false) (λ x. no (key x)) xs ∙ filter_none (λ x. false) (λ x. refl) xs where
    no : (k : ℕ) → false ≡ ((k == a) && (k == b))
    no k = grind (arith, nat_tests)

  none_before : (b a n : ℕ) (xs : List X) → b < a → filter (λ x. key x == b) (keyed key a n xs) ≡ []
  none_before b a zero xs less = refl
  none_before b a (suc n) xs less =
      filter-append (λ x. key x == b) (filter (λ x. key x == a) xs) (keyed key (a + 1) n xs)
      ∙ ap (λ l. l ++ filter (λ x. key x == b) (keyed key (a + 1) n xs)) (twice_other a b (λ e. omega (arith, e, less)) xs)
      ∙ none_before b (a + 1) n xs (omega (arith, less))

  pub keyed_again : (b a n : ℕ) (xs : List X) → a ≤ b → b < a + n → filter (λ x. key x == b) (keyed key a n xs) ≡ filter (λ x. key x == b) xs
  keyed_again b a zero xs low high = absurd (omega (arith, low, high))
  keyed_again b a (suc n) xs low high =
      filter-append (λ x. key x == b) (filter (λ x. key x == a) xs) (keyed key (a + 1) n xs)
      ∙ elim (cases_eq a b) [
        | inl same ↦
            ap (λ (k : ℕ). filter (λ x. key x == b) (filter (λ x. key x == k) xs) ++ filter (λ x. key x == b) (keyed key (a + 1) n xs)) same
            ∙ ap (λ l. l ++ filter (λ x. key x == b) (keyed key (a + 1) n xs)) (twice_same b xs)
            ∙ ap (λ l. filter (λ x. key x == b) xs ++ l) (none_before b (a + 1) n xs (omega (arith, same)))
            ∙ append-nil (filter (λ x. key x == b) xs)
        | inr differ ↦
            ap (λ l. l ++ filter (λ x. key x == b) (keyed key (a + 1) n xs)) (twice_other a b differ xs)
            ∙ keyed_again b (a + 1) n xs (omega (arith, low, differ)) (omega (arith, high))
      ]

pub bucket_again : {X : Type 0} (b : ℕ) (gs : List (Name × X)) → b < 32 → of_bucket b (in_buckets gs) ≡ of_bucket b gs
bucket_again {X} b gs less = keyed_again (λ (g : Name × X). bucket g.0) b 0 32 gs (omega arith) (omega (arith, less))

-- what holds of each group holds of those of a bucket
pub each_of_bucket : {X : Type 0} (P : Name × X → Type 0) (b : ℕ) (gs : List (Name × X)) → AllByRecursion P gs → AllByRecursion P (of_bucket b gs)
each_of_bucket {X} P b gs h = each_from_All P (of_bucket b gs) (All-filter (λ (g : Name × X). bucket g.0 == b) P gs (All-from_each P gs h))

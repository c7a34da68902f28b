-- What pool order keeps of a list of names.
use Rattle.std.proofs.Common.{◌≡◌, ◌≢◌, ◌⊎◌, ℕ, zero, suc, ◌+◌, ◌<◌, ◌≤◌, Bool, true, false, cond, List, [], ◌∷◌, ◌++◌, length, get_or, Option, Some, None, sym, refl, ap, subst, ◌∙◌, arith, inl, inr}
use Rattle.std.specs.Prelude.{◌==◌, ◌&&◌, find, sum}
use Rattle.std.specs.List.{All, filter, flat_map, range_with_len, swap}
use Rattle.std.specs.List.Sorted.{IsPermutation}
use Rattle.std.specs.Option.{option_map}
use Rattle.std.specs.Str.{bytes_eq}
use Rattle.std.proofs.lemmas.Bool.{cases_eq, eq-eqb, ne_eqb}
use Rattle.std.proofs.lemmas.Slice.Eq.{bytes_eq-Decides}
use Rattle.std.proofs.lemmas.List.{append-nil}
use Rattle.std.proofs.lemmas.List.Edits.{Swapped, swapped_from_swap, length-swap}
use Rattle.std.proofs.lemmas.List.Elements.{filter-append}
use Rattle.std.proofs.lemmas.List.Sorted.{IsPermutation-keeps, All-permutation, length_permutation, sum_by-IsPermutation}
use Rattle.gdb_index_format.specs.declared.unit.CuBoundary.{CuBoundary}
use Rattle.gdb_index_format.specs.Named.{Named, AreDistinct}
use Rattle.gdb_index_format.specs.Published.{bucket}
use Rattle.gdb_index_format.proofs.Pooling.{filter_twice, filter_none, all_keys_in_order, names_have_buckets_lem}
use Rattle.gdb_index.specs.Answers.{is_sought, words_under}
use Rattle.gdb_index.specs.FromParts.{AreIndexParts, in_pool_order, scan_of_parts}
use Rattle.gdb_index.specs.Pool.{names_len, name_len}
use Rattle.gdb_index.specs.Scan.{IsIndexName, IsWellFormedScan, HaveSmallWords, word_count}
use Rattle.gdb_index.specs.Size.{scan_counts}
use Rattle.gdb_index.specs.declared.size.IndexCounts.{IndexCounts}

-- ---- byte strings

pub same_bytes : (xs ys : List ℕ) → bytes_eq xs ys ≡ true → xs ≡ ys
same_bytes xs ys e = (bytes_eq-Decides xs ys).0 e

pub eq_bytes : (xs : List ℕ) → bytes_eq xs xs ≡ true
eq_bytes xs = (bytes_eq-Decides xs xs).1 refl

pub apart : (xs ys : List ℕ) → xs ≢ ys → bytes_eq xs ys ≡ false
apart xs ys differ = by (bytes_eq xs ys) refl where
  by : (b : Bool) → bytes_eq xs ys ≡ b → bytes_eq xs ys ≡ false
  by true e = absurd (differ (same_bytes xs ys e))
  by false e = e

-- ---- pool order has each name once

pub pool_permutes : (ns : List Named) → IsPermutation ns (in_pool_order ns)
unfolding in_pool_order
pool_permutes ns = all_keys_in_order (λ n. bucket n.name) 32 (λ n. names_have_buckets_lem n.name) ns

-- where an element stood before an exchange
abbrev CameFrom : ℕ → ℕ → ℕ → ℕ → Type 0
CameFrom a b k j = ((k ≡ a) × (j ≡ b)) ⊎ (((k ≡ b) × (j ≡ a)) ⊎ ((k ≢ a) × (k ≢ b) × (j ≡ k)))

origin : (f g : ℕ → Named) (a b n : ℕ) → Swapped f g a b → a < n → b < n → (k : ℕ) → k < n → (j : ℕ) × (j < n) × (g k ≡ f j) × CameFrom a b k j
origin f g a b n sw la lb k l =
    elim (cases_eq k a) [
      | inl here ↦ (b, lb, ap g here ∙ sw.0, inl (here, refl))
      | inr other ↦ elim (cases_eq k b) [
        | inl there ↦ (a, la, ap g there ∙ sw.1, inr (inl (there, refl)))
        | inr none ↦ (k, l, sw.2 k other none, inr (inr (other, none, refl)))
      ]
    ]

one_origin : (a b i j x y : ℕ) → CameFrom a b i x → CameFrom a b j y → x ≡ y → i ≡ j
one_origin a b i j x y p q e = grind arith

exchanged : (l : List Named) (a b : ℕ) → a < length l → b < length l → AreDistinct l → AreDistinct (swap l a b)
exchanged l a b la lb distinct i j d li lj same =
    let len = length-swap l a b in
    let sw = swapped_from_swap l (swap l a b) a b d la lb refl in
    let (x, lx, gx, fx) = origin (λ k. get_or l k d) (λ k. get_or (swap l a b) k d) a b (length l) sw la lb i (omega (arith, li, len)) in
    let (y, ly, gy, fy) = origin (λ k. get_or l k d) (λ k. get_or (swap l a b) k d) a b (length l) sw la lb j (omega (arith, lj, len)) in
    one_origin a b i j x y fx fy (distinct x y d lx ly (ap (λ (n : Named). n.name) (sym gx) ∙ same ∙ ap (λ (n : Named). n.name) gy))

pub distinct_permuted : (ns ms : List Named) → IsPermutation ns ms → AreDistinct ns → AreDistinct ms
distinct_permuted ns ms p distinct = IsPermutation-keeps ns AreDistinct distinct exchanged ms p

-- ---- pool order keeps the words of each name

module _ {X : Type 0} (key : X → ℕ) (p : X → Bool) (at : ℕ) (all : (x : X) → p x ≡ true → key x ≡ at) where
  keyed : ℕ → ℕ → List X → List X
  keyed a n xs = flat_map (λ b. filter (λ x. key x == b) xs) (range_with_len a n)

  here_all : (xs : List X) → filter p (filter (λ x. key x == at) xs) ≡ filter p xs
  here_all xs = filter_twice p (λ x. key x == at) p (λ x. by x (p x) refl) xs where
    by : (x : X) (t : Bool) → p x ≡ t → p x ≡ ((key x == at) && p x)
    by x true e = e ∙ sym (ap (λ t. (key x == at) && t) e ∙ ap (λ t. t && true) (eq-eqb (key x) at (all x e)))
    by x false e = e ∙ sym (ap (λ t. (key x == at) && t) e ∙ none (key x == at)) where
      none : (t : Bool) → (t && false) ≡ false
      none true = refl
      none false = refl

  there_none : (b : ℕ) → b ≢ at → (xs : List X) → filter p (filter (λ x. key x == b) xs) ≡ []
  there_none b other xs = filter_twice p (λ x. key x == b) (λ x. false) (λ x. by x (p x) refl) xs ∙ filter_none (λ x. false) (λ x. refl) xs where
    by : (x : X) (t : Bool) → p x ≡ t → false ≡ ((key x == b) && p x)
    by x true e = sym (ap (λ t. t && p x) (ne_eqb (key x) b (λ is. other (sym is ∙ all x e))))
    by x false e = sym (ap (λ t. (key x == b) && t) e ∙ none (key x == b)) where
      none : (t : Bool) → (t && false) ≡ false
      none true = refl
      none false = refl

  before : (a n : ℕ) (xs : List X) → at < a → filter p (keyed a n xs) ≡ []
  unfolding keyed
  before a zero xs less = refl
  before a (suc n) xs less =
      filter-append p (filter (λ x. key x == a) xs) (keyed (a + 1) n xs)
      ∙ ap (λ l. l ++ filter p (keyed (a + 1) n xs)) (there_none a (λ is. omega (arith, is, less)) xs)
      ∙ before (a + 1) n xs (omega (arith, less))

  within : (a n : ℕ) (xs : List X) → a ≤ at → at < a + n → filter p (keyed a n xs) ≡ filter p xs
  unfolding keyed
  within a zero xs low high = absurd (omega (arith, low, high))
  within a (suc n) xs low high =
      filter-append p (filter (λ x. key x == a) xs) (keyed (a + 1) n xs)
      ∙ elim (cases_eq a at) [
        | inl same ↦
            ap (λ (k : ℕ). filter p (filter (λ x. key x == k) xs) ++ filter p (keyed (a + 1) n xs)) same
            ∙ ap (λ l. l ++ filter p (keyed (a + 1) n xs)) (here_all xs)
            ∙ ap (λ l. filter p xs ++ l) (before (a + 1) n xs (omega (arith, same)))
            ∙ append-nil (filter p xs)
        | inr other ↦
            ap (λ l. l ++ filter p (keyed (a + 1) n xs)) (there_none a other xs)
            ∙ within (a + 1) n xs (omega (arith, low, other)) (omega (arith, high))
      ]

pub sought_in_order : (name : List ℕ) (ns : List Named) → filter (is_sought name) (in_pool_order ns) ≡ filter (is_sought name) ns
unfolding in_pool_order keyed
sought_in_order name ns = within (λ n. bucket n.name) (is_sought name) (bucket name) (λ n e. ap bucket (same_bytes n.name name e)) 0 32 ns (omega arith) (omega (arith, names_have_buckets_lem name))

first_of_list : {X : Type 0} → List X → Option X
first_of_list [] = None
first_of_list (x ∷ xs) = Some x

find-filter : {X : Type 0} (p : X → Bool) (xs : List X) → find p xs ≡ first_of_list (filter p xs)
unfolding first_of_list
find-filter p [] = refl
find-filter p (x ∷ xs) = by (p x) (find-filter p xs) where
  by : (t : Bool) → find p xs ≡ first_of_list (filter p xs) → cond t (Some x) (find p xs) ≡ first_of_list (cond t (x ∷ filter p xs) (filter p xs))
  by true rest = refl
  by false rest = rest

pub words_in_order : (name : List ℕ) (ns : List Named) → words_under name (in_pool_order ns) ≡ words_under name ns
words_in_order name ns = ap (option_map (λ n. n.words)) (find-filter (is_sought name) (in_pool_order ns) ∙ ap first_of_list (sought_in_order name ns) ∙ sym (find-filter (is_sought name) ns))

-- ---- a scan result of the parts

pub well_formed_parts : (us : List CuBoundary) (ns ms : List Named) (placed : ℕ) (counts : List ℕ) → AreIndexParts us ns placed → HaveSmallWords ns → ms ≡ in_pool_order ns → counts ≡ length us ∷ [] → IsWellFormedScan (record { units = us; names = ms; placed = placed; unit_counts = counts })
well_formed_parts us ns ms placed counts p small order listed = record {
  units = p.units;
  counted = ap sum listed ∙ omega arith;
  names = subst (All (IsIndexName (length us))) (sym order) (All-permutation (IsIndexName (length us)) ns (in_pool_order ns) (pool_permutes ns) (λ k d l. record { named = p.names k d l; fit = small k d l }));
  distinct = subst AreDistinct (sym order) (distinct_permuted ns (in_pool_order ns) (pool_permutes ns) p.distinct);
}

abbrev counted_with : ℕ → ℕ → ℕ → ℕ → ℕ → IndexCounts
counted_with units placed names words bytes = record { units = units; placed = placed; names = names; words = words; name_bytes = bytes }

pub same_size : (us : List CuBoundary) (ns ms : List Named) (placed : ℕ) (counts : List ℕ) → ms ≡ in_pool_order ns → scan_counts (record { units = us; names = ms; placed = placed; unit_counts = counts }) ≡ scan_counts (scan_of_parts us ns placed)
same_size us ns ms placed counts order =
    ap (λ (xs : List Named). scan_counts (record { units = us; names = xs; placed = placed; unit_counts = counts })) order
    ∙ ap (λ n. counted_with (length us) placed n (word_count (in_pool_order ns)) (names_len (in_pool_order ns))) (length_permutation ns (in_pool_order ns) (pool_permutes ns))
    ∙ ap (λ n. counted_with (length us) placed (length ns) n (names_len (in_pool_order ns))) (sum_by-IsPermutation (λ (n : Named). length n.words) ns (in_pool_order ns) (pool_permutes ns))
    ∙ ap (λ n. counted_with (length us) placed (length ns) (word_count ns) n) (sum_by-IsPermutation name_len ns (in_pool_order ns) (pool_permutes ns))

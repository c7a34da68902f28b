-- Names with sorted CU vectors are those that are published.
use Rattle.std.proofs.Common.{◌≡◌, ◌≢◌, ◌⊎◌, Option, ℕ, zero, suc, ◌<◌, Bool, true, false, List, [], ◌∷◌, length, get_or, map, refl, sym, ap, ◌∙◌, subst, arith, inl, inr}
use Rattle.std.specs.List.{All, filter}
use Rattle.std.specs.List.Sorted.{IsPermutation}
use Rattle.std.specs.Str.{bytes_eq}
use Rattle.std.proofs.lemmas.Bool.{cases_Bool, cond-true, cond-false}
use Rattle.std.proofs.lemmas.List.Sorted.{length_permutation}
use Rattle.gdb_index_format.specs.Published.{Object, Pair, published, elements_in_order, IsVectorOf, firsts, by_bucket, pool_names}
use Rattle.gdb_index_format.specs.Named.{Named, AreDistinct, IsNamed, ListsPublished}
use Rattle.gdb_scan.specs.Groups.{names_of, values_of, groups}
use Rattle.gdb_index_format.proofs.Pooling.{by_bucket_permutes}
use Rattle.gdb_scan.specs.Buckets.{of_bucket, in_buckets}
use Rattle.gdb_scan.specs.Scan.{ObjectScan}
use Rattle.gdb_tables.specs.Scans.{words_from, pair_in, published_in_scans, AreScansOf}
use Rattle.gdb_tables.specs.Merged.{AreSorted}
use Rattle.gdb_scan.proofs.Grouping.{Name, same_from, eq_same, Lacks, Differ, Differ-firsts, Lacks-from_firsts, value-same, value-other, tabled}
use Rattle.gdb_scan.proofs.Pairing.{groups_alike, HaveSome, HaveSome-firsts}
use Rattle.gdb_tables.proofs.Pooled.{tabled_in_buckets, flat_alike, groups_of_bucket, HaveSome-permuted, Lacks-permuted, Differ-permuted}
use Rattle.gdb_tables.proofs.Publishing.{as_pair, as_pairs, ordered_words, objects_published, bucket_of_scans}

-- the values of a name among pairs are the elements of its CU vector
pub words_are : (ps : List Pair) (name : Name) → values_of name (as_pairs ps) ≡ elements_in_order name ps
words_are [] name = refl
words_are (p ∷ ps) name =
    elim (cases_Bool (bytes_eq p.name name)) [
      | inl same ↦ value-same name (as_pair p) (as_pairs ps) same ∙ ap (λ ws. p.word ∷ ws) (words_are ps name) ∙ sym (pair-same p ps name same)
      | inr other ↦ value-other name (as_pair p) (as_pairs ps) other ∙ words_are ps name ∙ sym (pair-other p ps name other)
    ] where
      pair-same : (p : Pair) (ps : List Pair) (name : Name) → bytes_eq p.name name ≡ true → elements_in_order name (p ∷ ps) ≡ p.word ∷ elements_in_order name ps
      pair-same p ps name e = ap (map (λ (x : Pair). x.word)) (cond-true (bytes_eq p.name name) (p ∷ filter (λ (x : Pair). bytes_eq x.name name) ps) (filter (λ (x : Pair). bytes_eq x.name name) ps) e)

      pair-other : (p : Pair) (ps : List Pair) (name : Name) → bytes_eq p.name name ≡ false → elements_in_order name (p ∷ ps) ≡ elements_in_order name ps
      pair-other p ps name e = ap (map (λ (x : Pair). x.word)) (cond-false (bytes_eq p.name name) (p ∷ filter (λ (x : Pair). bytes_eq x.name name) ps) (filter (λ (x : Pair). bytes_eq x.name name) ps) e)

names_sorted : (f : Name → List ℕ) (fs : List Name) (ns : List Named) → AreSorted (tabled f fs) ns → map (λ n. n.name) ns ≡ fs
names_sorted f [] [] h = refl
names_sorted f [] (n ∷ ns) h = absurd h
names_sorted f (m ∷ fs) [] h = absurd h
names_sorted f (m ∷ fs) (n ∷ ns) h = ap (λ k. k ∷ map (λ (x : Named). x.name) ns) h.0 ∙ ap (λ ks. m ∷ ks) (names_sorted f fs ns h.3)

-- what holds of each name of a sorted list
words_sorted : (ps : List Pair) (fs : List Name) (ns : List Named) → HaveSome (λ m. values_of m (as_pairs ps)) fs → AreSorted (tabled (λ m. values_of m (as_pairs ps)) fs) ns → All (λ n. (n.words ≢ []) × IsVectorOf n.name ps n.words) ns
words_sorted ps [] [] some h k d l = absurd (omega arith)
words_sorted ps [] (n ∷ ns) some h k d l = absurd h
words_sorted ps (m ∷ fs) [] some h k d l = absurd h
words_sorted ps (m ∷ fs) (n ∷ ns) some h zero d l =
    let values : values_of m (as_pairs ps) ≡ elements_in_order n.name ps = words_are ps m ∙ ap (λ k. elements_in_order k ps) (sym h.0) in (
      λ none. some.0 (nil_from (values_of m (as_pairs ps)) (sym (length_permutation (values_of m (as_pairs ps)) n.words h.1) ∙ ap length none)),
      record { same = subst (λ ws. IsPermutation ws n.words) values h.1; ascending = h.2 },
    ) where
      nil_from : (xs : List ℕ) → length xs ≡ 0 → xs ≡ []
      nil_from [] e = refl
      nil_from (x ∷ xs) e = absurd (omega (arith, e))
words_sorted ps (m ∷ fs) (n ∷ ns) some h (suc k) d l = words_sorted ps fs ns some.1 h.3 k d (omega arith)

-- a name is one of the list, or none of them
find_named : (ns : List Named) (name : Name) → ((i : ℕ) × IsNamed ns name i) ⊎ Lacks name (map (λ n. n.name) ns)
find_named [] name = inr tt
find_named (n ∷ ns) name =
    elim (cases_Bool (bytes_eq name n.name)) [
      | inl same ↦ inl (0, (omega arith, λ d. sym (same_from name n.name same)))
      | inr other ↦ elim (find_named ns name) [
        | inl later ↦ inl (suc later.0, (omega (arith, later.1.0), later.1.1))
        | inr never ↦ inr (other, never)
      ]
    ]

not_lacked : (ps : List Pair) (k : ℕ) (d : Pair) → k < length ps → Lacks (get_or ps k d).name (names_of (as_pairs ps)) → ⊥
not_lacked [] k d l h = omega arith
not_lacked (p ∷ ps) zero d l h = apart (bytes_eq p.name p.name) (eq_same p.name) h.0 where
  apart : (b : Bool) → b ≡ true → b ≡ false → ⊥
  apart b p q = cc
not_lacked (p ∷ ps) (suc k) d l h = not_lacked ps k d (omega arith) h.1

all_sorted : (ps : List Pair) (ns : List Named) → map (λ n. n.name) ns ≡ by_bucket (firsts (names_of (as_pairs ps))) → All (λ p. (i : ℕ) × IsNamed ns p.name i) ps
all_sorted ps ns names k d l =
    elim (find_named ns (get_or ps k d).name) [
      | inl found ↦ found
      | inr never ↦ absurd (not_lacked ps k d l (Lacks-from_firsts (get_or ps k d).name (names_of (as_pairs ps)) (Lacks-permuted (get_or ps k d).name (firsts (names_of (as_pairs ps))) (by_bucket (firsts (names_of (as_pairs ps)))) (by_bucket_permutes (firsts (names_of (as_pairs ps)))) (subst (λ fs. Lacks (get_or ps k d).name fs) names never))))
    ]

lacks_at : (ns : List Named) (name : Name) (k : ℕ) (d : Named) → k < length ns → Lacks name (map (λ n. n.name) ns) → name ≡ (get_or ns k d).name → ⊥
lacks_at [] name k d l h e = omega arith
lacks_at (n ∷ ns) name zero d l h e = apart (bytes_eq name n.name) (subst (λ x. bytes_eq name x ≡ true) e (eq_same name)) h.0 where
  apart : (b : Bool) → b ≡ true → b ≡ false → ⊥
  apart b p q = cc
lacks_at (n ∷ ns) name (suc k) d l h e = lacks_at ns name k d (omega arith) h.1 e

distinct_from : (ns : List Named) → Differ (map (λ n. n.name) ns) → AreDistinct ns
distinct_from [] h i j d p q e = absurd (omega arith)
distinct_from (n ∷ ns) h zero zero d p q e = refl
distinct_from (n ∷ ns) h zero (suc j) d p q e = absurd (lacks_at ns n.name j d (omega arith) h.0 e)
distinct_from (n ∷ ns) h (suc i) zero d p q e = absurd (lacks_at ns n.name i d (omega arith) h.0 (sym e))
distinct_from (n ∷ ns) h (suc i) (suc j) d p q e = ap suc (distinct_from ns h.1 i j d (omega arith) (omega arith) e)

pub lists_of : (ps : List Pair) (ns : List Named) → AreSorted (in_buckets (groups (as_pairs ps))) ns → ListsPublished ps ns
unfolding pool_names
lists_of ps ns h =
    let fs = firsts (names_of (as_pairs ps)) in
    let bs = by_bucket fs in
    let all = by_bucket_permutes fs in
    let sorted : AreSorted (tabled (λ m. values_of m (as_pairs ps)) bs) ns = subst (λ gs. AreSorted gs ns) (tabled_in_buckets (λ m. values_of m (as_pairs ps)) fs) h in
    let names : map (λ n. n.name) ns ≡ bs = names_sorted (λ m. values_of m (as_pairs ps)) bs ns sorted in
    record {
      order = names ∙ ap (λ ns. by_bucket (firsts ns)) (same_names ps);
      names = record { words = words_sorted ps bs ns (HaveSome-permuted (λ m. values_of m (as_pairs ps)) fs bs all (HaveSome-firsts (as_pairs ps))) sorted; all = all_sorted ps ns names };
      distinct = distinct_from ns (subst (λ xs. Differ xs) (sym names) (Differ-permuted fs bs all (Differ-firsts (names_of (as_pairs ps)))));
    } where
      same_names : (ps : List Pair) → names_of (as_pairs ps) ≡ map (λ p. p.name) ps
      same_names [] = refl
      same_names (p ∷ ps) = ap (λ xs. p.name ∷ xs) (same_names ps)

pairs_back : (ps : List (Name × ℕ)) → as_pairs (map pair_in ps) ≡ ps
pairs_back [] = refl
pairs_back (p ∷ ps) = ap (λ l. p ∷ l) (pairs_back ps)

pub lists_of_scans : (ss : List (Option ObjectScan)) (ns : List Named) → AreSorted (in_buckets (groups (words_from 0 ss))) ns → ListsPublished (published_in_scans ss) ns
lists_of_scans ss ns sorted = lists_of (published_in_scans ss) ns (subst (λ ps. AreSorted (in_buckets (groups ps)) ns) (sym (pairs_back (words_from 0 ss))) sorted)

-- by bucket, the groups of the scans are those of the objects
groups_of_objects : (os : List Object) (ss : List (Option ObjectScan)) → AreScansOf os ss → in_buckets (groups (words_from 0 ss)) ≡ in_buckets (groups (as_pairs (published os)))
groups_of_objects os ss scans =
    let ws = words_from 0 ss in
    let vs = ordered_words 0 os in
    flat_alike (λ b. of_bucket b (groups ws)) (λ b. of_bucket b (groups vs)) 0 32
    (λ b l. sym (groups_of_bucket b ws) ∙ ap (λ ps. groups ps) (bucket_of_scans b 0 os ss (omega (arith, l)) scans) ∙ groups_of_bucket b vs)
    ∙ ap in_buckets (groups_alike vs (as_pairs (published os)) (objects_published 0 os))

pub lists_of_objects : (os : List Object) (ss : List (Option ObjectScan)) (ns : List Named) → AreScansOf os ss → AreSorted (in_buckets (groups (words_from 0 ss))) ns → ListsPublished (published os) ns
lists_of_objects os ss ns scans sorted =
    lists_of (published os) ns (subst (λ gs. AreSorted gs ns) (groups_of_objects os ss scans) sorted)

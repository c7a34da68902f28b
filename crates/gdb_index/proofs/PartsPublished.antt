-- Names in pool order are those that their pairs of name and element publish.
use Rattle.std.proofs.Common.{◌≡◌, ◌≢◌, ℕ, zero, suc, ◌<◌, Bool, true, false, cond, not, List, [], ◌∷◌, ◌++◌, length, map, get_or, sym, refl, ap, subst, ◌∙◌, arith}
use Rattle.std.specs.Prelude.{◌==◌}
use Rattle.std.specs.List.{All, Contains, filter, flat_map, range_with_len}
use Rattle.std.specs.List.Sorted.{IsPermutation}
use Rattle.std.specs.Str.{bytes_eq}
use Rattle.std.proofs.lemmas.Bool.{cond-true, cond-false}
use Rattle.std.proofs.lemmas.List.{append-nil, map-append, get_or_default}
use Rattle.std.proofs.lemmas.List.Elements.{filter-append, All-append, All-map, All-tail, Contains-get_or}
use Rattle.std.proofs.lemmas.List.Sorted.{IsPermutation-refl, All-permutation, Contains-permutation}
use Rattle.gdb_index_format.specs.declared.unit.CuBoundary.{CuBoundary}
use Rattle.gdb_index_format.specs.Named.{Named, AreDistinct, IsNamed, ListsPublished, names_in}
use Rattle.gdb_index_format.specs.Published.{Pair, bucket, by_bucket, firsts, first_names, pool_names, elements_in_order, IsVectorOf}
use Rattle.gdb_index_format.proofs.Pooling.{filter_twice}
use Rattle.gdb_index.specs.FromParts.{AreIndexParts, in_pool_order, named_in_bucket, pairs_of_names}
use Rattle.gdb_index.proofs.PartsIndexed.{eq_bytes, apart, pool_permutes, distinct_permuted}

-- ---- names that differ

Lacks : List ℕ → List Named → Type 0
Lacks name ns = All (λ n. n.name ≢ name) ns

abbrev pair_of : List ℕ → ℕ → Pair
pair_of name word = record { name = name; word = word }

abbrev pairs_of_one : Named → List Pair
pairs_of_one n = map (λ w. record { name = n.name; word = w }) n.words

rest_distinct : (n : Named) (ns : List Named) → AreDistinct (n ∷ ns) → AreDistinct ns
rest_distinct n ns h i j d li lj e = let one : suc i ≡ suc j = h (suc i) (suc j) d (omega arith) (omega arith) e in omega arith

first_lacks : (n : Named) (ns : List Named) → AreDistinct (n ∷ ns) → Lacks n.name ns
unfolding Lacks
first_lacks n ns h k d l e = let one : suc k ≡ 0 = h (suc k) 0 d (omega arith) (omega arith) e in absurd (omega arith)

-- ---- the first names of the pairs

others : List ℕ → List (List ℕ) → List (List ℕ)
others name ms = filter (λ m. not (bytes_eq m name)) ms

others_twice : (name : List ℕ) (ms : List (List ℕ)) → others name (others name ms) ≡ others name ms
unfolding others
others_twice name ms = filter_twice (λ m. not (bytes_eq m name)) (λ m. not (bytes_eq m name)) (λ m. not (bytes_eq m name)) (λ m. both (not (bytes_eq m name))) ms where
  both : (t : Bool) → t ≡ (Rattle.std.specs.Prelude.◌&&◌ t t)
  both true = refl
  both false = refl

others_drop : (name : List ℕ) (ms : List (List ℕ)) → others name (name ∷ ms) ≡ others name ms
unfolding others
others_drop name ms = cond-false (not (bytes_eq name name)) (name ∷ others name ms) (others name ms) (ap not (eq_bytes name))

others_all : (name : List ℕ) (ns : List Named) → Lacks name ns → others name (names_in ns) ≡ names_in ns
unfolding others Lacks
others_all name [] h = refl
others_all name (n ∷ ns) h =
    cond-true (not (bytes_eq n.name name)) (n.name ∷ others name (names_in ns)) (others name (names_in ns)) (ap not (apart n.name name (h 0 n (omega arith))))
    ∙ ap (λ l. n.name ∷ l) (others_all name ns (All-tail (λ (m : Named). m.name ≢ name) n ns h))

repeated : (name : List ℕ) (ws : List ℕ) (rest : List (List ℕ)) → ws ≢ [] → firsts (map (λ w. name) ws ++ rest) ≡ name ∷ others name (firsts rest)
unfolding others
repeated name [] rest some = absurd (some refl)
repeated name (w ∷ []) rest some = refl
repeated name (w ∷ v ∷ vs) rest some =
    ap (λ l. name ∷ others name l) (repeated name (v ∷ vs) rest (λ e. cc e))
    ∙ ap (λ l. name ∷ l) (others_drop name (others name (firsts rest)) ∙ others_twice name (firsts rest))

abbrev HaveWords : List Named → Type 0
HaveWords ns = All (λ n. n.words ≢ []) ns

firsts_of_pairs : (ns : List Named) → HaveWords ns → AreDistinct ns → first_names (pairs_of_names ns) ≡ names_in ns
unfolding others
firsts_of_pairs [] some distinct = refl
firsts_of_pairs (n ∷ ns) some distinct =
    ap firsts (map-append (λ (p : Pair). p.name) (pairs_of_one n) (pairs_of_names ns))
    ∙ ap (λ l. firsts (l ++ map (λ (p : Pair). p.name) (pairs_of_names ns))) (named_alike n.words)
    ∙ repeated n.name n.words (map (λ (p : Pair). p.name) (pairs_of_names ns)) (some 0 n (omega arith))
    ∙ ap (λ l. n.name ∷ others n.name l) (firsts_of_pairs ns (All-tail (λ (m : Named). m.words ≢ []) n ns some) (rest_distinct n ns distinct))
    ∙ ap (λ l. n.name ∷ l) (others_all n.name ns (first_lacks n ns distinct)) where
      named_alike : (ws : List ℕ) → map (λ (p : Pair). p.name) (map (λ w. pair_of n.name w) ws) ≡ map (λ w. n.name) ws
      named_alike [] = refl
      named_alike (w ∷ ws) = ap (λ l. n.name ∷ l) (named_alike ws)

-- ---- the elements of a name

elements_cut : (name : List ℕ) (ps qs : List Pair) → elements_in_order name (ps ++ qs) ≡ elements_in_order name ps ++ elements_in_order name qs
elements_cut name ps qs = ap (map (λ (p : Pair). p.word)) (filter-append (λ (p : Pair). bytes_eq p.name name) ps qs) ∙ map-append (λ (p : Pair). p.word) (filter (λ (p : Pair). bytes_eq p.name name) ps) (filter (λ (p : Pair). bytes_eq p.name name) qs)

own_elements : (name : List ℕ) (ws : List ℕ) → elements_in_order name (map (λ w. pair_of name w) ws) ≡ ws
own_elements name [] = refl
own_elements name (w ∷ ws) =
    ap (map (λ (p : Pair). p.word)) (cond-true (bytes_eq name name) (pair_of name w ∷ filter (λ (p : Pair). bytes_eq p.name name) (map (λ w. pair_of name w) ws)) (filter (λ (p : Pair). bytes_eq p.name name) (map (λ w. pair_of name w) ws)) (eq_bytes name))
    ∙ ap (λ l. w ∷ l) (own_elements name ws)

other_elements : (name other : List ℕ) (ws : List ℕ) → other ≢ name → elements_in_order name (map (λ w. pair_of other w) ws) ≡ []
other_elements name other [] differ = refl
other_elements name other (w ∷ ws) differ =
    ap (map (λ (p : Pair). p.word)) (cond-false (bytes_eq other name) (pair_of other w ∷ filter (λ (p : Pair). bytes_eq p.name name) (map (λ w. pair_of other w) ws)) (filter (λ (p : Pair). bytes_eq p.name name) (map (λ w. pair_of other w) ws)) (apart other name differ))
    ∙ other_elements name other ws differ

none_of_name : (name : List ℕ) (ns : List Named) → Lacks name ns → elements_in_order name (pairs_of_names ns) ≡ []
unfolding Lacks
none_of_name name [] h = refl
none_of_name name (n ∷ ns) h =
    elements_cut name (pairs_of_one n) (pairs_of_names ns)
    ∙ ap (λ l. l ++ elements_in_order name (pairs_of_names ns)) (other_elements name n.name n.words (h 0 n (omega arith)))
    ∙ none_of_name name ns (All-tail (λ (m : Named). m.name ≢ name) n ns h)

words_of_name : (ns : List Named) → AreDistinct ns → (k : ℕ) (d : Named) → k < length ns → elements_in_order (get_or ns k d).name (pairs_of_names ns) ≡ (get_or ns k d).words
words_of_name [] distinct k d l = absurd (omega arith)
words_of_name (n ∷ ns) distinct zero d l =
    elements_cut n.name (pairs_of_one n) (pairs_of_names ns)
    ∙ ap (λ x. x ++ elements_in_order n.name (pairs_of_names ns)) (own_elements n.name n.words)
    ∙ ap (λ x. n.words ++ x) (none_of_name n.name ns (first_lacks n ns distinct))
    ∙ append-nil n.words
words_of_name (n ∷ ns) distinct (suc k) d l =
    let m = get_or ns k d in
    let differ : n.name ≢ m.name = λ e. let one : 0 ≡ suc k = distinct 0 (suc k) d (omega arith) l e in omega arith in
    elements_cut m.name (pairs_of_one n) (pairs_of_names ns)
    ∙ ap (λ x. x ++ elements_in_order m.name (pairs_of_names ns)) (other_elements m.name n.name n.words differ)
    ∙ words_of_name ns (rest_distinct n ns distinct) k d (omega arith)

-- ---- each pair has a name

stands_in : (ns ms : List Named) → IsPermutation ns ms → (k : ℕ) (d : Named) → k < length ns → (i : ℕ) × IsNamed ms (get_or ns k d).name i
stands_in ns ms p k d l =
    let (i, below, is) = Contains-permutation ns ms (get_or ns k d) p (Contains-get_or ns k d l) in
    (i, (below, λ e. ap (λ (n : Named). n.name) (get_or_default ms i e (get_or ns k d) below ∙ is)))

pairs_named : (P : List ℕ → Type 0) (ns : List Named) → All (λ n. P n.name) ns → All (λ p. P p.name) (pairs_of_names ns)
pairs_named P [] h = λ k d l. absurd (omega arith)
pairs_named P (n ∷ ns) h =
    All-append (λ (p : Pair). P p.name) (pairs_of_one n) (pairs_of_names ns)
    (All-map (λ (p : Pair). P p.name) (λ w. pair_of n.name w) n.words (λ k d l. h 0 n (omega arith)))
    (pairs_named P ns (All-tail (λ (m : Named). P m.name) n ns h))

-- ---- names by bucket

names_of_bucket : (b : ℕ) (ns : List Named) → names_in (named_in_bucket b ns) ≡ filter (λ n. bucket n == b) (names_in ns)
names_of_bucket b [] = refl
names_of_bucket b (n ∷ ns) = by (bucket n.name == b) (names_of_bucket b ns) where
  by : (t : Bool) → names_in (named_in_bucket b ns) ≡ filter (λ n. bucket n == b) (names_in ns) → names_in (cond t (n ∷ named_in_bucket b ns) (named_in_bucket b ns)) ≡ cond t (n.name ∷ filter (λ n. bucket n == b) (names_in ns)) (filter (λ n. bucket n == b) (names_in ns))
  by true e = ap (λ l. n.name ∷ l) e
  by false e = e

names_in_order : (ns : List Named) → names_in (in_pool_order ns) ≡ by_bucket (names_in ns)
unfolding in_pool_order
names_in_order ns = all (range_with_len 0 32) where
  all : (bs : List ℕ) → names_in (flat_map (λ b. named_in_bucket b ns) bs) ≡ flat_map (λ b. filter (λ n. bucket n == b) (names_in ns)) bs
  all [] = refl
  all (b ∷ bs) = map-append (λ (n : Named). n.name) (named_in_bucket b ns) (flat_map (λ b. named_in_bucket b ns) bs) ∙ ap (λ l. l ++ names_in (flat_map (λ b. named_in_bucket b ns) bs)) (names_of_bucket b ns) ∙ ap (λ l. filter (λ n. bucket n == b) (names_in ns) ++ l) (all bs)

pub published_parts : (us : List CuBoundary) (ns : List Named) (placed : ℕ) → AreIndexParts us ns placed → ListsPublished (pairs_of_names ns) (in_pool_order ns)
unfolding pool_names
published_parts us ns placed p =
    let vectors : All (λ n. (n.words ≢ []) × IsVectorOf n.name (pairs_of_names ns) n.words) ns =
    λ k d l. ((p.names k d l).some, record { same = subst (λ ws. IsPermutation (elements_in_order (get_or ns k d).name (pairs_of_names ns)) ws) (words_of_name ns p.distinct k d l) (IsPermutation-refl (elements_in_order (get_or ns k d).name (pairs_of_names ns))); ascending = (p.names k d l).ascending }) in
    record {
      order = names_in_order ns ∙ ap by_bucket (sym (firsts_of_pairs ns (λ k d l. (p.names k d l).some) p.distinct));
      names = record {
        words = All-permutation (λ n. (n.words ≢ []) × IsVectorOf n.name (pairs_of_names ns) n.words) ns (in_pool_order ns) (pool_permutes ns) vectors;
        all = pairs_named (λ name. (i : ℕ) × IsNamed (in_pool_order ns) name i) ns (λ k d l. stands_in ns (in_pool_order ns) (pool_permutes ns) k d l);
      };
      distinct = distinct_permuted ns (in_pool_order ns) (pool_permutes ns) p.distinct;
    }

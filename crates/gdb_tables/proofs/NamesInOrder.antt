-- The published names have one ascending order.
use Rattle.std.proofs.Common.{◌≡◌, ◌≢◌, ℕ, suc, ◌+◌, ◌<◌, Bool, true, false, cond, List, [], ◌∷◌, length, map, filter, get_or, Contains, refl, sym, ap, ◌∙◌, subst, arith, IsSortedByKey}
use Rattle.std.specs.declared.cmp.Ordering.{Ordering}
use Rattle.std.specs.declared.cmp.Ordering.TheVariants.{Less, Equal, Greater}
use Rattle.std.specs.Prelude.{bytes_eq}
use Rattle.std.specs.Cmp.Lexicographic.{slice_cmp}
use Rattle.std.specs.Ordering.{nat_cmp, is_lt, is_eq, ordering_reverse, eq_by_cmp}
use Rattle.std.specs.List.{list_any}
use Rattle.std.specs.List.Sorted.{IsPermutation, IsStrictlySortedBy}
use Rattle.std.proofs.lemmas.Cmp.{nat_list_cmp_total, eq_by_cmp_equiv}
use Rattle.std.proofs.lemmas.List.{get_or-map, length-map, nil_from_length}
use Rattle.std.proofs.lemmas.List.Sorted.{length_permutation}
use Rattle.std.proofs.lemmas.Map.Keys.{sorted_from_all_adjacent}
use Rattle.std.proofs.lemmas.Map.Lookups.{btree_set_from_contains, exact_bytes}
use Rattle.std.proofs.lemmas.Map.Views.{Contains-from_any, list_any-from_Contains}
use Rattle.std.proofs.lemmas.Slice.Eq.{bytes_eq-Decides}
use Rattle.gdb_index_format.specs.declared.name_words.NameWords.{NameWords}
use Rattle.gdb_index_format.specs.Named.{Named, named, all_named, AreNamesOf, AreDistinct, names_in}
use Rattle.gdb_index_format.specs.Published.{Pair, elements_in_order}

abbrev names_of_pairs : List Pair → List (List ℕ)
names_of_pairs ps = map (λ p. p.name) ps

-- a name with a word is a pair's
first_or_later : (name : List ℕ) (p : Pair) (ps : List Pair) (same : Bool) → bytes_eq p.name name ≡ same
    → (map (λ (q : Pair). q.word) (cond same (p ∷ filter (λ q. bytes_eq q.name name) ps) (filter (λ q. bytes_eq q.name name) ps)) ≢ [])
    → ((elements_in_order name ps ≢ []) → Contains (names_of_pairs ps) name) → Contains (names_of_pairs (p ∷ ps)) name
first_or_later name p ps true is some later = (0, omega arith, (bytes_eq-Decides p.name name).0 is)
first_or_later name p ps false is some later = let found = later some in (suc found.0, omega (arith, found.1), found.2)

of_some_pair : (name : List ℕ) (ps : List Pair) → (elements_in_order name ps ≢ []) → Contains (names_of_pairs ps) name
of_some_pair name [] some = absurd (some refl)
of_some_pair name (p ∷ ps) some = first_or_later name p ps (bytes_eq p.name name) refl some (of_some_pair name ps)

no_words : (xs ys : List ℕ) → IsPermutation xs ys → xs ≡ [] → ys ≡ []
no_words xs ys same none = nil_from_length ys (length_permutation xs ys same ∙ ap length none)

module _ (ps : List Pair) (ns : List Named) (are : AreNamesOf ps ns) (name : List ℕ) where
  of_pair : Contains (names_in ns) name → Contains (names_of_pairs ps) name
  of_pair found =
      let d : Named = record { name = name; words = [] } in
      let below : found.0 < length ns = omega (arith, found.1, length-map ns (λ (n : Named). n.name)) in
      let n = get_or ns found.0 d in
      let is : n.name ≡ name = sym (get_or-map (λ (m : Named). m.name) ns found.0 d name below) ∙ found.2 in
      let listed = are.words found.0 d below in
      subst (λ (k : List ℕ). Contains (names_of_pairs ps) k) is
      (of_some_pair n.name ps (λ none. listed.0 (no_words (elements_in_order n.name ps) n.words listed.1.same none)))

  of_name : Contains (names_of_pairs ps) name → Contains (names_in ns) name
  of_name found =
      let d : Pair = record { name = name; word = 0 } in
      let e : Named = record { name = name; words = [] } in
      let below : found.0 < length ps = omega (arith, found.1, length-map ps (λ (p : Pair). p.name)) in
      let is : (get_or ps found.0 d).name ≡ name = sym (get_or-map (λ (p : Pair). p.name) ps found.0 d name below) ∙ found.2 in
      let named_there = are.all found.0 d below in
      (named_there.0, omega (arith, named_there.1.0, length-map ns (λ (m : Named). m.name)), get_or-map (λ (m : Named). m.name) ns named_there.0 e name named_there.1.0 ∙ named_there.1.1 e ∙ is)

-- order
equal_if : (r : Ordering) → is_eq r ≡ true → r ≡ Equal
equal_if Less is = cc
equal_if Equal is = refl
equal_if Greater is = cc

only_less : (o p : Ordering) → o ≡ ordering_reverse p → is_lt p ≡ false → is_eq o ≡ false → o ≡ Less
only_less o Less back sorted differ = cc
only_less o Equal back sorted differ = let tie = ap is_eq (sym back) ∙ differ in cc
only_less o Greater back sorted differ = back

differ : (left right : List ℕ) (b : Bool) → is_eq (slice_cmp nat_cmp left right) ≡ b → ((left ≡ right) → ⊥) → b ≡ false
differ left right true is other = absurd (other (exact_bytes left right (equal_if (slice_cmp nat_cmp left right) is)))
differ left right false is other = refl

module _ (list : List NameWords) (distinct : AreDistinct (all_named list)) (sorted : IsSortedByKey (λ n. n.name.now) (slice_cmp nat_cmp) list) (first : NameWords) where
  at : (k : ℕ) (d : List ℕ) → k < length list → get_or (names_in (all_named list)) k d ≡ (get_or list k first).name.now
  at k d below =
      let long = length-map list named in
      get_or-map (λ (n : Named). n.name) (all_named list) k (named first) d (omega (arith, below, long)) ∙ ap (λ (n : Named). n.name) (get_or-map named list k first (named first) below)

  rises : (k : ℕ) (d : List ℕ) → k + 1 < length list → slice_cmp nat_cmp (get_or (names_in (all_named list)) k d) (get_or (names_in (all_named list)) (k + 1) d) ≡ Less
  rises k d below =
      let x = (get_or list k first).name.now in
      let y = (get_or list (k + 1) first).name.now in
      let long = length-map list named in
      let place : (i : ℕ) → i < length list → (e : Named) → (get_or (all_named list) i e).name ≡ (get_or list i first).name.now = λ i l e. ap (λ (n : Named). n.name) (get_or-map named list i first e l) in
      let other : (x ≡ y) → ⊥ = λ same. let no : k ≡ k + 1 = distinct k (k + 1) (named first) (omega (arith, long, below)) (omega (arith, long, below)) (place k (omega arith) (named first) ∙ same ∙ sym (place (k + 1) below (named first))) in omega (arith, no) in
      let less : slice_cmp nat_cmp x y ≡ Less = only_less (slice_cmp nat_cmp x y) (slice_cmp nat_cmp y x) (nat_list_cmp_total.antisymm x y) (sorted k first (omega arith) below) (differ x y (is_eq (slice_cmp nat_cmp x y)) refl other) in
      ap (λ (l : List ℕ). slice_cmp nat_cmp l (get_or (names_in (all_named list)) (k + 1) d)) (at k d (omega arith)) ∙ ap (λ (r : List ℕ). slice_cmp nat_cmp x r) (at (k + 1) d below) ∙ less

rising : (list : List NameWords) → AreDistinct (all_named list) → IsSortedByKey (λ n. n.name.now) (slice_cmp nat_cmp) list → IsStrictlySortedBy (slice_cmp nat_cmp) (names_in (all_named list))
unfolding IsStrictlySortedBy
rising [] distinct sorted = tt
rising (n ∷ ns) distinct sorted =
    sorted_from_all_adjacent nat_list_cmp_total (names_in (all_named (n ∷ ns))) n.name.now
    (λ k below. rises (n ∷ ns) distinct sorted n k n.name.now (omega (arith, below, length-map (all_named (n ∷ ns)) (λ (m : Named). m.name), length-map (n ∷ ns) named)))

both_or_none : (s t : Bool) → (s ≡ true → t ≡ true) → (t ≡ true → s ≡ true) → s ≡ t
both_or_none true t there back = sym (there refl)
both_or_none false true there back = back refl
both_or_none false false there back = refl

-- two ascending lists of the published names have the same names
pub one_list_of_names : (ps : List Pair) (ns ms : List NameWords) → AreNamesOf ps (all_named ns) → AreNamesOf ps (all_named ms) → AreDistinct (all_named ns) → AreDistinct (all_named ms)
    → IsSortedByKey (λ n. n.name.now) (slice_cmp nat_cmp) ns → IsSortedByKey (λ n. n.name.now) (slice_cmp nat_cmp) ms → names_in (all_named ns) ≡ names_in (all_named ms)
one_list_of_names ps ns ms left right left_distinct right_distinct left_sorted right_sorted =
    let total = nat_list_cmp_total in
    let A = names_in (all_named ns) in
    let B = names_in (all_named ms) in
    let over : (xs ys : List NameWords) → AreNamesOf ps (all_named xs) → AreNamesOf ps (all_named ys) → (q : List ℕ) → list_any (eq_by_cmp (slice_cmp nat_cmp) q) (names_in (all_named xs)) ≡ true → list_any (eq_by_cmp (slice_cmp nat_cmp) q) (names_in (all_named ys)) ≡ true =
    λ xs ys here there q any.
    list_any-from_Contains (eq_by_cmp_equiv total) q (names_in (all_named ys))
    (of_name ps (all_named ys) there q (of_pair ps (all_named xs) here q (Contains-from_any (λ x y e. exact_bytes x y (equal_if (slice_cmp nat_cmp x y) e)) q (names_in (all_named xs)) any))) in
    btree_set_from_contains total (record { keys = A }) (record { keys = B }) (rising ns left_distinct left_sorted) (rising ms right_distinct right_sorted)
    (λ q. both_or_none _ _ (over ns ms left right q) (over ms ns right left q)) exact_bytes

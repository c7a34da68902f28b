-- How many names, elements and bytes a merged list of names has.
use Rattle.std.proofs.Common.{◌≡◌, ℕ, ◌+◌, ◌≤◌, Bool, true, false, cond, not, List, [], ◌∷◌, length, map, refl, sym, ap, subst, ◌∙◌, arith}
use Rattle.std.specs.Prelude.{◌||◌}
use Rattle.std.specs.List.{sum_by, list_any}
use Rattle.std.proofs.lemmas.List.{length-append, length-map}
use Rattle.std.proofs.lemmas.List.Sums.{sum_by-cons}
use Rattle.std.proofs.lemmas.List.Sorted.{length_permutation}
use Rattle.std.proofs.lemmas.Slice.Eq.{bytes_eq-Decides}
use Rattle.gdb_index_format.specs.Named.{Named}
use Rattle.gdb_index.specs.Answers.{is_sought}
use Rattle.gdb_index.specs.Pool.{names_len}
use Rattle.gdb_index.specs.Scan.{word_count}
use Rattle.index_merge.specs.Joined.{moved_element}
use Rattle.index_merge.specs.Merged.{names_beside}
use Rattle.index_merge.specs.steps.Merging.{moved_name, joined_name, merged_from, merged_lists, AreOrdered}
use Rattle.index_merge.proofs.Orders.{order_of, Below, Rises, not_itself, turned, same_names, below_more, in_each, in_its}
use Rattle.index_merge.proofs.Held.{differs}

-- ---- the names of the second list that the first does not have

abbrev any_is : List ℕ → List Named → Bool
any_is q ns = list_any (is_sought q) ns

none_is : (q : List ℕ) (ns : List Named) → Below q ns → any_is q ns ≡ false
none_is q [] below = refl
none_is q (n ∷ ns) below = ap (λ t. t || any_is q ns) (differs n.name q (λ same. not_itself q n.name below.0 (sym same))) ∙ none_is q ns below.1

beside_none : (ms : List Named) → names_beside [] ms ≡ ms
beside_none [] = refl
beside_none (m ∷ ms) = ap (λ xs. m ∷ xs) (beside_none ms)

-- a name that is below all of the second list
beside_below : (n : Named) (ns ms : List Named) → Below n.name ms → names_beside (n ∷ ns) ms ≡ names_beside ns ms
beside_below n ns [] below = refl
beside_below n ns (m ∷ ms) below =
    ap (λ t. cond (not (t || any_is m.name ns)) (m ∷ names_beside (n ∷ ns) ms) (names_beside (n ∷ ns) ms)) (differs n.name m.name (not_itself n.name m.name below.0))
    ∙ ap (λ xs. cond (not (any_is m.name ns)) (m ∷ xs) xs) (beside_below n ns ms below.1)

beside_same : (n m : Named) (ns ms : List Named) → n.name ≡ m.name → Below m.name ms → names_beside (n ∷ ns) (m ∷ ms) ≡ names_beside ns ms
beside_same n m ns ms same below =
    ap (λ t. cond (not (t || any_is m.name ns)) (m ∷ names_beside (n ∷ ns) ms) (names_beside (n ∷ ns) ms)) ((bytes_eq-Decides n.name m.name).1 same)
    ∙ beside_below n ns ms (subst (λ q. Below q ms) (sym same) below)

beside_first : (m : Named) (ns ms : List Named) → Below m.name ns → names_beside ns (m ∷ ms) ≡ m ∷ names_beside ns ms
beside_first m ns ms below = ap (λ t. cond (not t) (m ∷ names_beside ns ms) (names_beside ns ms)) (none_is m.name ns below)

-- ---- what each name counts for

module _ (u : ℕ) (f : List ℕ → ℕ) where
  abbrev pub weigh : List Named → ℕ
  weigh ns = sum_by (λ n. f n.name) ns

  weigh-cons : (n : Named) (ns : List Named) → weigh (n ∷ ns) ≡ f n.name + weigh ns
  weigh-cons n ns = sum_by-cons (λ (m : Named). f m.name) n ns

  weigh_moved : (ms : List Named) → weigh (map (moved_name u) ms) ≡ weigh ms
  weigh_moved [] = refl
  weigh_moved (m ∷ ms) = weigh-cons (moved_name u m) (map (moved_name u) ms) ∙ ap (λ k. f m.name + k) (weigh_moved ms) ∙ sym (weigh-cons m ms)

  weigh_from : (n : Named) (ns : List Named) → Below n.name ns → ((ms : List Named) → Rises ms → weigh (merged_lists u ns ms) ≡ weigh ns + weigh (names_beside ns ms)) → (ms : List Named) → Rises ms → weigh (merged_from u n (merged_lists u ns) ms) ≡ weigh (n ∷ ns) + weigh (names_beside (n ∷ ns) ms)
  weigh_from n ns below later [] rises = omega (arith, weigh-cons n (merged_lists u ns []), weigh-cons n ns, later [] tt)
  weigh_from n ns below later (m ∷ ms) rises =
      in_its (λ xs. weigh xs ≡ weigh (n ∷ ns) + weigh (names_beside (n ∷ ns) (m ∷ ms))) (order_of n.name m.name) (n ∷ merged_lists u ns (m ∷ ms)) (joined_name u n m ∷ merged_lists u ns ms) (moved_name u m ∷ merged_from u n (merged_lists u ns) ms)
      (λ less. omega (arith, weigh-cons n (merged_lists u ns (m ∷ ms)), weigh-cons n ns, later (m ∷ ms) rises, ap weigh (beside_below n ns (m ∷ ms) (less, below_more n.name m.name ms less rises.0))))
      (λ equal. omega (arith, weigh-cons (joined_name u n m) (merged_lists u ns ms), weigh-cons n ns, later ms rises.1, ap weigh (beside_same n m ns ms (same_names n.name m.name equal) rises.0)))
      (λ greater. let less = turned n.name m.name greater in
      omega (arith, weigh-cons (moved_name u m) (merged_from u n (merged_lists u ns) ms), weigh-cons m (names_beside (n ∷ ns) ms), weigh_from n ns below later ms rises.1, ap weigh (beside_first m (n ∷ ns) ms (less, below_more m.name n.name ns less below))))

  pub weigh_merged : (ns ms : List Named) → Rises ns → Rises ms → weigh (merged_lists u ns ms) ≡ weigh ns + weigh (names_beside ns ms)
  weigh_merged [] ms left right = weigh_moved ms ∙ ap weigh (sym (beside_none ms)) ∙ plain (weigh (names_beside [] ms)) where
    plain : (k : ℕ) → k ≡ 0 + k
    plain k = omega arith
  weigh_merged (n ∷ ns) ms left right = weigh_from n ns left.0 (λ xs rises. weigh_merged ns xs left.1 rises) ms right

-- the same names in the same order
weigh_ordered : (f : List ℕ → ℕ) (ns ms : List Named) → AreOrdered ns ms → sum_by (λ n. f n.name) ns ≡ sum_by (λ n. f n.name) ms
weigh_ordered f [] [] all = refl
weigh_ordered f [] (m ∷ ms) all = absurd all
weigh_ordered f (n ∷ ns) [] all = absurd all
weigh_ordered f (n ∷ ns) (m ∷ ms) all = omega (arith, sum_by-cons (λ (x : Named). f x.name) n ns, sum_by-cons (λ (x : Named). f x.name) m ms, ap f all.0.name, weigh_ordered f ns ms all.1)

ones : (ns : List Named) → sum_by (λ n. 1) ns ≡ length ns
ones [] = refl
ones (n ∷ ns) = omega (arith, sum_by-cons (λ (x : Named). 1) n ns, ones ns)

-- ---- elements

words-cons : (n : Named) (ns : List Named) → word_count (n ∷ ns) ≡ length n.words + word_count ns
words-cons n ns = sum_by-cons (λ (m : Named). length m.words) n ns

module _ (u : ℕ) where
  words_moved : (ms : List Named) → word_count (map (moved_name u) ms) ≡ word_count ms
  words_moved [] = refl
  words_moved (m ∷ ms) = omega (arith, words-cons (moved_name u m) (map (moved_name u) ms), words-cons m ms, length-map m.words (moved_element u), words_moved ms)

  words_from : (n : Named) (ns : List Named) → ((ms : List Named) → word_count (merged_lists u ns ms) ≡ word_count ns + word_count ms) → (ms : List Named) → word_count (merged_from u n (merged_lists u ns) ms) ≡ word_count (n ∷ ns) + word_count ms
  words_from n ns later [] = omega (arith, words-cons n (merged_lists u ns []), words-cons n ns, later [])
  words_from n ns later (m ∷ ms) =
      in_each (λ xs. word_count xs ≡ word_count (n ∷ ns) + word_count (m ∷ ms)) (order_of n.name m.name) (n ∷ merged_lists u ns (m ∷ ms)) (joined_name u n m ∷ merged_lists u ns ms) (moved_name u m ∷ merged_from u n (merged_lists u ns) ms)
      (omega (arith, words-cons n (merged_lists u ns (m ∷ ms)), words-cons n ns, later (m ∷ ms)))
      (omega (arith, words-cons (joined_name u n m) (merged_lists u ns ms), words-cons n ns, words-cons m ms, later ms, length-append n.words (map (moved_element u) m.words), length-map m.words (moved_element u)))
      (omega (arith, words-cons (moved_name u m) (merged_from u n (merged_lists u ns) ms), words-cons m ms, length-map m.words (moved_element u), words_from n ns later ms))

  words_merged : (ns ms : List Named) → word_count (merged_lists u ns ms) ≡ word_count ns + word_count ms
  words_merged [] ms = words_moved ms ∙ plain (word_count ms) where
    plain : (k : ℕ) → k ≡ 0 + k
    plain k = omega arith
  words_merged (n ∷ ns) ms = words_from n ns (λ xs. words_merged ns xs) ms

words_ordered : (ns ms : List Named) → AreOrdered ns ms → word_count ns ≡ word_count ms
words_ordered [] [] all = refl
words_ordered [] (m ∷ ms) all = absurd all
words_ordered (n ∷ ns) [] all = absurd all
words_ordered (n ∷ ns) (m ∷ ms) all = omega (arith, words-cons n ns, words-cons m ms, length_permutation n.words m.words all.0.same, words_ordered ns ms all.1)

-- ---- all of them

pub record Sized (ns ms names : List Named) : Type 0 where
  pub names_are : length names ≡ length ns + length (names_beside ns ms)
  pub words_are : word_count names ≡ word_count ns + word_count ms
  pub bytes_are : names_len names ≡ names_len ns + names_len (names_beside ns ms)
  pub few : length names ≤ length ns + length ms

filtered : (ns ms : List Named) → length (names_beside ns ms) ≤ length ms
filtered ns [] = omega arith
filtered ns (m ∷ ms) = by (any_is m.name ns) (filtered ns ms) where
  by : (t : Bool) → length (names_beside ns ms) ≤ length ms → length (cond (not t) (m ∷ names_beside ns ms) (names_beside ns ms)) ≤ length (m ∷ ms)
  by true l = omega (arith, l)
  by false l = omega (arith, l)

pub sized : (u : ℕ) (ns ms names : List Named) → Rises ns → Rises ms → AreOrdered (merged_lists u ns ms) names → Sized ns ms names
sized u ns ms names left right ordered =
    let count : length names ≡ length ns + length (names_beside ns ms) = omega (arith, ones names, ones ns, ones (names_beside ns ms), weigh_ordered (λ q. 1) (merged_lists u ns ms) names ordered, weigh_merged u (λ q. 1) ns ms left right) in
    record {
      names_are = count;
      words_are = sym (words_ordered (merged_lists u ns ms) names ordered) ∙ words_merged u ns ms;
      bytes_are = sym (weigh_ordered (λ q. length q + 1) (merged_lists u ns ms) names ordered) ∙ weigh_merged u (λ q. length q + 1) ns ms left right;
      few = omega (arith, count, filtered ns ms);
    }

-- The names of a merged list are names of the merged index.
use Rattle.std.proofs.Common.{◌≡◌, ◌≢◌, ℕ, ◌+◌, ◌/◌, ◌%◌, ◌^◌, ◌<◌, ◌≤◌, List, [], ◌∷◌, ◌++◌, length, map, get_or, refl, sym, ap, subst, arith}
use Rattle.std.specs.List.{All}
use Rattle.std.proofs.lemmas.List.{length-map, get_or-map}
use Rattle.std.proofs.lemmas.List.Elements.{All-nil, All-cons, All-head, All-tail, All-append}
use Rattle.std.proofs.lemmas.List.Sorted.{All-permutation, length_permutation}
use Rattle.gdb_index_format.specs.Named.{Named}
use Rattle.gdb_index.specs.Scan.{IsNameFor, unit_number}
use Rattle.index_browser.specs.Areas.{unit_count}
use Rattle.index_browser.specs.Checked.{IsWellFormedIndex}
use Rattle.index_browser.specs.NameList.{IsNameListOf}
use Rattle.index_merge.specs.Joined.{moved_element}
use Rattle.index_merge.specs.steps.Merging.{moved_name, joined_name, merged_from, merged_lists, IsOrderedName, AreOrdered}
use Rattle.index_merge.proofs.Orders.{order_of, in_each}

-- a name that an index of so many units can hold, whose elements may have any order
pub record IsGood (count : ℕ) (n : Named) : Type 0 where
  pub no_zero : All (λ c. c ≢ 0) n.name
  pub some : n.words ≢ []
  pub units : All (λ w. unit_number w < count) n.words

module _ (u count : ℕ) where
  abbrev pub AreGood : List Named → Type 0
  AreGood ns = All (IsGood count) ns

  -- once they are moved
  abbrev pub AreGoodMoved : List Named → Type 0
  AreGoodMoved ms = All (λ m. IsGood count (moved_name u m)) ms

  good_moved : (ms : List Named) → AreGoodMoved ms → AreGood (map (moved_name u) ms)
  good_moved [] all = All-nil (IsGood count)
  good_moved (m ∷ ms) all = All-cons (IsGood count) (moved_name u m) (map (moved_name u) ms) (All-head (λ (x : Named). IsGood count (moved_name u x)) m ms all) (good_moved ms (All-tail (λ (x : Named). IsGood count (moved_name u x)) m ms all))

  some_left : (xs ys : List ℕ) → xs ≢ [] → xs ++ ys ≢ []
  some_left [] ys some none = some refl
  some_left (x ∷ xs) ys some none = cc

  good_joined : (n m : Named) → IsGood count n → IsGood count (moved_name u m) → IsGood count (joined_name u n m)
  good_joined n m g h = record {
    no_zero = g.no_zero;
    some = some_left n.words (map (moved_element u) m.words) g.some;
    units = All-append (λ w. unit_number w < count) n.words (map (moved_element u) m.words) g.units h.units;
  }

  good_from : (n : Named) (ns : List Named) → IsGood count n → ((ms : List Named) → AreGoodMoved ms → AreGood (merged_lists u ns ms)) → (ms : List Named) → AreGoodMoved ms → AreGood (merged_from u n (merged_lists u ns) ms)
  good_from n ns good later [] all = All-cons (IsGood count) n (merged_lists u ns []) good (later [] all)
  good_from n ns good later (m ∷ ms) all =
      let here = All-head (λ (x : Named). IsGood count (moved_name u x)) m ms all in
      let rest = All-tail (λ (x : Named). IsGood count (moved_name u x)) m ms all in
      in_each AreGood (order_of n.name m.name) (n ∷ merged_lists u ns (m ∷ ms)) (joined_name u n m ∷ merged_lists u ns ms) (moved_name u m ∷ merged_from u n (merged_lists u ns) ms)
      (All-cons (IsGood count) n (merged_lists u ns (m ∷ ms)) good (later (m ∷ ms) all))
      (All-cons (IsGood count) (joined_name u n m) (merged_lists u ns ms) (good_joined n m good here) (later ms rest))
      (All-cons (IsGood count) (moved_name u m) (merged_from u n (merged_lists u ns) ms) here (good_from n ns good later ms rest))

  pub good_merged : (ns ms : List Named) → AreGood ns → AreGoodMoved ms → AreGood (merged_lists u ns ms)
  good_merged [] ms left right = good_moved ms right
  good_merged (n ∷ ns) ms left right = good_from n ns (All-head (IsGood count) n ns left) (λ xs all. good_merged ns xs (All-tail (IsGood count) n ns left) all) ms right

  still_some : (xs ys : List ℕ) → xs ≢ [] → length ys ≡ length xs → ys ≢ []
  still_some [] ys some len none = some refl
  still_some (x ∷ xs) ys some len none = omega (arith, len, ap length none)

  good_ordered : (n m : Named) → IsGood count n → IsOrderedName n m → IsNameFor count m
  good_ordered n m g o = record {
    no_zero = subst (All (λ c. c ≢ 0)) (sym o.name) g.no_zero;
    some = still_some n.words m.words g.some (length_permutation n.words m.words o.same);
    ascending = o.ascending;
    units = All-permutation (λ w. unit_number w < count) n.words m.words o.same g.units;
  }

  pub all_ordered : (ns ms : List Named) → AreGood ns → AreOrdered ns ms → All (IsNameFor count) ms
  all_ordered [] [] all ordered = All-nil (IsNameFor count)
  all_ordered [] (m ∷ ms) all ordered = absurd ordered
  all_ordered (n ∷ ns) [] all ordered = absurd ordered
  all_ordered (n ∷ ns) (m ∷ ms) all ordered = All-cons (IsNameFor count) m ms (good_ordered n m (All-head (IsGood count) n ns all) ordered.0) (all_ordered ns ms (All-tail (IsGood count) n ns all) ordered.1)

-- ---- the names of both indexes

number_is : (units count w : ℕ) → units ≤ count → count ≤ 2 ^ 24 → w / 2 ^ 24 % 16 ≡ 0 → w % 2 ^ 24 < units → unit_number w < count
number_is units count w fewer few reserved below = omega (arith, fewer, few, reserved, below)

moved_number : (u units count w : ℕ) → u + units ≡ count → count ≤ 2 ^ 24 → w / 2 ^ 24 % 16 ≡ 0 → w % 2 ^ 24 < units → unit_number (w + u) < count
moved_number u units count w is few reserved below = omega (arith, is, few, reserved, below)

pub first_good : (b : List ℕ) (count : ℕ) (ns : List Named) → IsWellFormedIndex b → unit_count b ≤ count → count ≤ 2 ^ 24 → IsNameListOf b ns → All (IsGood count) ns
first_good b count ns w fewer few list k d below =
    let n = get_or ns k d in
    let f = w.found n.name n.words (list.found k d below) in
    record {
      no_zero = f.no_zero;
      some = f.some;
      units = λ i e inside. let el = f.well_formed i e inside in number_is (unit_count b) count (get_or n.words i e) fewer few el.reserved el.unit;
    }

pub second_good : (b : List ℕ) (u count : ℕ) (ms : List Named) → IsWellFormedIndex b → u + unit_count b ≡ count → count ≤ 2 ^ 24 → IsNameListOf b ms → All (λ m. IsGood count (moved_name u m)) ms
second_good b u count ms w is few list k d below =
    let m = get_or ms k d in
    let f = w.found m.name m.words (list.found k d below) in
    record {
      no_zero = f.no_zero;
      some = still_some u count m.words (map (moved_element u) m.words) f.some (length-map m.words (moved_element u));
      units = λ i e inside.
          let l : i < length m.words = omega (arith, inside, length-map m.words (moved_element u)) in
          let el = f.well_formed i e l in
          subst (λ x. unit_number x < count) (sym (get_or-map (moved_element u) m.words i e e l)) (moved_number u (unit_count b) count (get_or m.words i e) is few el.reserved el.unit);
    }

-- Names in byte order, each once.
use Rattle.std.proofs.Common.{◌≡◌, ◌≢◌, ℕ, ◌+◌, ◌<◌, Bool, true, false, cond, List, [], ◌∷◌, length, map, get_or, Option, Some, None, Ok, refl, sym, ap, subst, ◌∙◌, arith}
use Rattle.std.specs.Prelude.{bytes_eq, IsPermutation, IsSortedByKey, ◌&&◌, T, is_some}
use Rattle.std.specs.declared.cmp.Ordering.{Ordering}
use Rattle.std.specs.declared.cmp.Ordering.TheVariants.{Less, Equal, Greater}
use Rattle.std.specs.Cmp.Lexicographic.{slice_cmp}
use Rattle.std.specs.FinMap.{FinMap, from_entries, keys, entries, entries_sorted, contains_key-keys, get-from_entries}
use Rattle.std.specs.FinMap.Entries.{below_all, is_sorted, is_some-find}
use Rattle.std.specs.Ordering.{nat_cmp, is_lt, is_eq, ordering_reverse, eq_by_cmp}
use Rattle.std.specs.Option.{option_and_then}
use Rattle.std.specs.List.{All, AllByRecursion, AllPairs, Contains, filter, filter_map, cons_option, list_any, range_with_len}
use Rattle.std.specs.List.Sorted.{IsStrictlySortedBy}
use Rattle.std.proofs.lemmas.Cmp.{nat_list_cmp_total, eq_by_cmp_equiv}
use Rattle.std.proofs.lemmas.List.{get_or-map, get_or_default, length-map}
use Rattle.std.proofs.lemmas.List.Elements.{All-nil, All-cons, All-head, All-tail}
use Rattle.std.proofs.lemmas.List.Kept.{AllPairs-filter, IsStrictlySortedBy-filter}
use Rattle.std.proofs.lemmas.Bool.{lt-ltb}
use Rattle.elf_format.specs.Bytes.{u32_at}
use Rattle.gdb_index_format.specs.Version.{header_len}
use Rattle.std.proofs.lemmas.List.Sorted.{IsPermutation-map, All-permutation, list_any-IsPermutation}
use Rattle.std.proofs.lemmas.Map.Keys.{sorted_from_all_adjacent, IsDistinct-IsPermutation}
use Rattle.std.proofs.lemmas.Map.Made.{IsDistinct-from_AllPairs, AllPairs-from_IsDistinct}
use Rattle.std.proofs.lemmas.Map.Lookups.{btree_set_from_contains, exact_bytes}
use Rattle.std.proofs.lemmas.Map.Views.{Contains-from_any, list_any-from_Contains, any-filter_same}
use Rattle.std.proofs.lemmas.Slice.Eq.{bytes_eq-Decides}
use Rattle.gdb_index_format.specs.Named.{Named, names_in}
use Rattle.gdb_index.specs.declared.name_order.ByName.{ByName}
use Rattle.gdb_index.proofs.NameLists.{sorted_as}
use Rattle.gdb_index_format.specs.Probe.{probe, probe_from, step_at, slot_count, index_fault, unless_fault}
use Rattle.index_browser.specs.Checked.{PassesTests}
use Rattle.index_browser.specs.NameList.{IsNameListOf, IsNameListWith, elements_in, has_prefix}
use Rattle.index_browser.specs.Laws.{NameListsAreOne}
use Rattle.index_browser.specs.steps.Listing.{name_in, taken_names, listed_with, listed_from_slot, listed_slots, begins_with, HasVector, named_by, slot_named, all_slots_named, AreNamesIn}
use Rattle.index_browser.proofs.Headers.{header_len-least}
use Rattle.index_browser.proofs.ProbeAnswers.{names_have_vectors, names_differ, others_are_absent}

-- ---- order

equal_if : (r : Ordering) → is_eq r ≡ true → r ≡ Equal
equal_if Less is = cc
equal_if Equal is = refl
equal_if Greater is = cc

only_less : (o p : Ordering) → o ≡ ordering_reverse p → is_lt p ≡ false → is_eq o ≡ false → o ≡ Less
only_less o Less back sorted differ = cc
only_less o Equal back sorted differ = let tie = ap is_eq (sym back) ∙ differ in cc
only_less o Greater back sorted differ = back

differ : (left right : List ℕ) (b : Bool) → is_eq (slice_cmp nat_cmp left right) ≡ b → ((left ≡ right) → ⊥) → b ≡ false
differ left right true is other = absurd (other (exact_bytes left right (equal_if (slice_cmp nat_cmp left right) is)))
differ left right false is other = refl

abbrev compared : List ℕ → List ℕ → Ordering
compared = slice_cmp nat_cmp

abbrev pub IsInOrder : List Named → Type 0
IsInOrder names = IsSortedByKey (λ n. n.name) compared names

module _ (names : List Named) (sorted : IsInOrder names) (pairs : AllPairs (λ x y. x ≢ y) (names_in names)) (first : Named) where
  at : (k : ℕ) → k < length names → get_or (names_in names) k [] ≡ (get_or names k first).name
  at k below = get_or-map (λ (n : Named). n.name) names k first [] below

  rises : (k : ℕ) → k + 1 < length names → compared (get_or (names_in names) k []) (get_or (names_in names) (k + 1) []) ≡ Less
  rises k below =
      let x = (get_or names k first).name in
      let y = (get_or names (k + 1) first).name in
      let other : (x ≡ y) → ⊥ = λ same. pairs k (k + 1) [] (omega arith) (omega (arith, below, length-map names (λ (n : Named). n.name))) (at k (omega (arith, below)) ∙ same ∙ sym (at (k + 1) below)) in
      let less : compared x y ≡ Less = only_less (compared x y) (compared y x) (nat_list_cmp_total.antisymm x y) (sorted k first (omega arith) below) (differ x y (is_eq (compared x y)) refl other) in
      ap (λ (l : List ℕ). compared l (get_or (names_in names) (k + 1) [])) (at k (omega (arith, below))) ∙ ap (λ (r : List ℕ). compared x r) (at (k + 1) below) ∙ less

rising : (names : List Named) → IsInOrder names → AllPairs (λ x y. x ≢ y) (names_in names) → IsStrictlySortedBy compared (names_in names)
unfolding IsStrictlySortedBy
rising [] sorted pairs = tt
rising (n ∷ ns) sorted pairs =
    sorted_from_all_adjacent nat_list_cmp_total (names_in (n ∷ ns)) []
    (λ k below. rises (n ∷ ns) sorted pairs n k (omega (arith, below, length-map (n ∷ ns) (λ (m : Named). m.name))))

same_names_named : (ns : List Named) → map (λ (n : Named). n) ns ≡ ns
same_names_named [] = refl
same_names_named (n ∷ ns) = ap (λ (xs : List Named). n ∷ xs) (same_names_named ns)

pub slots_in_order : (xs : List (ByName (List ℕ))) → IsSortedByKey (λ n. n.name.now) compared xs → IsInOrder (all_slots_named xs)
slots_in_order xs sorted = sorted_as slot_named (λ n. n) xs (all_slots_named xs) (sym (same_names_named (all_slots_named xs))) sorted

-- ---- names that are sorted

both_or_none : (s t : Bool) → (s ≡ true → t ≡ true) → (t ≡ true → s ≡ true) → s ≡ t
both_or_none true t there back = sym (there refl)
both_or_none false true there back = back refl
both_or_none false false there back = refl

flips : (x y : List ℕ) → bytes_eq x y ≡ bytes_eq y x
flips x y = both_or_none (bytes_eq x y) (bytes_eq y x) (λ e. (bytes_eq-Decides y x).1 (sym ((bytes_eq-Decides x y).0 e))) (λ e. (bytes_eq-Decides x y).1 (sym ((bytes_eq-Decides y x).0 e)))

still_differ : (xs ys : List (List ℕ)) → IsPermutation xs ys → AllPairs (λ x y. x ≢ y) xs → AllPairs (λ x y. x ≢ y) ys
still_differ xs ys same pairs = AllPairs-from_IsDistinct bytes_eq-Decides ys (IsDistinct-IsPermutation bytes_eq flips xs ys same (IsDistinct-from_AllPairs bytes_eq-Decides xs pairs))

-- ---- the ascending list of names

abbrev holds : List (List ℕ) → List ℕ → Bool
holds names q = list_any (eq_by_cmp compared q) names

same_if : (x y : List ℕ) → eq_by_cmp compared x y ≡ true → x ≡ y
same_if x y e = exact_bytes x y (equal_if (compared x y) e)

held_of : (q : List ℕ) (names : List (List ℕ)) → Contains names q → holds names q ≡ true
held_of q names has = list_any-from_Contains (eq_by_cmp_equiv nat_list_cmp_total) q names has

contained : (q : List ℕ) (names : List (List ℕ)) → holds names q ≡ true → Contains names q
contained q names any = Contains-from_any same_if q names any

abbrev entry : List ℕ → List ℕ × Unit {0}
entry name = (name, tt)

-- the names of a list in ascending order, each once
ascending_names : List (List ℕ) → FinMap compared (Unit {0})
ascending_names names = from_entries (map entry names)

first_of : (s t : Bool) → T (s && t) → T s
first_of true t h = tt
first_of false t h = h

second_of : (s t : Bool) → T (s && t) → T t
second_of true t h = h
second_of false t h = absurd h

less_if : (o : Ordering) → T (is_lt o) → o ≡ Less
less_if Less h = refl
less_if Equal h = absurd h
less_if Greater h = absurd h

above : (x : List ℕ) (es : List (List ℕ × Unit {0})) → T (below_all compared x es) → AllByRecursion (λ y. compared x y ≡ Less) (map (λ e. e.0) es)
above x [] h = tt
above x (e ∷ es) h = (less_if (compared x e.0) (first_of (is_lt (compared x e.0)) (below_all compared x es) h), above x es (second_of (is_lt (compared x e.0)) (below_all compared x es) h))

entries_rise : (es : List (List ℕ × Unit {0})) → T (is_sorted compared es) → IsStrictlySortedBy compared (map (λ e. e.0) es)
unfolding IsStrictlySortedBy
entries_rise [] h = tt
entries_rise (e ∷ es) h = (above e.0 es (first_of (below_all compared e.0 es) (is_sorted compared es) h), entries_rise es (second_of (below_all compared e.0 es) (is_sorted compared es) h))

ascend : (names : List (List ℕ)) → IsStrictlySortedBy compared (keys (ascending_names names))
ascend names = entries_rise (entries (ascending_names names)) (entries_sorted (ascending_names names))

entries_back : (names : List (List ℕ)) → map (λ e. e.0) (map entry names) ≡ names
entries_back [] = refl
entries_back (n ∷ ns) = ap (λ xs. n ∷ xs) (entries_back ns)

hold_same : (names : List (List ℕ)) (q : List ℕ) → holds (keys (ascending_names names)) q ≡ holds names q
unfolding ascending_names
hold_same names q =
    sym (contains_key-keys (ascending_names names) q)
    ∙ ap is_some (get-from_entries nat_list_cmp_total (map entry names) q)
    ∙ is_some-find compared q (map entry names)
    ∙ ap (λ (ns : List (List ℕ)). holds ns q) (entries_back names)

-- the names of all slots in ascending order
abbrev all_names : List ℕ → List (List ℕ)
all_names b = keys (ascending_names (taken_names b))

there : (b q : List ℕ) → Contains (all_names b) q → Contains (taken_names b) q
there b q has = contained q (taken_names b) (sym (hold_same (taken_names b) q) ∙ held_of q (all_names b) has)

back : (b q : List ℕ) → Contains (taken_names b) q → Contains (all_names b) q
back b q has = contained q (all_names b) (hold_same (taken_names b) q ∙ held_of q (taken_names b) has)

has_vector : (b q : List ℕ) → PassesTests b → Contains (taken_names b) q → HasVector b q
has_vector b q p (k, below, is) = subst (HasVector b) is (names_have_vectors b p k q below)

all_names_are : (b : List ℕ) → PassesTests b → AreNamesIn b (all_names b)
all_names_are b p = record {
  ascending = ascend (taken_names b);
  vectors = λ k d below. has_vector b (get_or (all_names b) k d) p (there b (get_or (all_names b) k d) (k, below, get_or_default (all_names b) k (get_or (all_names b) k d) d below));
  absent = λ name lacks. others_are_absent b p name (λ has. lacks (back b name has));
}

-- ---- the list of names

names_back : (b : List ℕ) (names : List (List ℕ)) → names_in (map (named_by b) names) ≡ names
names_back b [] = refl
names_back b (n ∷ ns) = ap (λ xs. n ∷ xs) (names_back b ns)

abbrev IsFound : List ℕ → Named → Type 0
IsFound b n = (probe b n.name).answer ≡ Ok (Some n.words)

all_found : (b : List ℕ) (names : List (List ℕ)) → All (HasVector b) names → All (IsFound b) (map (named_by b) names)
all_found b names all = λ k d below.
    let l : k < length names = omega (arith, below, length-map names (named_by b)) in
    subst (IsFound b) (sym (get_or-map (named_by b) names k [] d l)) (found_by (get_or names k []) (all k [] l)) where
      found_by : (name : List ℕ) → HasVector b name → IsFound b (named_by b name)
      found_by name (elements, is) = is ∙ ap (λ a. Ok (Some (elements_in a))) (sym is)

list_is : (b : List ℕ) (names : List (List ℕ)) → AreNamesIn b names → IsNameListOf b (map (named_by b) names)
list_is b names are = record {
  ascending = subst (IsStrictlySortedBy (slice_cmp nat_cmp)) (sym (names_back b names)) are.ascending;
  found = all_found b names are.vectors;
  absent = λ name lacks. are.absent name (λ has. lacks (subst (λ xs. Contains xs name) (sym (names_back b names)) has));
}

kept : (t : Bool) (b prefix n : List ℕ) (xs : List (List ℕ)) (ys : List Named) → map (named_by b) xs ≡ ys → map (named_by b) (cond t (n ∷ xs) xs) ≡ cond t (named_by b n ∷ ys) ys
kept true b prefix n xs ys is = ap (λ zs. named_by b n ∷ zs) is
kept false b prefix n xs ys is = is

prefix_kept : (b prefix : List ℕ) (names : List (List ℕ)) → map (named_by b) (filter (begins_with prefix) names) ≡ filter (has_prefix prefix) (map (named_by b) names)
prefix_kept b prefix [] = refl
prefix_kept b prefix (n ∷ ns) = kept (begins_with prefix n) b prefix n (filter (begins_with prefix) ns) (filter (has_prefix prefix) (map (named_by b) ns)) (prefix_kept b prefix ns)

-- ---- the names that begin with a prefix

listed_name_of : (t : Bool) (n : Named) (ns : List Named) → cons_option (cond t (Some n) None) ns ≡ cond t (n ∷ ns) ns
listed_name_of true n ns = refl
listed_name_of false n ns = refl

chosen : (t : Bool) (b name : List ℕ) (names : List (List ℕ)) → cond t (named_by b name ∷ map (named_by b) names) (map (named_by b) names) ≡ map (named_by b) (cond t (name ∷ names) names)
chosen true b name names = refl
chosen false b name names = refl

listed_one : (b prefix : List ℕ) (o : Option (List ℕ)) (ns : List Named) (names : List (List ℕ)) → ns ≡ map (named_by b) (filter (begins_with prefix) names)
    → cons_option (option_and_then (listed_with b prefix) o) ns ≡ map (named_by b) (filter (begins_with prefix) (cons_option o names))
listed_one b prefix None ns names is = is
listed_one b prefix (Some name) ns names is =
    listed_name_of (begins_with prefix name) (named_by b name) ns
    ∙ ap (λ (xs : List Named). cond (begins_with prefix name) (named_by b name ∷ xs) xs) is
    ∙ chosen (begins_with prefix name) b name (filter (begins_with prefix) names)

listed_are : (b prefix : List ℕ) (ks : List ℕ) → filter_map (listed_from_slot b prefix) ks ≡ map (named_by b) (filter (begins_with prefix) (filter_map (name_in b) ks))
listed_are b prefix [] = refl
listed_are b prefix (k ∷ ks) = listed_one b prefix (name_in b k) (filter_map (listed_from_slot b prefix) ks) (filter_map (name_in b) ks) (listed_are b prefix ks)

-- an element is its name with the elements of that name
abbrev IsNamedBy : List ℕ → Named → Type 0
IsNamedBy b n = n ≡ named_by b n.name

all_named_by : (b : List ℕ) (names : List (List ℕ)) → All (IsNamedBy b) (map (named_by b) names)
all_named_by b [] = All-nil (IsNamedBy b)
all_named_by b (n ∷ ns) = All-cons (IsNamedBy b) (named_by b n) (map (named_by b) ns) refl (all_named_by b ns)

by_names : (b : List ℕ) (ns : List Named) → All (IsNamedBy b) ns → ns ≡ map (named_by b) (names_in ns)
by_names b [] all = refl
by_names b (n ∷ ns) all = ap (λ (m : Named). m ∷ ns) (All-head (IsNamedBy b) n ns all) ∙ ap (λ (xs : List Named). named_by b n.name ∷ xs) (by_names b ns (All-tail (IsNamedBy b) n ns all))

-- the names of the slots that begin with a prefix, once they are sorted
module _ (b prefix : List ℕ) (p : PassesTests b) (ns : List Named) (same : IsPermutation (listed_slots b prefix) ns) (sorted : IsInOrder ns) where
  abbrev begun : List (List ℕ)
  begun = filter (begins_with prefix) (taken_names b)

  permuted : IsPermutation (map (named_by b) begun) ns
  permuted = subst (λ (xs : List Named). IsPermutation xs ns) (listed_are b prefix (range_with_len 0 (slot_count b))) same

  names_permuted : IsPermutation begun (names_in ns)
  names_permuted = subst (λ (xs : List (List ℕ)). IsPermutation xs (names_in ns)) (names_back b begun) (IsPermutation-map (λ (n : Named). n.name) (map (named_by b) begun) ns permuted)

  ns_rise : IsStrictlySortedBy compared (names_in ns)
  ns_rise = rising ns sorted (still_differ begun (names_in ns) names_permuted (AllPairs-filter (λ x y. x ≢ y) (begins_with prefix) (taken_names b) (names_differ b p)))

  held_begun : (q : List ℕ) (names : List (List ℕ)) → holds (filter (begins_with prefix) names) q ≡ (begins_with prefix q && holds names q)
  held_begun q names = any-filter_same (eq_by_cmp compared q) (begins_with prefix) (begins_with prefix q) (λ k e. ap (begins_with prefix) (sym (same_if q k e))) names

  same_held : (q : List ℕ) → holds (names_in ns) q ≡ holds (filter (begins_with prefix) (all_names b)) q
  same_held q =
      sym (list_any-IsPermutation (eq_by_cmp compared q) begun (names_in ns) names_permuted)
      ∙ held_begun q (taken_names b)
      ∙ ap (λ t. begins_with prefix q && t) (sym (hold_same (taken_names b) q))
      ∙ sym (held_begun q (all_names b))

  names_are : names_in ns ≡ filter (begins_with prefix) (all_names b)
  names_are =
      btree_set_from_contains nat_list_cmp_total (record { keys = names_in ns }) (record { keys = filter (begins_with prefix) (all_names b) })
      ns_rise (IsStrictlySortedBy-filter compared (begins_with prefix) (all_names b) (ascend (taken_names b))) same_held exact_bytes

  pub names_listed : IsNameListWith b prefix ns
  names_listed = (
    map (named_by b) (all_names b),
    list_is b (all_names b) (all_names_are b p),
    by_names b ns (All-permutation (IsNamedBy b) (map (named_by b) begun) ns permuted (all_named_by b begun)) ∙ ap (map (named_by b)) names_are ∙ prefix_kept b prefix (all_names b),
  )

-- every name begins with no byte
no_prefix : (ns : List Named) → filter (has_prefix []) ns ≡ ns
no_prefix [] = refl
no_prefix (n ∷ ns) = ap (λ xs. n ∷ xs) (no_prefix ns)

pub listed_all : (b : List ℕ) (entries : List Named) → IsNameListWith b [] entries → IsNameListOf b entries
listed_all b entries (all, list, is) = subst (IsNameListOf b) (sym (is ∙ no_prefix all)) list

-- bytes of length 0 hold no name
pub nothing_in : (b name : List ℕ) → b ≡ [] → (probe b name).answer ≡ Ok None
unfolding probe
nothing_in b name empty =
    ap (λ t. (cond t (record { answer = Ok None; steps = 0 }) (unless_fault (index_fault b) (probe_from (step_at b name) (slot_count b) 0))).answer)
    (lt-ltb (length b) (header_len (u32_at b 0)) (omega (arith, ap length empty, header_len-least (u32_at b 0))))

pub listed_none : (b prefix : List ℕ) → b ≡ [] → IsNameListWith b prefix []
unfolding IsStrictlySortedBy
listed_none b prefix empty = ([], record { ascending = tt; found = All-nil (IsFound b); absent = λ name lacks. nothing_in b name empty }, refl)

-- ---- one list

named_back : (b : List ℕ) (ns : List Named) → All (IsFound b) ns → map (named_by b) (names_in ns) ≡ ns
named_back b [] all = refl
named_back b (n ∷ ns) all =
    ap (λ a. record { name = n.name; words = elements_in a } ∷ map (named_by b) (names_in ns)) (All-head (IsFound b) n ns all)
    ∙ ap (λ xs. n ∷ xs) (named_back b ns (All-tail (IsFound b) n ns all))

abbrev has : List ℕ → List Named → Bool
has q ns = holds (names_in ns) q

found_in : (b q : List ℕ) (ns : List Named) → All (IsFound b) ns → Contains (names_in ns) q → HasVector b q
found_in b q ns all (k, below, is) =
    let d : Named = record { name = q; words = [] } in
    let l : k < length ns = omega (arith, below, length-map ns (λ (n : Named). n.name)) in
    let n = get_or ns k d in
    (n.words, subst (λ x. (probe b x).answer ≡ Ok (Some n.words)) (sym (get_or-map (λ (m : Named). m.name) ns k d q l) ∙ is) (all k d l))

lacks_of : (q : List ℕ) (ns : List Named) → has q ns ≡ false → Contains (names_in ns) q → ⊥
lacks_of q ns none has = let some = held_of q (names_in ns) has in cc

over : (b q : List ℕ) (ns ms : List Named) (t : Bool) → IsNameListOf b ns → IsNameListOf b ms → has q ms ≡ t → has q ns ≡ true → t ≡ true
over b q ns ms true one other is any = refl
over b q ns ms false one other is any =
    let found = found_in b q ns one.found (contained q (names_in ns) any) in
    let absent = other.absent q (lacks_of q ms is) in
    let clash : Ok (Some found.0) ≡ Ok None = sym found.1 ∙ absent in
    absurd cc

same_names : (b : List ℕ) (ns ms : List Named) → IsNameListOf b ns → IsNameListOf b ms → names_in ns ≡ names_in ms
same_names b ns ms one other =
    btree_set_from_contains nat_list_cmp_total (record { keys = names_in ns }) (record { keys = names_in ms }) one.ascending other.ascending
    (λ q. both_or_none (has q ns) (has q ms) (over b q ns ms (has q ms) one other refl) (over b q ms ns (has q ns) other one refl)) exact_bytes

pub name_lists_are_one_lem : NameListsAreOne
name_lists_are_one_lem b ns ms one other = sym (named_back b ns one.found) ∙ ap (map (named_by b)) (same_names b ns ms one other) ∙ named_back b ms other.found

-- The merged index: what it is written from, its size, and what it lists and answers.
use Rattle.std.proofs.Common.{◌≡◌, ◌≢◌, ℕ, ◌+◌, ◌^◌, ◌<◌, ◌≤◌, Bool, true, false, cond, eqb, List, [], ◌∷◌, ◌++◌, length, map, get_or, Option, Some, None, Result, Ok, refl, sym, ap, subst, ◌∙◌, arith, inl}
use Rattle.std.specs.Prelude.{find}
use Rattle.std.specs.Option.{option_map}
use Rattle.std.specs.Str.{bytes_eq}
use Rattle.std.specs.List.{All}
use Rattle.std.specs.List.Sorted.{IsPermutation, IsNonDecreasing}
use Rattle.std.proofs.lemmas.Bool.{eqb-true, lt-ltb}
use Rattle.std.proofs.lemmas.List.{length-append, length-map, get_or-map}
use Rattle.std.proofs.lemmas.List.Elements.{All-head, All-tail, All-append}
use Rattle.elf_format.specs.Bytes.{le, u32_at}
use Rattle.gdb_index_format.specs.declared.bad_index.BadIndex.{BadIndex}
use Rattle.gdb_index_format.specs.declared.unit.CuBoundary.{CuBoundary}
use Rattle.gdb_index_format.specs.declared.placement.AddressEntry.{AddressEntry}
use Rattle.gdb_index_format.specs.declared.version.IndexVersion.{IndexVersion}
use Rattle.gdb_index_format.specs.Named.{Named}
use Rattle.gdb_index_format.specs.Probe.{probe, probe_from, step_at, slot_count, index_fault, unless_fault}
use Rattle.gdb_index_format.specs.Size.{Counts, size_with, IsSize}
use Rattle.gdb_index_format.specs.Units.{index_units}
use Rattle.gdb_index_format.specs.Version.{version_number, header_len}
use Rattle.gdb_index.specs.Answers.{AnswersFor, is_sought, words_under}
use Rattle.gdb_index.specs.FromParts.{AreIndexParts, scan_of_parts}
use Rattle.gdb_index.specs.Layout.{IsLayoutOf}
use Rattle.gdb_index.specs.Scan.{Scan, IsNameFor, unit_number}
use Rattle.gdb_index.specs.Size.{format_counts, scan_counts, IsIndexSize}
use Rattle.gdb_index.specs.declared.size.IndexCounts.{IndexCounts}
use Rattle.index_browser.specs.Areas.{index_addresses, unit_count, AreAddresses}
use Rattle.index_browser.specs.Checked.{IsWellFormedIndex}
use Rattle.index_browser.specs.Laws.{LayoutIsChecked, LayoutListsAddresses}
use Rattle.index_browser.specs.NameList.{elements_of}
use Rattle.index_merge.specs.Joined.{moved_element, elements_of_both, IsJoinedAnswer}
use Rattle.index_merge.specs.Merged.{moved_unit, moved_address, units_of_both, addresses_of_both, units_in_all, merged_counts, IsMergedSize, IsMergedIndex}
use Rattle.index_merge.specs.steps.Merging.{merged_lists, IsOrderedName, AreOrdered, AreMergedNames, IsScanOfBoth}
use Rattle.index_merge.proofs.Orders.{order_of, Below, Rises, rises_of, rises_merged, distinct_of}
use Rattle.index_merge.proofs.Held.{held, held_merged, held_is}
use Rattle.index_merge.proofs.Sizes.{Sized, sized}
use Rattle.index_merge.proofs.Goods.{good_merged, all_ordered, first_good, second_good}

-- ---- lists of both indexes

pub units_length : (first second : List ℕ) (offset : ℕ) → length (units_of_both first second offset) ≡ units_in_all first second
units_length first second offset = omega (arith, length-append (index_units first) (map (moved_unit offset) (index_units second)), length-map (index_units second) (moved_unit offset))

pub addresses_length : (first second : List ℕ) → length (addresses_of_both first second) ≡ length (index_addresses first) + length (index_addresses second)
addresses_length first second = omega (arith, length-append (index_addresses first) (map (moved_address (unit_count first)) (index_addresses second)), length-map (index_addresses second) (moved_address (unit_count first)))

below_all : (xs : List AddressEntry) (n m : ℕ) → n ≤ m → All (λ a. a.unit < n) xs → All (λ a. a.unit < m) xs
below_all xs n m l all k d inside = let h = all k d inside in omega (arith, l, h)

moved_below : (xs : List AddressEntry) (u n : ℕ) → All (λ a. a.unit < n) xs → All (λ a. a.unit < u + n) (map (moved_address u) xs)
moved_below xs u n all k d inside =
    let l : k < length xs = omega (arith, inside, length-map xs (moved_address u)) in
    let h : (get_or xs k d).unit < n = all k d l in
    let is : (get_or (map (moved_address u) xs) k d).unit ≡ (get_or xs k d).unit + u = ap (λ (a : AddressEntry). a.unit) (get_or-map (moved_address u) xs k d d l) in
    omega (arith, is, h)

pub addresses_exist : (first second : List ℕ) → IsWellFormedIndex first → IsWellFormedIndex second → All (λ a. a.unit < units_in_all first second) (addresses_of_both first second)
addresses_exist first second w v =
    All-append (λ (a : AddressEntry). a.unit < units_in_all first second) (index_addresses first) (map (moved_address (unit_count first)) (index_addresses second))
    (below_all (index_addresses first) (unit_count first) (units_in_all first second) (omega arith) w.units_exist)
    (moved_below (index_addresses second) (unit_count first) (unit_count second) v.units_exist)

no_entry : (xs : List AddressEntry) (n : ℕ) → n ≡ 0 → All (λ a. a.unit < n) xs → xs ≡ []
no_entry [] n none all = refl
no_entry (x ∷ xs) n none all = let h : x.unit < n = All-head (λ (a : AddressEntry). a.unit < n) x xs all in absurd (omega (arith, h, none))

no_element : (ws : List ℕ) (n : ℕ) → n ≡ 0 → ws ≢ [] → All (λ w. unit_number w < n) ws → ⊥
no_element [] n none some all = some refl
no_element (w ∷ ws) n none some all = let h : unit_number w < n = All-head (λ x. unit_number x < n) w ws all in omega (arith, h, none)

no_name : (ns : List Named) (n : ℕ) → n ≡ 0 → All (IsNameFor n) ns → ns ≡ []
no_name [] n none all = refl
no_name (x ∷ xs) n none all = let h = All-head (IsNameFor n) x xs all in absurd (no_element x.words n none h.some h.units)

-- ---- names in order

below_ordered : (q : List ℕ) (ns ms : List Named) → AreOrdered ns ms → Below q ns → Below q ms
below_ordered q [] [] all below = tt
below_ordered q [] (m ∷ ms) all below = absurd all
below_ordered q (n ∷ ns) [] all below = absurd all
below_ordered q (n ∷ ns) (m ∷ ms) all below = (ap (order_of q) all.0.name ∙ below.0, below_ordered q ns ms all.1 below.1)

rises_ordered : (ns ms : List Named) → AreOrdered ns ms → Rises ns → Rises ms
rises_ordered [] [] all rises = tt
rises_ordered [] (m ∷ ms) all rises = absurd all
rises_ordered (n ∷ ns) [] all rises = absurd all
rises_ordered (n ∷ ns) (m ∷ ms) all rises = (subst (λ q. Below q ms) (sym all.0.name) (below_ordered n.name ns ms all.1 rises.0), rises_ordered ns ms all.1 rises.1)

-- the answer for a name whose elements these are
abbrev IsAnswerOf : List ℕ → Option (List ℕ) → Type 0
IsAnswerOf xs None = xs ≡ []
IsAnswerOf xs (Some ws) = (ws ≢ []) × IsPermutation xs ws × IsNonDecreasing ws

answer_chosen : (t : Bool) (q : List ℕ) (n m : Named) (ns ms : List Named) → m.words ≢ [] → IsOrderedName n m → IsAnswerOf (held q ns) (words_under q ms) → IsAnswerOf (cond t n.words (held q ns)) (option_map (λ (x : Named). x.words) (cond t (Some m) (find (is_sought q) ms)))
answer_chosen true q n m ns ms some o later = (some, o.same, o.ascending)
answer_chosen false q n m ns ms some o later = later

ordered_answer : (q : List ℕ) (ns ms : List Named) (count : ℕ) → AreOrdered ns ms → All (IsNameFor count) ms → IsAnswerOf (held q ns) (words_under q ms)
ordered_answer q [] [] count all named = refl
ordered_answer q [] (m ∷ ms) count all named = absurd all
ordered_answer q (n ∷ ns) [] count all named = absurd all
ordered_answer q (n ∷ ns) (m ∷ ms) count all named =
    let o = all.0 in
    let here = answer_chosen (bytes_eq m.name q) q n m ns ms (All-head (IsNameFor count) m ms named).some o (ordered_answer q ns ms count all.1 (All-tail (IsNameFor count) m ms named)) in
    subst (λ p. IsAnswerOf (cond (bytes_eq p q) n.words (held q ns)) (words_under q (m ∷ ms))) o.name here

joined_answer : (first second q : List ℕ) (o : Option (List ℕ)) → IsAnswerOf (elements_of_both first second q) o → IsJoinedAnswer first second q (Ok o)
joined_answer first second q None is = is
joined_answer first second q (Some ws) is = (is.0, record { same = is.1; ascending = is.2 })

-- ---- what follows of the names of both indexes

module _ (first second : List ℕ) (names : List Named) (w : IsWellFormedIndex first) (v : IsWellFormedIndex second) (few : units_in_all first second ≤ 2 ^ 24) (m : AreMergedNames first second names) where
  left : Rises m.ns
  left = rises_of m.ns m.listed.ascending

  right : Rises m.ms
  right = rises_of m.ms m.second_listed.ascending

  pub sized_names : Sized m.ns m.ms names
  sized_names = sized (unit_count first) m.ns m.ms names left right m.ordered

  pub named_for : All (IsNameFor (units_in_all first second)) names
  named_for =
      all_ordered (unit_count first) (units_in_all first second) (merged_lists (unit_count first) m.ns m.ms) names
      (good_merged (unit_count first) (units_in_all first second) m.ns m.ms
      (first_good first (units_in_all first second) m.ns w (omega arith) few m.listed)
      (second_good second (unit_count first) (units_in_all first second) m.ms v refl few m.second_listed))
      m.ordered

  pub answered : (q : List ℕ) → IsJoinedAnswer first second q (Ok (words_under q names))
  answered q =
      joined_answer first second q (words_under q names)
      (subst (λ xs. IsAnswerOf xs (words_under q names))
      (held_merged (unit_count first) q m.ns m.ms left right
      ∙ ap (λ xs. xs ++ map (moved_element (unit_count first)) (held q m.ms)) (held_is first q m.ns m.listed)
      ∙ ap (λ xs. elements_of first q ++ map (moved_element (unit_count first)) xs) (held_is second q m.ms m.second_listed))
      (ordered_answer q (merged_lists (unit_count first) m.ns m.ms) names (units_in_all first second) m.ordered named_for))

  pub parts_of : (us : List CuBoundary) (offset placed : ℕ) → us ≡ units_of_both first second offset → placed ≡ length (addresses_of_both first second) → AreIndexParts us names placed
  parts_of us offset placed units is =
      let count : length us ≡ units_in_all first second = ap (λ (xs : List CuBoundary). length xs) units ∙ units_length first second offset in
      record {
        units = omega (arith, count, few);
        few = omega (arith, sized_names.few, m.few);
        names = subst (λ n. All (IsNameFor n) names) (sym count) named_for;
        distinct = distinct_of names (rises_ordered (merged_lists (unit_count first) m.ns m.ms) names m.ordered (rises_merged (unit_count first) m.ns m.ms left right));
        some_unit = λ none.
            let zero_units : units_in_all first second ≡ 0 = sym count ∙ ap (λ (xs : List CuBoundary). length xs) none in
            (no_name names (units_in_all first second) zero_units named_for, is ∙ ap (λ (xs : List AddressEntry). length xs) (no_entry (addresses_of_both first second) (units_in_all first second) zero_units (addresses_exist first second w v)));
      }

-- ---- the size

same_counts : (x y : Counts) → x.units ≡ y.units → x.placed ≡ y.placed → x.names ≡ y.names → x.words ≡ y.words → x.name_bytes ≡ y.name_bytes → x ≡ y
same_counts x y a b c d e = grind arith

least_header : (v : ℕ) → 24 ≤ header_len v
unfolding header_len
least_header v = by (eqb v 8) where
  by : (t : Bool) → 24 ≤ cond t 24 28
  by true = omega arith
  by false = omega arith

no_unit_of : (version : ℕ) (k : Counts) (slots : ℕ) (t : Bool) → eqb k.units 0 ≡ t → 0 ≡ cond t 0 (size_with version k slots) → k.units ≡ 0
no_unit_of version k slots true is size = eqb-true _ _ is
no_unit_of version k slots false is size = absurd (omega (arith, least_header version, size))

pub no_unit : (version : ℕ) (k : Counts) (size : ℕ) → size ≡ 0 → IsSize version k size → k.units ≡ 0
no_unit version k size none s = no_unit_of version k s.slots (eqb k.units 0) refl (sym none ∙ s.size_is)

module _ (first second : List ℕ) (offset : ℕ) (s : Scan) (w : IsWellFormedIndex first) (v : IsWellFormedIndex second) (few : units_in_all first second ≤ 2 ^ 24) (b : IsScanOfBoth first second offset s) where
  m : AreMergedNames first second b.names
  m = b.merged_names

  counts_are : format_counts (scan_counts s) ≡ merged_counts first second m.ns m.ms
  counts_are =
      let z = sized_names first second b.names w v few m in
      ap format_counts b.size
      ∙ same_counts (format_counts (scan_counts (scan_of_parts (units_of_both first second offset) b.names (length (addresses_of_both first second))))) (merged_counts first second m.ns m.ms)
      (units_length first second offset) (addresses_length first second) z.names_are z.words_are z.bytes_are

  pub merged_size : (version size : ℕ) → IsIndexSize version (scan_counts s) size → IsMergedSize version first second size
  merged_size version size is = record {
    names = m.ns;
    second_names = m.ms;
    listed = m.listed;
    second_listed = m.second_listed;
    size_is = subst (λ (k : Counts). IsSize version k size) counts_are is;
  }

  pub few_names : length s.names < 2 ^ 32
  few_names = omega (arith, ap (λ (k : IndexCounts). k.names) b.size, (sized_names first second b.names w v few m).few, m.few)

  pub merged_answers : (index : List ℕ) → AnswersFor index s.names → (q : List ℕ) → IsJoinedAnswer first second q (probe index q).answer
  merged_answers index answers q = subst (λ (a : Result (Option (List ℕ)) BadIndex). IsJoinedAnswer first second q a) (sym (answers.answer q ∙ ap (λ o. Ok o) (b.words q))) (answered first second b.names w v few m q)

-- ---- an index of no bytes

no_units_in : (b : List ℕ) → b ≡ [] → index_units b ≡ []
unfolding index_units le header_len
no_units_in b none = ap index_units none

no_addresses_in : (b : List ℕ) → b ≡ [] → index_addresses b ≡ []
unfolding index_addresses le header_len
no_addresses_in b none = ap index_addresses none

no_names_in : (b q : List ℕ) → b ≡ [] → (probe b q).answer ≡ Ok None
unfolding probe
no_names_in b q none =
    ap (λ t. (cond t (record { answer = Ok None; steps = 0 }) (unless_fault (index_fault b) (probe_from (step_at b q) (slot_count b) 0))).answer)
    (lt-ltb (length b) (header_len (u32_at b 0)) (omega (arith, ap length none, least_header (u32_at b 0))))

no_item : {X : Type 0} (xs : List X) → length xs ≡ 0 → xs ≡ []
no_item [] none = refl
no_item (x ∷ xs) none = absurd (omega (arith, none))

module _ (first second : List ℕ) (offset : ℕ) (s : Scan) (w : IsWellFormedIndex first) (v : IsWellFormedIndex second) (few : units_in_all first second ≤ 2 ^ 24) (b : IsScanOfBoth first second offset s) where
  -- without a unit the merged index has no bytes
  pub merged_none : (version : IndexVersion) (size : ℕ) (index : List ℕ) → size ≡ 0 → IsIndexSize (version_number version) (scan_counts s) size → index ≡ [] → IsMergedIndex version first second offset index
  merged_none version size index zero_size is empty =
      let zero_units : units_in_all first second ≡ 0 = sym (units_length first second offset) ∙ ap (λ (us : List CuBoundary). length us) (sym b.units) ∙ no_unit (version_number version) (format_counts (scan_counts s)) size zero_size is in
      let none : b.names ≡ [] = no_name b.names (units_in_all first second) zero_units (named_for first second b.names w v few b.merged_names) in
      record {
        size = subst (IsMergedSize (version_number version) first second) (zero_size ∙ ap length (sym empty)) (merged_size first second offset s w v few b (version_number version) size is);
        version_is = λ some. absurd (some empty);
        units = no_units_in index empty ∙ sym (no_item (units_of_both first second offset) (units_length first second offset ∙ zero_units));
        addresses = no_addresses_in index empty ∙ sym (no_entry (addresses_of_both first second) (units_in_all first second) zero_units (addresses_exist first second w v));
        answers = λ q. subst (λ (a : Result (Option (List ℕ)) BadIndex). IsJoinedAnswer first second q a) (ap (λ ns. Ok (words_under q ns)) none ∙ sym (no_names_in index q empty)) (answered first second b.names w v few b.merged_names q);
        checked = inl empty;
      }

  pub merged_some : (version : IndexVersion) (size : ℕ) (addresses : List AddressEntry) (index : List ℕ) → size < 2 ^ 32 → IsIndexSize (version_number version) (scan_counts s) size → length index ≡ size → addresses ≡ addresses_of_both first second → AreAddresses addresses
      → IsLayoutOf (version_number version) s addresses index → index_units index ≡ s.units → AnswersFor index s.names → LayoutIsChecked → LayoutListsAddresses → IsMergedIndex version first second offset index
  merged_some version size addresses index small is len are fit layout units answers checks lists =
      let short : length index < 2 ^ 32 = omega (arith, len, small) in
      let list = lists version s addresses index short b.well_formed fit layout in
      let count : units_in_all first second ≡ length s.units = sym (ap (λ (us : List CuBoundary). length us) b.units ∙ units_length first second offset) in
      record {
        size = subst (IsMergedSize (version_number version) first second) (sym len) (merged_size first second offset s w v few b (version_number version) size is);
        version_is = λ some. list.version_is;
        units = units ∙ b.units;
        addresses = list.entries_are ∙ are;
        answers = merged_answers first second offset s w v few b index answers;
        checked = checks version s addresses index short b.well_formed
            (subst (λ n. All (λ (a : AddressEntry). a.unit < n) addresses) count (subst (All (λ (a : AddressEntry). a.unit < units_in_all first second)) (sym are) (addresses_exist first second w v))) layout;
      }

-- The CU vectors of the names of one bucket, element by element.
use Rattle.std.proofs.Common.{◌≡◌, ℕ, zero, suc, ◌+◌, ◌<◌, Bool, true, false, cond, List, [], ◌∷◌, ◌++◌, length, map, get_or, set, take, slice_get, Some, replicate, sym, refl, ap, subst, ◌∙◌, append_assoc, arith, inl, inr}
use Rattle.std.specs.Prelude.{◌^◌, ◌==◌, ◌≤◌}
use Rattle.std.specs.List.{All, list_any, filter}
use Rattle.std.specs.List.Sorted.{IsPermutation, IsNonDecreasing}
use Rattle.std.specs.Str.{bytes_eq}
use Rattle.std.proofs.lemmas.Bool.{cases_eq, cond-true, cond-false, eq-eqb, ne_eqb}
use Rattle.std.proofs.lemmas.List.{append-nil, map-append, map_push, take_more, length-append, length-set, length-replicate, get_or-set_same, get_or-set_other, get_or-replicate}
use Rattle.std.proofs.lemmas.List.FromFn.{fill_by_all, length-map-range_with_len, get_or-map-range_with_len}
use Rattle.std.proofs.lemmas.List.Elements.{All-push, All-append, filter-append}
use Rattle.indexmap.specs.IndexSet.{insert_key}
use Rattle.gdb_index.specs.Hashed.{hashes_of}
use Rattle.gdb_index.specs.Scan.{HaveSmallWords}
use Rattle.gdb_index_format.specs.Hash.{name_hash}
use Rattle.gdb_index_format.specs.declared.name_words.NameWords.{NameWords}
use Rattle.gdb_index_format.specs.Named.{Named, named as named_of, all_named}
use Rattle.gdb_index_format.specs.Published.{firsts}
use Rattle.gdb_scan.specs.Groups.{names_of, values_of, groups}
use Rattle.gdb_scan.proofs.Sounding.{filter_le}
use Rattle.gdb_scan.proofs.Grouping.{Name, push_new, firsts-push, same_from, eq_same, Lacks, Differ, Differ-firsts, tabled, one_more, values-push}
use Rattle.gdb_tables.specs.declared.element.NamedElement.{NamedElement}
use Rattle.gdb_tables.specs.declared.element.IndexedElement.{IndexedElement}
use Rattle.gdb_tables.specs.declared.hashed_name.HashedName.{HashedName}
use Rattle.gdb_tables.specs.Merged.{AreSorted}
use Rattle.gdb_tables.specs.steps.Distributed.{element_shown, elements_shown}
use Rattle.gdb_tables.specs.steps.Vectors.{keys_shown, without_elements, AreIndexed, AreBelow, element_counts, with_element, with_elements, as_groups, AddsSorted}
use Rattle.gdb_tables.proofs.Merging.{sorted_push}
use Rattle.gdb_tables.proofs.Pooled.{sorted_append}

-- ---- names, each once

abbrev pub same_name : HashedName → HashedName → Bool
same_name x y = bytes_eq x.name.now y.name.now

-- a new name goes last
insert_shown : (ks : List HashedName) (k : HashedName) → keys_shown (insert_key same_name ks k) ≡ push_new (keys_shown ks) k.name.now
insert_shown [] k = refl
insert_shown (x ∷ ks) k = by (same_name k x) refl (list_any (same_name k) ks) refl (insert_shown ks k) where
  by : (b : Bool) → same_name k x ≡ b → (c : Bool) → list_any (same_name k) ks ≡ c → keys_shown (insert_key same_name ks k) ≡ push_new (keys_shown ks) k.name.now → keys_shown (insert_key same_name (x ∷ ks) k) ≡ push_new (keys_shown (x ∷ ks)) k.name.now
  by true e c f rest = rw e (refl)
  by false e true f rest = rw e (rw f (ap (λ l. x.name.now ∷ l) (sym (rw f (refl)) ∙ rest)))
  by false e false f rest = rw e (rw f (ap (λ l. x.name.now ∷ l) (sym (rw f (refl)) ∙ rest)))

-- ---- indexes of names

kept : (fs : List Name) (n : Name) (i : ℕ) (x : Name) → slice_get fs i ≡ Some x → slice_get (push_new fs n) i ≡ Some x
kept [] n i x e = absurd (cc e)
kept (f ∷ fs) n zero x e = by (bytes_eq n f) where
  by : (b : Bool) → slice_get (cond b (f ∷ fs) (f ∷ push_new fs n)) zero ≡ Some x
  by true = e
  by false = e
kept (f ∷ fs) n (suc i) x e = by (bytes_eq n f) (kept fs n i x e) where
  by : (b : Bool) → slice_get (push_new fs n) i ≡ Some x → slice_get (cond b (f ∷ fs) (f ∷ push_new fs n)) (suc i) ≡ Some x
  by true rest = e
  by false rest = rest

indexed_kept : (fs : List Name) (n : Name) (ps : List (Name × ℕ)) (es : List IndexedElement) → AreIndexed fs ps es → AreIndexed (push_new fs n) ps es
indexed_kept fs n [] [] h = tt
indexed_kept fs n [] (e ∷ es) h = absurd h
indexed_kept fs n (p ∷ ps) [] h = absurd h
indexed_kept fs n (p ∷ ps) (e ∷ es) h = (kept fs n e.index p.0 h.0, h.1, indexed_kept fs n ps es h.2)

indexed_push : (fs : List Name) (ps : List (Name × ℕ)) (es : List IndexedElement) (p : Name × ℕ) (e : IndexedElement) → AreIndexed fs ps es → slice_get fs e.index ≡ Some p.0 → e.element ≡ p.1 → AreIndexed fs (ps ++ p ∷ []) (es ++ e ∷ [])
indexed_push fs [] [] p e h at is = (at, is, tt)
indexed_push fs [] (x ∷ es) p e h at is = absurd h
indexed_push fs (q ∷ ps) [] p e h at is = absurd h
indexed_push fs (q ∷ ps) (x ∷ es) p e h at is = (h.0, h.1, indexed_push fs ps es p e h.2 at is)

-- the elements so far
pub record Indexing (es : List NamedElement) (keys : List HashedName) (indexes : List IndexedElement) : Type 0 where
  pub names : keys_shown keys ≡ firsts (names_of (elements_shown es))
  pub indexed : AreIndexed (keys_shown keys) (elements_shown es) indexes

pub indexing_more : (es : List NamedElement) (i : ℕ) (e : NamedElement) (keys ks : List HashedName) (k found : HashedName) (indexes is : List IndexedElement) (x : IndexedElement) → i < length es → e ≡ get_or es i e → Indexing (take i es) keys indexes
    → ks ≡ insert_key same_name keys k → k.name.now ≡ e.name.now → slice_get ks x.index ≡ Some found → same_name k found ≡ true → is ≡ indexes ++ x ∷ [] → x.element ≡ e.element → Indexing (take (i + 1) es) ks is
indexing_more es i e keys ks k found indexes is x l here done now name at same items element =
    let more : take (i + 1) es ≡ take i es ++ e ∷ [] = take_more es i e l ∙ ap (λ (y : NamedElement). take i es ++ y ∷ []) (sym here) in
    let shown : elements_shown (take (i + 1) es) ≡ elements_shown (take i es) ++ element_shown e ∷ [] = ap elements_shown more ∙ map_push element_shown (take i es) e in
    let keys_are : keys_shown ks ≡ push_new (keys_shown keys) e.name.now = ap keys_shown now ∙ insert_shown keys k ∙ ap (push_new (keys_shown keys)) name in
    let stands : slice_get (keys_shown ks) x.index ≡ Some e.name.now = at_key ks x.index found at ∙ ap (λ n. Some n) (sym (same_from k.name.now found.name.now same) ∙ name) in
    record {
      names =
          keys_are
          ∙ ap (λ fs. push_new fs e.name.now) done.names
          ∙ sym (firsts-push (names_of (elements_shown (take i es))) e.name.now)
          ∙ sym (ap (λ ps. firsts (names_of ps)) shown ∙ ap firsts (map_push (λ (p : Name × ℕ). p.0) (elements_shown (take i es)) (element_shown e)));
      indexed =
          subst (λ ps. AreIndexed (keys_shown ks) ps is) (sym shown)
          (subst (AreIndexed (keys_shown ks) (elements_shown (take i es) ++ element_shown e ∷ [])) (sym items)
          (indexed_push (keys_shown ks) (elements_shown (take i es)) indexes (element_shown e) x
          (subst (λ fs. AreIndexed fs (elements_shown (take i es)) indexes) (sym keys_are) (indexed_kept (keys_shown keys) e.name.now (elements_shown (take i es)) indexes done.indexed)) stands element));
    } where
      at_key : (ks : List HashedName) (i : ℕ) (found : HashedName) → slice_get ks i ≡ Some found → slice_get (keys_shown ks) i ≡ Some found.name.now
      at_key [] i found e = absurd (cc e)
      at_key (y ∷ ks) zero found e = ap (λ (z : HashedName). Some z.name.now) (same_key y found e) where
        same_key : (y z : HashedName) → Some y ≡ Some z → y ≡ z
        same_key y z e = cc e
      at_key (y ∷ ks) (suc i) found e = at_key ks i found e

in_range : (fs : List Name) (i : ℕ) (n : Name) → slice_get fs i ≡ Some n → i < length fs
in_range [] i n e = absurd (cc e)
in_range (f ∷ fs) zero n e = omega arith
in_range (f ∷ fs) (suc i) n e = omega (arith, in_range fs i n e)

pub indexed_below : (fs : List Name) (ps : List (Name × ℕ)) (es : List IndexedElement) → AreIndexed fs ps es → AreBelow (length fs) es
indexed_below fs [] [] h k d l = absurd (omega arith)
indexed_below fs [] (e ∷ es) h k d l = absurd h
indexed_below fs (p ∷ ps) [] h k d l = absurd h
indexed_below fs (p ∷ ps) (e ∷ es) h zero d l = in_range fs e.index p.0 h.0
indexed_below fs (p ∷ ps) (e ∷ es) h (suc k) d l = indexed_below fs ps es h.2 k d (omega arith)

-- ---- counts

abbrev has_index : ℕ → IndexedElement → Bool
has_index i e = e.index == i

pub counts_long : (names : ℕ) (es : List IndexedElement) → length (element_counts names es) ≡ names
counts_long names es = length-map-range_with_len (λ i. length (filter (has_index i) es)) 0 names

count_here : (names : ℕ) (es : List IndexedElement) (i : ℕ) → i < names → get_or (element_counts names es) i 0 ≡ length (filter (has_index i) es)
count_here names es i l = get_or-map-range_with_len (λ i. length (filter (has_index i) es)) 0 names i i 0 l (omega arith)

pub counted_none : (names : ℕ) → replicate names 0 ≡ element_counts names []
counted_none names = fill_by_all (λ i. length (filter (has_index i) [])) (replicate names 0) names 0 (length-replicate names 0) (λ k l. get_or-replicate names k 0 0 l)

-- no name has more elements than there are
pub count_small : (names : ℕ) (es : List IndexedElement) (i : ℕ) → i < names → get_or (element_counts names es) i 0 ≤ length es
count_small names es i l = omega (arith, count_here names es i l, filter_le (has_index i) es)

pub counted_more : (names : ℕ) (es : List IndexedElement) (k : ℕ) (e : IndexedElement) (counts : List ℕ) → k < length es → e ≡ get_or es k e → e.index < names → counts ≡ element_counts names (take k es) → set counts e.index (get_or counts e.index 0 + 1) ≡ element_counts names (take (k + 1) es)
counted_more names es k e counts l is below so_far =
    let done = take k es in
    let more : take (k + 1) es ≡ done ++ e ∷ [] = take_more es k e l ∙ ap (λ (x : IndexedElement). done ++ x ∷ []) (sym is) in
    ap (λ cs. set cs e.index (get_or cs e.index 0 + 1)) so_far
    ∙ fill_by_all (λ i. length (filter (has_index i) (done ++ e ∷ []))) (set (element_counts names done) e.index (get_or (element_counts names done) e.index 0 + 1)) names 0 (length-set (element_counts names done) e.index (get_or (element_counts names done) e.index 0 + 1) ∙ counts_long names done) each
    ∙ sym (ap (element_counts names) more) where
      each : (i : ℕ) → i < names → get_or (set (element_counts names (take k es)) e.index (get_or (element_counts names (take k es)) e.index 0 + 1)) i 0 ≡ length (filter (has_index i) (take k es ++ e ∷ []))
      each i less =
          elim (cases_eq i e.index) [
            | inl here ↦
                ap (λ j. get_or (set (element_counts names (take k es)) e.index (get_or (element_counts names (take k es)) e.index 0 + 1)) j 0) here
                ∙ get_or-set_same (element_counts names (take k es)) e.index (get_or (element_counts names (take k es)) e.index 0 + 1) 0 (omega (arith, below, counts_long names (take k es)))
                ∙ ap (λ n. n + 1) (count_here names (take k es) e.index below)
                ∙ sym (length-append (filter (has_index e.index) (take k es)) (e ∷ []))
                ∙ ap length (sym (filter-append (has_index e.index) (take k es) (e ∷ []) ∙ ap (λ xs. filter (has_index e.index) (take k es) ++ xs) (cond-true (e.index == e.index) (e ∷ []) [] (eq-eqb e.index e.index refl))))
                ∙ ap (λ j. length (filter (has_index j) (take k es ++ e ∷ []))) (sym here)
            | inr other ↦
                get_or-set_other (element_counts names (take k es)) e.index i (get_or (element_counts names (take k es)) e.index 0 + 1) 0 other
                ∙ count_here names (take k es) i less
                ∙ ap length (sym (filter-append (has_index i) (take k es) (e ∷ []) ∙ ap (λ xs. filter (has_index i) (take k es) ++ xs) (cond-false (e.index == i) (e ∷ []) [] (ne_eqb e.index i (λ x. other (sym x)))) ∙ append-nil (filter (has_index i) (take k es))))
          ]

-- ---- vectors

pub filled_step : (vs : List NameWords) (i : ℕ) (old new : NameWords) (w : ℕ) → i < length vs → old ≡ get_or vs i old → new.name.now ≡ old.name.now → new.words.items ≡ old.words.items ++ w ∷ [] → all_named (set vs i new) ≡ with_element (all_named vs) i w
filled_step [] i old new w l is name words = absurd (omega arith)
filled_step (v ∷ vs) zero old new w l is name words = ap (λ (n : Named). n ∷ all_named vs) (made new.name.now v.name.now new.words.items (v.words.items ++ w ∷ []) (name ∙ ap (λ (x : NameWords). x.name.now) is) (words ∙ ap (λ (x : NameWords). x.words.items ++ w ∷ []) is)) where
  made : (m n : Name) (xs ys : List ℕ) → m ≡ n → xs ≡ ys → (let a : Named = record { name = m; words = xs } in a) ≡ record { name = n; words = ys }
  made m n xs ys p q = cc (p, q)
filled_step (v ∷ vs) (suc i) old new w l is name words = ap (λ (ns : List Named). named_of v ∷ ns) (filled_step vs i old new w (omega arith) is name words)

pub empty_step : (list ls : List NameWords) (v : NameWords) (k : HashedName) (left rest : List HashedName) (all : List Named) → left ≡ k ∷ rest → ls ≡ list ++ v ∷ [] → v.name.now ≡ k.name.now → v.words.items ≡ [] → all_named list ++ without_elements left ≡ all → all_named ls ++ without_elements rest ≡ all
empty_step list ls v k left rest all taken items name words inv =
    ap (λ xs. all_named xs ++ without_elements rest) items
    ∙ ap (λ ns. ns ++ without_elements rest) (map_push named_of list v)
    ∙ append_assoc (all_named list) (named_of v ∷ []) (without_elements rest)
    ∙ ap (λ (n : Named). all_named list ++ n ∷ without_elements rest) (made v.name.now k.name.now v.words.items [] name words)
    ∙ sym (ap (λ l. all_named list ++ without_elements l) taken)
    ∙ inv where
      made : (m n : Name) (xs ys : List ℕ) → m ≡ n → xs ≡ ys → (let a : Named = record { name = m; words = xs } in a) ≡ record { name = n; words = ys }
      made m n xs ys p q = cc (p, q)

pub hash_step : (old hs : List ℕ) (k : HashedName) (left rest : List HashedName) (all : List ℕ) → left ≡ k ∷ rest → hs ≡ old ++ k.hash ∷ [] → old ++ hashes_of (without_elements left) ≡ all → hs ++ hashes_of (without_elements rest) ≡ all
hash_step old hs k left rest all taken items inv =
    ap (λ xs. xs ++ hashes_of (without_elements rest)) items
    ∙ append_assoc old (k.hash ∷ []) (hashes_of (without_elements rest))
    ∙ ap (λ (h : ℕ). old ++ h ∷ hashes_of (without_elements rest)) k.hashed
    ∙ sym (ap (λ l. old ++ hashes_of (without_elements l)) taken)
    ∙ inv

abbrev pub named_table : (Name → List ℕ) → List Name → List Named
named_table f fs = map (λ m. record { name = m; words = f m }) fs

lacked : (m n : Name) (fs : List Name) (i : ℕ) → Lacks m fs → slice_get fs i ≡ Some n → bytes_eq m n ≡ false
lacked m n [] i h e = absurd (cc e)
lacked m n (f ∷ fs) zero h e = subst (λ x. bytes_eq m x ≡ false) (same_key f n e) h.0 where
  same_key : (y z : Name) → Some y ≡ Some z → y ≡ z
  same_key y z e = cc e
lacked m n (f ∷ fs) (suc i) h e = lacked m n fs i h.1 e

differ-flip : (x y : Name) → bytes_eq x y ≡ false → bytes_eq y x ≡ false
differ-flip = Rattle.gdb_scan.proofs.Grouping.differ-sym

table_lacks : (f : Name → List ℕ) (n : Name) (x : ℕ) (fs : List Name) → Lacks n fs → named_table f fs ≡ named_table (λ m. f m ++ one_more n x m) fs
table_lacks f n x [] h = refl
table_lacks f n x (m ∷ fs) h =
    ap (λ (ws : List ℕ). record { name = m; words = ws } ∷ named_table f fs) (sym (ap (λ (v : List ℕ). f m ++ v) (cond-false (bytes_eq n m) (x ∷ []) [] h.0) ∙ append-nil (f m)))
    ∙ ap (λ (ns : List Named). record { name = m; words = f m ++ one_more n x m } ∷ ns) (table_lacks f n x fs h.1)

table_step : (f : Name → List ℕ) (n : Name) (x : ℕ) (fs : List Name) (i : ℕ) → Differ fs → slice_get fs i ≡ Some n → with_element (named_table f fs) i x ≡ named_table (λ m. f m ++ one_more n x m) fs
table_step f n x [] i d e = absurd (cc e)
table_step f n x (m ∷ fs) zero d e =
    let here : m ≡ n = same_key m n e in
    ap (λ (ws : List ℕ). record { name = m; words = f m ++ ws } ∷ named_table f fs) (sym (cond-true (bytes_eq n m) (x ∷ []) [] (subst (λ k. bytes_eq k m ≡ true) here (eq_same m))))
    ∙ ap (λ (ns : List Named). record { name = m; words = f m ++ one_more n x m } ∷ ns) (table_lacks f n x fs (subst (λ k. Lacks k fs) here d.0)) where
      same_key : (y z : Name) → Some y ≡ Some z → y ≡ z
      same_key y z e = cc e
table_step f n x (m ∷ fs) (suc i) d e =
    ap (λ (ws : List ℕ). record { name = m; words = ws } ∷ with_element (named_table f fs) i x) (sym (ap (λ (v : List ℕ). f m ++ v) (cond-false (bytes_eq n m) (x ∷ []) [] (differ-flip m n (lacked m n fs i d.0 e))) ∙ append-nil (f m)))
    ∙ ap (λ (ns : List Named). record { name = m; words = f m ++ one_more n x m } ∷ ns) (table_step f n x fs i d.1 e)

table_alike : (f g : Name → List ℕ) → ((m : Name) → f m ≡ g m) → (fs : List Name) → named_table f fs ≡ named_table g fs
table_alike f g same [] = refl
table_alike f g same (m ∷ fs) =
    ap (λ (ws : List ℕ). record { name = m; words = ws } ∷ named_table f fs) (same m)
    ∙ ap (λ (ns : List Named). record { name = m; words = g m } ∷ ns) (table_alike f g same fs)

filled : (done ps : List (Name × ℕ)) (fs : List Name) (es : List IndexedElement) → Differ fs → AreIndexed fs ps es → with_elements (named_table (λ m. values_of m done) fs) es ≡ named_table (λ m. values_of m (done ++ ps)) fs
filled done [] fs [] d h = ap (λ l. named_table (λ m. values_of m l) fs) (sym (append-nil done))
filled done [] fs (e ∷ es) d h = absurd h
filled done (p ∷ ps) fs [] d h = absurd h
filled done (p ∷ ps) fs (e ∷ es) d h =
    ap (λ w. with_elements (with_element (named_table (λ m. values_of m done) fs) e.index w) es) h.1
    ∙ ap (λ ns. with_elements ns es) (table_step (λ m. values_of m done) p.0 p.1 fs e.index d h.0 ∙ table_alike (λ m. values_of m done ++ one_more p.0 p.1 m) (λ m. values_of m (done ++ p ∷ [])) (λ m. sym (values-push m p.0 p.1 done)) fs)
    ∙ filled (done ++ p ∷ []) ps fs es d h.2
    ∙ ap (λ l. named_table (λ m. values_of m l) fs) (append_assoc done (p ∷ []) ps)

table_groups : (f : Name → List ℕ) (fs : List Name) → as_groups (named_table f fs) ≡ tabled f fs
table_groups f [] = refl
table_groups f (m ∷ fs) = ap (λ (gs : List (Name × List ℕ)). (m, f m) ∷ gs) (table_groups f fs)

-- empty vectors, filled by index, are the groups
pub filled_groups : (ps : List (Name × ℕ)) (ks : List HashedName) (es : List IndexedElement) (empty full : List Named) → keys_shown ks ≡ firsts (names_of ps) → AreIndexed (keys_shown ks) ps es → empty ≡ without_elements ks → full ≡ with_elements empty es → as_groups full ≡ groups ps
filled_groups ps ks es empty full names indexed none now =
    let fs = keys_shown ks in
    ap as_groups (now ∙ ap (λ ns. with_elements ns es) (none ∙ table ks) ∙ filled [] ps fs es (subst Differ (sym names) (Differ-firsts (names_of ps))) indexed)
    ∙ table_groups (λ m. values_of m ps) fs
    ∙ ap (tabled (λ m. values_of m ps)) names where
      table : (ks : List HashedName) → without_elements ks ≡ named_table (λ m. values_of m []) (keys_shown ks)
      table [] = refl
      table (k ∷ ks) = ap (λ (ns : List Named). record { name = k.name.now; words = [] } ∷ ns) (table ks)

-- ---- sorted

pub adds_none : (ns : List Named) → AddsSorted [] ns ns
adds_none ns = record { added = []; all = sym (append-nil ns); sorted = tt; fit = λ k d l. absurd (omega arith) }

pub adds_push : (gs : List (Name × List ℕ)) (old new now : List Named) (g : Name × List ℕ) (n : Named) → AddsSorted gs old new → now ≡ new ++ n ∷ [] → n.name ≡ g.0 → IsPermutation g.1 n.words → IsNonDecreasing n.words → All (λ w. w < 2 ^ 32) n.words → AddsSorted (gs ++ g ∷ []) old now
adds_push gs old new now g n a is name same ascending fits = record {
  added = a.added ++ n ∷ [];
  all = is ∙ ap (λ ns. ns ++ n ∷ []) a.all ∙ append_assoc old a.added (n ∷ []);
  sorted = sorted_push gs a.added g n a.sorted name same ascending;
  fit = All-push (λ (m : Named). All (λ w. w < 2 ^ 32) m.words) a.added n a.fit fits;
}

pub adds_more : (gs hs : List (Name × List ℕ)) (old new : List Named) → AreSorted gs old → HaveSmallWords old → AddsSorted hs old new → AreSorted (gs ++ hs) new × HaveSmallWords new
adds_more gs hs old new sorted fit a = (
  subst (AreSorted (gs ++ hs)) (sym a.all) (sorted_append gs hs old a.added sorted a.sorted),
  subst HaveSmallWords (sym a.all) (All-append (λ (m : Named). All (λ w. w < 2 ^ 32) m.words) old a.added fit a.fit),
)

-- ---- hashes

sorted_hashes : (gs : List (Name × List ℕ)) (ns : List Named) → AreSorted gs ns → hashes_of ns ≡ map (λ g. name_hash g.0) gs
sorted_hashes [] [] h = refl
sorted_hashes [] (n ∷ ns) h = absurd h
sorted_hashes (g ∷ gs) [] h = absurd h
sorted_hashes (g ∷ gs) (n ∷ ns) h = ap (λ (m : Name). name_hash m ∷ hashes_of ns) h.0 ∙ ap (λ l. name_hash g.0 ∷ l) (sorted_hashes gs ns h.3)

table_hashes : (f : Name → List ℕ) (fs : List Name) → map (λ (g : Name × List ℕ). name_hash g.0) (tabled f fs) ≡ map name_hash fs
table_hashes f [] = refl
table_hashes f (m ∷ fs) = ap (λ l. name_hash m ∷ l) (table_hashes f fs)

key_hashes : (ks : List HashedName) → hashes_of (without_elements ks) ≡ map name_hash (keys_shown ks)
key_hashes [] = refl
key_hashes (k ∷ ks) = ap (λ l. name_hash k.name.now ∷ l) (key_hashes ks)

pub adds_hashes : (ps : List (Name × ℕ)) (ks : List HashedName) (old new : List Named) (before after : List ℕ) → keys_shown ks ≡ firsts (names_of ps) → AddsSorted (groups ps) old new → before ≡ hashes_of old → after ≡ before ++ hashes_of (without_elements ks) → after ≡ hashes_of new
adds_hashes ps ks old new before after names a is now =
    now
    ∙ ap (λ l. l ++ hashes_of (without_elements ks)) is
    ∙ ap (λ l. hashes_of old ++ l) (key_hashes ks ∙ ap (map name_hash) names ∙ sym (table_hashes (λ n. values_of n ps) (firsts (names_of ps))) ∙ sym (sorted_hashes (groups ps) a.added a.sorted))
    ∙ sym (ap hashes_of a.all ∙ map-append (λ (n : Named). name_hash n.name) old a.added)

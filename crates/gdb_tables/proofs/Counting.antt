-- The counts of a merge are those of what the objects hold.
use Rattle.std.proofs.Common.{◌≡◌, ℕ, suc, ◌+◌, ◌≤◌, false, List, [], ◌∷◌, ◌++◌, length, get_or, map, Option, Some, None, refl, sym, ap, subst, ◌∙◌, arith, inl, inr}
use Rattle.std.specs.List.{All, sum_by}
use Rattle.std.specs.Str.{bytes_eq}
use Rattle.std.proofs.lemmas.Bool.{cases_Bool}
use Rattle.std.proofs.lemmas.List.{length-map}
use Rattle.std.proofs.lemmas.List.Sums.{sum_by-cons}
use Rattle.std.proofs.lemmas.List.Sorted.{length_permutation, sum_by-IsPermutation}
use Rattle.gdb_index.specs.Scan.{word_count}
use Rattle.gdb_index.specs.Pool.{names_len, name_len}
use Rattle.gdb_index_format.specs.declared.unit.CuBoundary.{CuBoundary}
use Rattle.gdb_index_format.specs.Named.{Named, ListsPublished}
use Rattle.gdb_index_format.specs.Published.{Object, Pair, firsts, first_names, pool_names, units_in_lists, unit_lists}
use Rattle.gdb_index_format.proofs.Pooling.{pool_has_each_name_lem}
use Rattle.gdb_scan.specs.Groups.{names_of, values_of}
use Rattle.gdb_scan.specs.Scan.{ObjectScan}
use Rattle.gdb_tables.specs.Scans.{unit_counts, units_in_scans, AreScansOf}
use Rattle.gdb_scan.proofs.Grouping.{Name, others, others-same, others-kept, same_from, eq_same, differ-sym, Lacks, Differ, Differ-firsts, Lacks-from_firsts, value-same, value-other, values_absent}
use Rattle.gdb_scan.proofs.Pairing.{others-lacks}
use Rattle.gdb_tables.proofs.Publishing.{as_pair, as_pairs}
use Rattle.gdb_tables.proofs.Listing.{words_are}
use Rattle.gdb_tables.proofs.Weighing.{pair_weight}

-- a sum over distinct names, with one of them apart
others_sum : (f : Name → ℕ) (m : Name) (fs : List Name) → Differ fs → (Lacks m fs → f m ≡ 0) → f m + sum_by f (others m fs) ≡ sum_by f fs
others_sum f m [] d absent = omega (arith, absent tt)
others_sum f m (g ∷ fs) d absent =
    elim (cases_Bool (bytes_eq g m)) [
      | inl gone ↦
          let same : g ≡ m = same_from g m gone in
          let rest : others m (g ∷ fs) ≡ fs = others-same m g fs gone ∙ others-lacks m fs (subst (λ k. Lacks k fs) same d.0) in
          ap (λ l. f m + sum_by f l) rest ∙ ap (λ k. f k + sum_by f fs) (sym same) ∙ sym (sum_by-cons f g fs)
      | inr kept ↦
          let rest : f m + sum_by f (others m fs) ≡ sum_by f fs = others_sum f m fs d.1 (λ lacks. absent (differ-sym g m kept, lacks)) in
          ap (λ l. f m + sum_by f l) (others-kept m g fs kept) ∙ omega (arith, rest, sum_by-cons f g (others m fs), sum_by-cons f g fs)
    ]

same_sum : (f g : Name → ℕ) (m : Name) (fs : List Name) → ((n : Name) → bytes_eq n m ≡ false → f n ≡ g n) → sum_by f (others m fs) ≡ sum_by g (others m fs)
same_sum f g m [] h = refl
same_sum f g m (k ∷ fs) h =
    elim (cases_Bool (bytes_eq k m)) [
      | inl gone ↦ ap (sum_by f) (others-same m k fs gone) ∙ same_sum f g m fs h ∙ sym (ap (sum_by g) (others-same m k fs gone))
      | inr kept ↦ ap (sum_by f) (others-kept m k fs kept) ∙ omega (arith, sum_by-cons f k (others m fs), sum_by-cons g k (others m fs), h k kept, same_sum f g m fs h) ∙ sym (ap (sum_by g) (others-kept m k fs kept))
    ]

-- each pair is one value of one name
total_values : (ps : List (Name × ℕ)) → sum_by (λ n. length (values_of n ps)) (firsts (names_of ps)) ≡ length ps
total_values [] = refl
total_values (p ∷ ps) =
    let f : Name → ℕ = λ n. length (values_of n (p ∷ ps)) in
    let g : Name → ℕ = λ n. length (values_of n ps) in
    let fs = firsts (names_of ps) in
    let here : f p.0 ≡ 1 + g p.0 = ap length (value-same p.0 p ps (eq_same p.0)) ∙ omega arith in
    let rest : sum_by f (others p.0 fs) ≡ sum_by g (others p.0 fs) = same_sum f g p.0 fs (λ n differ. ap length (value-other n p ps (differ-sym n p.0 differ))) in
    let whole : g p.0 + sum_by g (others p.0 fs) ≡ sum_by g fs = others_sum g p.0 fs (Differ-firsts (names_of ps)) (λ lacks. ap length (values_absent p.0 ps (Lacks-from_firsts p.0 (names_of ps) lacks))) in
    sum_by-cons f p.0 (others p.0 fs) ∙ omega (arith, here, rest, whole, total_values ps)

same_names : (ps : List Pair) → names_of (as_pairs ps) ≡ map (λ p. p.name) ps
same_names [] = refl
same_names (p ∷ ps) = ap (λ l. p.name ∷ l) (same_names ps)

words_by_name : (ps : List Pair) (ns : List Named) → All (λ n. length n.words ≡ length (values_of n.name (as_pairs ps))) ns → word_count ns ≡ sum_by (λ m. length (values_of m (as_pairs ps))) (map (λ n. n.name) ns)
words_by_name ps [] h = refl
words_by_name ps (n ∷ ns) h =
    omega (arith, sum_by-cons (λ (x : Named). length x.words) n ns, sum_by-cons (λ (m : Name). length (values_of m (as_pairs ps))) n.name (map (λ (x : Named). x.name) ns), h 0 n (omega arith), words_by_name ps ns (λ k d l. h (suc k) d (omega arith)))

pub words_counted : (ps : List Pair) (ns : List Named) → ListsPublished ps ns → word_count ns ≡ length ps
words_counted ps ns lists =
    words_by_name ps ns (λ k d l. let of = (lists.names.words k d l).1 in length_permutation _ _ of.same ∙ ap length (sym (words_are ps (get_or ns k d).name)))
    ∙ ap (sum_by (λ m. length (values_of m (as_pairs ps)))) lists.order
    ∙ sum_by-IsPermutation (λ m. length (values_of m (as_pairs ps))) (first_names ps) (pool_names ps) (pool_has_each_name_lem ps)
    ∙ ap (λ ns. sum_by (λ m. length (values_of m (as_pairs ps))) (firsts ns)) (sym (same_names ps))
    ∙ total_values (as_pairs ps)
    ∙ length-map ps as_pair

bytes_by_name : (ns : List Named) → names_len ns ≡ sum_by (λ n. length n + 1) (map (λ n. n.name) ns)
bytes_by_name [] = refl
bytes_by_name (n ∷ ns) = omega (arith, sum_by-cons name_len n ns, sum_by-cons (λ (x : Name). length x + 1) n.name (map (λ (x : Named). x.name) ns), bytes_by_name ns)

pub bytes_counted : (ps : List Pair) (ns : List Named) → ListsPublished ps ns → names_len ns ≡ sum_by (λ n. length n + 1) (first_names ps)
bytes_counted ps ns lists = bytes_by_name ns ∙ ap (sum_by (λ (n : Name). length n + 1)) lists.order ∙ sum_by-IsPermutation (λ (n : Name). length n + 1) (first_names ps) (pool_names ps) (pool_has_each_name_lem ps)

pub names_counted : (ps : List Pair) (ns : List Named) → ListsPublished ps ns → length ns ≡ length (first_names ps)
names_counted ps ns lists = sym (length-map ns (λ (n : Named). n.name)) ∙ ap length lists.order ∙ length_permutation (first_names ps) (pool_names ps) (pool_has_each_name_lem ps)

-- ---- bounds

others_le : (f : Name → ℕ) (m : Name) (fs : List Name) → sum_by f (others m fs) ≤ sum_by f fs
others_le f m [] = omega arith
others_le f m (k ∷ fs) =
    elim (cases_Bool (bytes_eq k m)) [
      | inl gone ↦ omega (arith, ap (sum_by f) (others-same m k fs gone), others_le f m fs, sum_by-cons f k fs)
      | inr kept ↦ omega (arith, ap (sum_by f) (others-kept m k fs kept), others_le f m fs, sum_by-cons f k fs, sum_by-cons f k (others m fs))
    ]

firsts_le : (f : Name → ℕ) (ns : List Name) → sum_by f (firsts ns) ≤ sum_by f ns
firsts_le f [] = omega arith
firsts_le f (n ∷ ns) = omega (arith, sum_by-cons f n (others n (firsts ns)), sum_by-cons f n ns, others_le f n (firsts ns), firsts_le f ns)

by_pair : (ps : List Pair) → sum_by (λ n. length n + 1) (map (λ p. p.name) ps) + length ps ≡ sum_by pair_weight ps
by_pair [] = refl
by_pair (p ∷ ps) = omega (arith, sum_by-cons (λ (n : Name). length n + 1) p.name (map (λ (x : Pair). x.name) ps), sum_by-cons pair_weight p ps, by_pair ps)

pub words_small : (ps : List Pair) → length ps ≤ sum_by pair_weight ps
words_small ps = omega (arith, by_pair ps)

pub bytes_small : (ps : List Pair) → sum_by (λ n. length n + 1) (first_names ps) ≤ sum_by pair_weight ps
bytes_small ps = omega (arith, firsts_le (λ (n : Name). length n + 1) (map (λ (p : Pair). p.name) ps), by_pair ps)

at_least_one : (ns : List Name) → length ns ≤ sum_by (λ n. length n + 1) ns
at_least_one [] = omega arith
at_least_one (n ∷ ns) = omega (arith, sum_by-cons (λ (x : Name). length x + 1) n ns, at_least_one ns)

pub names_small : (ps : List Pair) → length (first_names ps) ≤ sum_by pair_weight ps
names_small ps = omega (arith, at_least_one (first_names ps), bytes_small ps)

-- ---- units

pub units_of_scans : (os : List Object) (ss : List (Option ObjectScan)) → AreScansOf os ss → units_in_scans ss ≡ units_in_lists (unit_lists os)
units_of_scans [] [] h = refl
units_of_scans [] (s ∷ ss) h = absurd h
units_of_scans (o ∷ os) [] h = absurd h
units_of_scans (o ∷ os) (None ∷ ss) h = ap (λ us. [] ++ us) (units_of_scans os ss h.1) ∙ ap (λ us. us ++ units_in_lists (unit_lists os)) (sym h.0)
units_of_scans (o ∷ os) (Some s ∷ ss) h = ap (λ us. s.units ++ us) (units_of_scans os ss h.1) ∙ ap (λ us. us ++ units_in_lists (unit_lists os)) h.0.0

pub counts_of_scans : (os : List Object) (ss : List (Option ObjectScan)) → AreScansOf os ss → unit_counts ss ≡ map (λ us. length us) (unit_lists os)
counts_of_scans [] [] h = refl
counts_of_scans [] (s ∷ ss) h = absurd h
counts_of_scans (o ∷ os) [] h = absurd h
counts_of_scans (o ∷ os) (None ∷ ss) h = ap (λ ns. 0 ∷ ns) (counts_of_scans os ss h.1) ∙ ap (λ (us : List CuBoundary). length us ∷ map (λ (x : List CuBoundary). length x) (unit_lists os)) (sym h.0)
counts_of_scans (o ∷ os) (Some s ∷ ss) h = ap (λ ns. length s.units ∷ ns) (counts_of_scans os ss h.1) ∙ ap (λ (us : List CuBoundary). length us ∷ map (λ (x : List CuBoundary). length x) (unit_lists os)) h.0.0

pub as_many : (os : List Object) (ss : List (Option ObjectScan)) → AreScansOf os ss → length ss ≡ length os
as_many [] [] h = refl
as_many [] (s ∷ ss) h = absurd h
as_many (o ∷ os) [] h = absurd h
as_many (o ∷ os) (s ∷ ss) h = ap suc (as_many os ss h.1)

-- Loops that merge, step by step.
use Rattle.std.proofs.Common.{◌≡◌, ◌≢◌, ℕ, zero, suc, ◌+◌, ◌^◌, ◌<◌, ◌≤◌, List, [], ◌∷◌, ◌++◌, length, get_or, take, drop, map, Option, refl, sym, ap, subst, ◌∙◌, arith, append_assoc}
use Rattle.std.specs.Prelude.{sum}
use Rattle.std.specs.List.{All, AllByRecursion}
use Rattle.std.specs.List.Sorted.{IsPermutation, IsNonDecreasing}
use Rattle.std.proofs.lemmas.List.{drop_more, drop_all, take_more, length-append}
use Rattle.gdb_index_format.specs.Hash.{element_of}
use Rattle.gdb_tables.proofs.Listing.{lists_of_scans}
use Rattle.std.proofs.lemmas.List.Sums.{sum_by-cons}
use Rattle.std.proofs.lemmas.List.Sorted.{All-permutation}
use Rattle.gdb_index.specs.Scan.{IsIndexName, IsWellFormedScan, unit_number, HaveSmallWords}
use Rattle.gdb_index_format.specs.declared.unit.CuBoundary.{CuBoundary}
use Rattle.gdb_index_format.specs.Named.{Named}
use Rattle.gdb_index_format.specs.Published.{end_to_end, firsts, by_bucket}
use Rattle.gdb_index_format.proofs.Pooling.{by_bucket_permutes}
use Rattle.gdb_scan.specs.Buckets.{in_buckets}
use Rattle.gdb_tables.proofs.Pooled.{each_permuted, HaveSome-permuted, tabled_in_buckets}
use Rattle.gdb_index_format.specs.Units.{total_length}
use Rattle.gdb_scan.specs.declared.mark.Mark.{Mark}
use Rattle.gdb_scan.specs.Groups.{names_of, values_of, groups}
use Rattle.gdb_tables.specs.Merged.{AreSorted}
use Rattle.gdb_scan.specs.Scan.{ObjectScan, IsObjectName, HasSoundNames, units_in_scan, names_in_scan, placed_in_scan}
use Rattle.gdb_tables.specs.Scans.{unit_counts, unit_total, units_in_scans, placed_total, words_at, words_of_groups, words_from}
use Rattle.gdb_scan.proofs.Grouping.{Name, tabled}
use Rattle.gdb_scan.proofs.Pairing.{HaveSome, HaveSome-firsts}
use Rattle.gdb_scan.proofs.Sounding.{each_from_All, All-from_each, each-append, each-firsts, each-values}

abbrev pub Scans : Type 0
Scans = List (Option ObjectScan)

-- ---- the scan at the front of what is left

front : (ss : Scans) (i : ℕ) (s : Option ObjectScan) → i < length ss → s ≡ get_or ss i s → drop i ss ≡ s ∷ drop (i + 1) ss
front ss i s l is = drop_more ss i s l ∙ ap (λ (x : Option ObjectScan). x ∷ drop (i + 1) ss) (sym is)

pub sum_next : (n : ℕ) (ns : List ℕ) → sum (n ∷ ns) ≡ n + sum ns
sum_next n ns = sum_by-cons (λ (x : ℕ). x) n ns

pub count_step : (count total : ℕ) (ss : Scans) (i : ℕ) (s : Option ObjectScan) → i < length ss → s ≡ get_or ss i s → count + unit_total (drop i ss) ≡ total → count + length (units_in_scan s) + unit_total (drop (i + 1) ss) ≡ total
count_step count total ss i s l is left = omega (arith, ap unit_total (front ss i s l is), sum_next (length (units_in_scan s)) (unit_counts (drop (i + 1) ss)), left)

pub placed_step : (count total : ℕ) (ss : Scans) (i : ℕ) (s : Option ObjectScan) → i < length ss → s ≡ get_or ss i s → count + placed_total (drop i ss) ≡ total → count + placed_in_scan s + placed_total (drop (i + 1) ss) ≡ total
placed_step count total ss i s l is left = omega (arith, ap placed_total (front ss i s l is), sum_next (placed_in_scan s) (map placed_in_scan (drop (i + 1) ss)), left)

pub counts_step : (done all : List ℕ) (ss : Scans) (i : ℕ) (s : Option ObjectScan) → i < length ss → s ≡ get_or ss i s → done ++ unit_counts (drop i ss) ≡ all → (done ++ length (units_in_scan s) ∷ []) ++ unit_counts (drop (i + 1) ss) ≡ all
counts_step done all ss i s l is left = append_assoc done (length (units_in_scan s) ∷ []) (unit_counts (drop (i + 1) ss)) ∙ ap (λ x. done ++ x) (sym (ap unit_counts (front ss i s l is))) ∙ left

-- no object has more units than all
pub one_of_total : (ss : Scans) (i : ℕ) (s : Option ObjectScan) → i < length ss → s ≡ get_or ss i s → length (units_in_scan s) ≤ unit_total ss
one_of_total [] i s l is = absurd (omega arith)
one_of_total (x ∷ ss) zero s l is = omega (arith, sum_next (length (units_in_scan x)) (unit_counts ss), ap (λ (y : Option ObjectScan). length (units_in_scan y)) is)
one_of_total (x ∷ ss) (suc i) s l is = omega (arith, sum_next (length (units_in_scan x)) (unit_counts ss), one_of_total ss i s (omega arith) is)

-- ---- units one after another

lengths-append : (xs ys : List CuBoundary) → total_length (xs ++ ys) ≡ total_length xs + total_length ys
lengths-append [] ys = omega arith
lengths-append (x ∷ xs) ys = omega (arith, lengths-append xs ys, sum_by-cons (λ (u : CuBoundary). u.length) x (xs ++ ys), sum_by-cons (λ (u : CuBoundary). u.length) x xs)

pub placed-append : (at : ℕ) (xs ys : List CuBoundary) → end_to_end at (xs ++ ys) ≡ end_to_end at xs ++ end_to_end (at + total_length xs) ys
placed-append at [] ys = ap (λ (n : ℕ). end_to_end n ys) (plain at) where
  plain : (n : ℕ) → n ≡ n + 0
  plain n = omega arith
placed-append at (x ∷ xs) ys =
    ap (λ us. record { offset = at; length = x.length } ∷ us) (placed-append (at + x.length) xs ys ∙ ap (λ (n : ℕ). end_to_end (at + x.length) xs ++ end_to_end n ys) (omega (arith, sum_by-cons (λ (u : CuBoundary). u.length) x xs)))

pub unit_step : (done all : List CuBoundary) (start : ℕ) (us : List CuBoundary) (i : ℕ) (u : CuBoundary) → i < length us → u ≡ get_or us i u → done ++ end_to_end start (drop i us) ≡ all → (done ++ record { offset = start; length = u.length } ∷ []) ++ end_to_end (start + u.length) (drop (i + 1) us) ≡ all
unit_step done all start us i u l is left =
    append_assoc done (record { offset = start; length = u.length } ∷ []) (end_to_end (start + u.length) (drop (i + 1) us))
    ∙ ap (λ x. done ++ x) (sym (ap (end_to_end start) (drop_more us i u l ∙ ap (λ (x : CuBoundary). x ∷ drop (i + 1) us) (sym is))))
    ∙ left

pub length_step : (start total : ℕ) (us : List CuBoundary) (i : ℕ) (u : CuBoundary) → i < length us → u ≡ get_or us i u → start + total_length (drop i us) ≡ total → start + u.length + total_length (drop (i + 1) us) ≡ total
length_step start total us i u l is left =
    omega (arith, ap total_length (drop_more us i u l ∙ ap (λ (x : CuBoundary). x ∷ drop (i + 1) us) (sym is)), sum_by-cons (λ (x : CuBoundary). x.length) u (drop (i + 1) us), left)

pub units_step : (done all : List CuBoundary) (start : ℕ) (ss : Scans) (i : ℕ) (s : Option ObjectScan) → i < length ss → s ≡ get_or ss i s → done ++ end_to_end start (units_in_scans (drop i ss)) ≡ all → (done ++ end_to_end start (units_in_scan s)) ++ end_to_end (start + total_length (units_in_scan s)) (units_in_scans (drop (i + 1) ss)) ≡ all
units_step done all start ss i s l is left =
    append_assoc done (end_to_end start (units_in_scan s)) (end_to_end (start + total_length (units_in_scan s)) (units_in_scans (drop (i + 1) ss)))
    ∙ ap (λ x. done ++ x) (sym (placed-append start (units_in_scan s) (units_in_scans (drop (i + 1) ss))))
    ∙ ap (λ x. done ++ end_to_end start x) (sym (ap units_in_scans (front ss i s l is)))
    ∙ left

pub length-placed : (at : ℕ) (us : List CuBoundary) → length (end_to_end at us) ≡ length us
length-placed at [] = refl
length-placed at (u ∷ us) = ap suc (length-placed (at + u.length) us)

length-units : (ss : Scans) → length (units_in_scans ss) ≡ unit_total ss
length-units [] = refl
length-units (s ∷ ss) = omega (arith, length-append (units_in_scan s) (units_in_scans ss), length-units ss, sum_next (length (units_in_scan s)) (unit_counts ss))

pub unit_number_of : (ss : Scans) → length (end_to_end 0 (units_in_scans ss)) ≡ unit_total ss
unit_number_of ss = length-placed 0 (units_in_scans ss) ∙ length-units ss

-- ---- names

pub sorted_push : (gs : List (Name × List ℕ)) (ns : List Named) (g : Name × List ℕ) (n : Named) → AreSorted gs ns → n.name ≡ g.0 → IsPermutation g.1 n.words → IsNonDecreasing n.words → AreSorted (gs ++ g ∷ []) (ns ++ n ∷ [])
sorted_push [] [] g n h name same ascending = (name, same, ascending, tt)
sorted_push [] (m ∷ ns) g n h name same ascending = absurd h
sorted_push (k ∷ gs) [] g n h name same ascending = absurd h
sorted_push (k ∷ gs) (m ∷ ns) g n h name same ascending = (h.0, h.1, h.2, sorted_push gs ns g n h.3 name same ascending)

-- ---- all names

sound_push : (ss : Scans) (s : Option ObjectScan) → AllByRecursion HasSoundNames ss → HasSoundNames s → AllByRecursion HasSoundNames (ss ++ s ∷ [])
sound_push [] s before here = (here, tt)
sound_push (x ∷ ss) s before here = (before.0, sound_push ss s before.1 here)

-- the names of the scans so far are well formed
pub sound_more : (ss : Scans) (i : ℕ) (s : Option ObjectScan) → i < length ss → s ≡ get_or ss i s → AllByRecursion HasSoundNames (take i ss) → HasSoundNames s → AllByRecursion HasSoundNames (take (i + 1) ss)
sound_more ss i s l is before here = subst (AllByRecursion HasSoundNames) (ap (λ x. take i ss ++ x ∷ []) is ∙ sym (take_more ss i s l)) (sound_push (take i ss) s before here)

IsWord : ℕ → Name × ℕ → Type 0
IsWord limit p = All (λ (c : ℕ). c ≢ 0) p.0 × (unit_number p.1 < limit)

number_fits : (unit flag limit : ℕ) → unit < limit → limit ≤ 2 ^ 24 → unit_number (element_of unit flag) < limit
number_fits unit flag limit l few = omega arith

marks_words : (first units limit : ℕ) (n : Name) (ms : List Mark) → All (λ (c : ℕ). c ≢ 0) n → AllByRecursion (λ (m : Mark). m.unit < units) ms → first + units ≤ limit → limit ≤ 2 ^ 24 → AllByRecursion (IsWord limit) (words_at first (n, ms))
unfolding IsWord
marks_words first units limit n [] clean fit room few = tt
marks_words first units limit n (m ∷ ms) clean fit room few = ((clean, number_fits (first + m.unit) m.flag limit (omega (arith, fit.0)) few), marks_words first units limit n ms clean fit.1 room few)

groups_words : (first units limit : ℕ) (gs : List (Name × List Mark)) → AllByRecursion (IsObjectName units) gs → first + units ≤ limit → limit ≤ 2 ^ 24 → AllByRecursion (IsWord limit) (words_of_groups first gs)
groups_words first units limit [] sound room few = tt
groups_words first units limit (g ∷ gs) sound room few = each-append (IsWord limit) (words_at first g) (words_of_groups first gs) (marks_words first units limit g.0 g.1 sound.0.no_zero sound.0.within room few) (groups_words first units limit gs sound.1 room few)

scans_words : (first limit : ℕ) (ss : Scans) → AllByRecursion HasSoundNames ss → first + unit_total ss ≤ limit → limit ≤ 2 ^ 24 → AllByRecursion (IsWord limit) (words_from first ss)
scans_words first limit [] sound room few = tt
scans_words first limit (s ∷ ss) sound room few =
    let next = sum_next (length (units_in_scan s)) (unit_counts ss) in
    each-append (IsWord limit) (words_of_groups first (names_in_scan s)) (words_from (first + length (units_in_scan s)) ss)
    (groups_words first (length (units_in_scan s)) limit (names_in_scan s) sound.0 (omega (arith, next)) few)
    (scans_words (first + length (units_in_scan s)) limit ss sound.1 (omega (arith, next)) few)

names_clean : (limit : ℕ) (ps : List (Name × ℕ)) → AllByRecursion (IsWord limit) ps → AllByRecursion (λ (n : Name). All (λ (c : ℕ). c ≢ 0) n) (names_of ps)
unfolding IsWord
names_clean limit [] h = tt
names_clean limit (p ∷ ps) h = (h.0.0, names_clean limit ps h.1)

numbers_fit : (limit : ℕ) (ps : List (Name × ℕ)) → AllByRecursion (IsWord limit) ps → AllByRecursion (λ (p : Name × ℕ). unit_number p.1 < limit) ps
unfolding IsWord
numbers_fit limit [] h = tt
numbers_fit limit (p ∷ ps) h = (h.0.1, numbers_fit limit ps h.1)

not_empty : (xs ys : List ℕ) → xs ≢ [] → IsPermutation xs ys → ys ≢ []
not_empty [] ys some same none = some refl
not_empty (x ∷ xs) ys some same none = omega (arith, Rattle.std.proofs.lemmas.List.Sorted.length_permutation (x ∷ xs) ys same, ap length none)

index_names : (limit : ℕ) (ps : List (Name × ℕ)) (fs : List Name) (ns : List Named) → AreSorted (tabled (λ n. values_of n ps) fs) ns → AllByRecursion (λ (n : Name). All (λ (c : ℕ). c ≢ 0) n) fs → HaveSome (λ n. values_of n ps) fs → AllByRecursion (λ (p : Name × ℕ). unit_number p.1 < limit) ps → AllByRecursion (λ (n : Named). All (λ w. w < 2 ^ 32) n.words) ns → AllByRecursion (IsIndexName limit) ns
index_names limit ps [] [] h clean some fit small = tt
index_names limit ps [] (n ∷ ns) h clean some fit small = absurd h
index_names limit ps (m ∷ fs) [] h clean some fit small = absurd h
index_names limit ps (m ∷ fs) (n ∷ ns) h clean some fit small = (
  record {
    named = record {
      no_zero = subst (All (λ (c : ℕ). c ≢ 0)) (sym h.0) clean.0;
      some = not_empty (values_of m ps) n.words some.0 h.1;
      ascending = h.2;
      units = All-permutation (λ (w : ℕ). unit_number w < limit) (values_of m ps) n.words h.1 (All-from_each (λ (w : ℕ). unit_number w < limit) (values_of m ps) (each-values (λ (w : ℕ). unit_number w < limit) m ps fit));
    };
    fit = small.0;
  },
  index_names limit ps fs ns h.3 clean.1 some.1 fit small.1,
)

pub sound_merge : (ss : Scans) (us : List CuBoundary) (ns : List Named) (placed : ℕ) (counts : List ℕ) → us ≡ end_to_end 0 (units_in_scans ss) → counts ≡ unit_counts ss → unit_total ss ≤ 2 ^ 24 → AllByRecursion HasSoundNames ss → AreSorted (in_buckets (groups (words_from 0 ss))) ns → HaveSmallWords ns → IsWellFormedScan (record { units = us; names = ns; placed = placed; unit_counts = counts })
sound_merge ss us ns placed counts units listed few sound sorted small =
    let total : length us ≡ unit_total ss = ap length units ∙ unit_number_of ss in
    let ps = words_from 0 ss in
    let words = scans_words 0 (unit_total ss) ss sound (omega arith) few in
    let fs = firsts (names_of ps) in
    let all = by_bucket_permutes fs in
    let table : AreSorted (tabled (λ n. values_of n ps) (by_bucket fs)) ns = subst (λ gs. AreSorted gs ns) (tabled_in_buckets (λ n. values_of n ps) fs) sorted in
    let clean = each_permuted (λ (n : Name). All (λ (c : ℕ). c ≢ 0) n) fs (by_bucket fs) all (each-firsts (λ (n : Name). All (λ (c : ℕ). c ≢ 0) n) (names_of ps) (names_clean (unit_total ss) ps words)) in
    let names = index_names (unit_total ss) ps (by_bucket fs) ns table clean (HaveSome-permuted (λ n. values_of n ps) fs (by_bucket fs) all (HaveSome-firsts ps)) (numbers_fit (unit_total ss) ps words) (each_from_All (λ (n : Named). All (λ w. w < 2 ^ 32) n.words) ns small) in
    record {
      units = omega (arith, total);
      counted = ap sum listed ∙ sym total;
      names = subst (λ n. All (IsIndexName n) ns) (sym total) (All-from_each (IsIndexName (unit_total ss)) ns names);
      distinct = (lists_of_scans ss ns sorted).distinct;
    }

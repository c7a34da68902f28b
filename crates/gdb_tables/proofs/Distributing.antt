-- Names with elements of their CU vectors, distributed over lists by bucket.
use Rattle.std.proofs.Common.{◌≡◌, ℕ, ◌+◌, ◌<◌, List, [], ◌∷◌, ◌++◌, length, map, get_or, set, drop, Option, Vec, Global, sym, refl, ap, subst, ◌∙◌, append_assoc, arith, inl, inr}
use Rattle.std.specs.Prelude.{◌==◌}
use Rattle.std.specs.List.{flat_map, range_with_len}
use Rattle.std.proofs.lemmas.Bool.{cases_eq, cond-true, cond-false, eq-eqb, ne_eqb}
use Rattle.std.proofs.lemmas.List.{append-nil, length-set, get_or-set_same, get_or-set_other, get_or-map, map-set, map_push, drop_more}
use Rattle.std.proofs.lemmas.List.Elements.{filter-append}
use Rattle.std.proofs.lemmas.List.FromFn.{fill_by_all, length-map-range_with_len, get_or-map-range_with_len}
use Rattle.gdb_index_format.specs.Published.{bucket}
use Rattle.gdb_scan.specs.declared.mark.Mark.{Mark}
use Rattle.gdb_scan.specs.declared.mark.Publication.{Publication}
use Rattle.gdb_scan.specs.Buckets.{of_bucket, in_buckets}
use Rattle.gdb_scan.specs.Groups.{groups}
use Rattle.gdb_scan.specs.Marks.{marked, all_marked}
use Rattle.gdb_scan.specs.Scan.{ObjectScan, units_in_scan, names_in_scan}
use Rattle.gdb_scan.proofs.Bucketing.{filter-map}
use Rattle.gdb_scan.proofs.Grouping.{Name}
use Rattle.gdb_scan.proofs.Pairing.{Alike, Alike-append, Alike-mapped, Alike-ungrouped, groups_alike, mapped, ungrouped}
use Rattle.gdb_tables.specs.declared.element.NamedElement.{NamedElement}
use Rattle.gdb_tables.specs.Scans.{mark_word, unit_total, words_of_groups, words_from}
use Rattle.gdb_tables.specs.steps.Distributed.{element_shown, elements_shown, lists_shown, words_of_marks, with_pairs, split_pairs, AreDistributed}
use Rattle.gdb_tables.proofs.Merging.{Scans, sum_next}
use Rattle.gdb_tables.proofs.Pooled.{words_of_bucket, groups_of_bucket, bucket_again, flat_alike}
use Rattle.gdb_tables.proofs.Publishing.{words_ungrouped}

abbrev Pairs : Type 0
Pairs = List (Name × ℕ)

-- ---- pair by pair

joins : (ps : Pairs) (p : Name × ℕ) (b : ℕ) → bucket p.0 ≡ b → of_bucket b (ps ++ p ∷ []) ≡ of_bucket b ps ++ p ∷ []
joins ps p b is = filter-append (λ (q : Name × ℕ). bucket q.0 == b) ps (p ∷ []) ∙ ap (λ l. of_bucket b ps ++ l) (cond-true (bucket p.0 == b) (p ∷ []) [] (eq-eqb (bucket p.0) b is))

passes : (ps : Pairs) (p : Name × ℕ) (b : ℕ) → (bucket p.0 ≡ b → ⊥) → of_bucket b (ps ++ p ∷ []) ≡ of_bucket b ps
passes ps p b differs = filter-append (λ (q : Name × ℕ). bucket q.0 == b) ps (p ∷ []) ∙ ap (λ l. of_bucket b ps ++ l) (cond-false (bucket p.0 == b) (p ∷ []) [] (ne_eqb (bucket p.0) b differs)) ∙ append-nil (of_bucket b ps)

split_here : (ps : Pairs) (b : ℕ) → b < 32 → get_or (split_pairs ps) b [] ≡ of_bucket b ps
unfolding split_pairs
split_here ps b less = get_or-map-range_with_len (λ b. of_bucket b ps) 0 32 b b [] less (omega arith)

pub split_len : (ps : Pairs) → length (split_pairs ps) ≡ 32
unfolding split_pairs
split_len ps = length-map-range_with_len (λ b. of_bucket b ps) 0 32

-- one more pair stands last in its bucket
split_more : (ps : Pairs) (p : Name × ℕ) → set (split_pairs ps) (bucket p.0) (get_or (split_pairs ps) (bucket p.0) [] ++ p ∷ []) ≡ split_pairs (ps ++ p ∷ [])
unfolding split_pairs
split_more ps p =
    ap (λ l. set (split_pairs ps) at (l ++ p ∷ [])) (split_here ps at below)
    ∙ fill_by_all (λ b. of_bucket b (ps ++ p ∷ [])) (set (split_pairs ps) at (of_bucket at ps ++ p ∷ [])) 32 [] (length-set (split_pairs ps) at (of_bucket at ps ++ p ∷ []) ∙ split_len ps) each where
      at : ℕ
      at = bucket p.0

      below : at < 32
      below = Rattle.gdb_index_format.proofs.Pooling.names_have_buckets_lem p.0

      each : (k : ℕ) → k < 32 → get_or (set (split_pairs ps) at (of_bucket at ps ++ p ∷ [])) k [] ≡ of_bucket k (ps ++ p ∷ [])
      each k l =
          elim (cases_eq k at) [
            | inl here ↦
                ap (λ j. get_or (set (split_pairs ps) at (of_bucket at ps ++ p ∷ [])) j []) here
                ∙ get_or-set_same (split_pairs ps) at (of_bucket at ps ++ p ∷ []) [] (omega (arith, below, split_len ps))
                ∙ sym (joins ps p at refl)
                ∙ ap (λ b. of_bucket b (ps ++ p ∷ [])) (sym here)
            | inr other ↦
                get_or-set_other (split_pairs ps) at k (of_bucket at ps ++ p ∷ []) [] other
                ∙ split_here ps k l
                ∙ sym (passes ps p k (λ e. other (sym e)))
          ]

split_all : (ps qs : Pairs) → with_pairs (split_pairs ps) qs ≡ split_pairs (ps ++ qs)
split_all ps [] = ap split_pairs (sym (append-nil ps))
split_all ps (q ∷ qs) = ap (λ ls. with_pairs ls qs) (split_more ps q) ∙ split_all (ps ++ q ∷ []) qs ∙ ap split_pairs (append_assoc ps (q ∷ []) qs)

-- ---- publication by publication

pub publication_step : (first : ℕ) (ps : List Publication) (i : ℕ) (p : Publication) (lists ls : List (Vec NamedElement Global)) (at : ℕ) (old new : Vec NamedElement Global) (e : NamedElement) (all : List Pairs) → i < length ps → p ≡ get_or ps i p → at ≡ bucket p.name.now → at < length lists → old ≡ get_or lists at old
    → new.items ≡ old.items ++ e ∷ [] → ls ≡ set lists at new → element_shown e ≡ ((marked p).0, mark_word first (marked p).1) → with_pairs (lists_shown lists) (words_of_marks first (all_marked (drop i ps))) ≡ all → with_pairs (lists_shown ls) (words_of_marks first (all_marked (drop (i + 1) ps))) ≡ all
publication_step first ps i p lists ls at old new e all l is bucket_is less old_is items now this left =
    let rest = words_of_marks first (all_marked (drop (i + 1) ps)) in
    let w : Name × ℕ = ((marked p).0, mark_word first (marked p).1) in
    let before : elements_shown old.items ≡ get_or (lists_shown lists) at [] = ap (λ (v : Vec NamedElement Global). elements_shown v.items) old_is ∙ sym (get_or-map (λ (v : Vec NamedElement Global). elements_shown v.items) lists at old [] less) in
    let after : elements_shown new.items ≡ get_or (lists_shown lists) at [] ++ w ∷ [] = ap elements_shown items ∙ map_push element_shown old.items e ∙ ap (λ (x : Name × ℕ). elements_shown old.items ++ x ∷ []) this ∙ ap (λ x. x ++ w ∷ []) before in
    ap (λ x. with_pairs x rest) (ap lists_shown now ∙ map-set (λ (v : Vec NamedElement Global). elements_shown v.items) lists at new ∙ ap (set (lists_shown lists) at) after ∙ ap (λ k. set (lists_shown lists) k (get_or (lists_shown lists) k [] ++ w ∷ [])) bucket_is)
    ∙ ap (λ (x : Publication). with_pairs (lists_shown lists) (words_of_marks first (all_marked (x ∷ drop (i + 1) ps)))) is
    ∙ sym (ap (λ xs. with_pairs (lists_shown lists) (words_of_marks first (all_marked xs))) (drop_more ps i p l))
    ∙ left

-- ---- scan by scan

Alike-refl : (ps : Pairs) → Alike ps ps
Alike-refl ps = record { order = refl; values = λ n. refl }

Alike-sym : {X : Type 0} (ps qs : List (Name × X)) → Alike ps qs → Alike qs ps
Alike-sym ps qs h = record { order = sym h.order; values = λ n. sym (h.values n) }

Alike-trans : (ps qs rs : Pairs) → Alike ps qs → Alike qs rs → Alike ps rs
Alike-trans ps qs rs h k = record { order = h.order ∙ k.order; values = λ n. h.values n ∙ k.values n }

-- within one bucket, marks in the order of the file are as good as marks in groups
marks_alike : (b first : ℕ) (ms : List (Name × Mark)) → b < 32 → Alike (of_bucket b (words_of_marks first ms)) (of_bucket b (words_of_groups first (in_buckets (groups ms))))
marks_alike b first ms less =
    let h = mark_word first in
    let own = of_bucket b ms in
    let left : of_bucket b (words_of_marks first ms) ≡ mapped h own = filter-map (λ (m : Name × Mark). (m.0, h m.1)) (λ (p : Name × ℕ). bucket p.0) b ms in
    let right : of_bucket b (words_of_groups first (in_buckets (groups ms))) ≡ mapped h (ungrouped (groups own)) =
    words_of_bucket b first (in_buckets (groups ms))
    ∙ ap (words_of_groups first) (bucket_again b (groups ms) less ∙ sym (groups_of_bucket b ms))
    ∙ words_ungrouped first (groups own) in
    subst (λ l. Alike l (of_bucket b (words_of_groups first (in_buckets (groups ms))))) (sym left)
    (subst (Alike (mapped h own)) (sym right) (Alike-mapped h own (ungrouped (groups own)) (Alike-sym (ungrouped (groups own)) own (Alike-ungrouped own))))

-- the lists so far, where these scans are left
pub record Distributing (lists : List Pairs) (first : ℕ) (left ss : Scans) : Type 0 where
  pub pairs : Pairs
  pub split : lists ≡ split_pairs pairs
  pub alike : (b : ℕ) → b < 32 → Alike (of_bucket b (pairs ++ words_from first left)) (of_bucket b (words_from 0 ss))
  pub units : first + unit_total left ≡ unit_total ss

pub distributing_none : (lists : List Pairs) (ss : Scans) → lists ≡ split_pairs [] → Distributing lists 0 ss ss
distributing_none lists ss is = record { pairs = []; split = is; alike = λ b l. Alike-refl (of_bucket b (words_from 0 ss)); units = omega arith }

-- no object has more units than are left
pub distributing_within : (lists : List Pairs) (first : ℕ) (s : Option ObjectScan) (left ss : Scans) → Distributing lists first (s ∷ left) ss → first + length (units_in_scan s) + unit_total left ≡ unit_total ss
distributing_within lists first s left ss d = omega (arith, sum_next (length (units_in_scan s)) (Rattle.gdb_tables.specs.Scans.unit_counts left), d.units)

pub distributing_more : (lists ls : List Pairs) (first n : ℕ) (s : Option ObjectScan) (left ss : Scans) (ms : List (Name × Mark)) → Distributing lists first (s ∷ left) ss → in_buckets (groups ms) ≡ names_in_scan s → n ≡ length (units_in_scan s) → ls ≡ with_pairs lists (words_of_marks first ms) → Distributing ls (first + n) left ss
distributing_more lists ls first n s left ss ms d names units now =
    let ws = words_of_marks first ms in
    let gs = words_of_groups first (names_in_scan s) in
    let rest = words_from (first + length (units_in_scan s)) left in
    record {
      pairs = d.pairs ++ ws;
      split = now ∙ ap (λ l. with_pairs l ws) d.split ∙ split_all d.pairs ws;
      alike = λ b less.
          let own : Alike (of_bucket b ws) (of_bucket b gs) = subst (λ x. Alike (of_bucket b ws) (of_bucket b (words_of_groups first x))) names (marks_alike b first ms less) in
          let apart : of_bucket b ((d.pairs ++ ws) ++ rest) ≡ of_bucket b d.pairs ++ (of_bucket b ws ++ of_bucket b rest) =
          ap (of_bucket b) (append_assoc d.pairs ws rest) ∙ filter-append (λ (p : Name × ℕ). bucket p.0 == b) d.pairs (ws ++ rest) ∙ ap (λ l. of_bucket b d.pairs ++ l) (filter-append (λ (p : Name × ℕ). bucket p.0 == b) ws rest) in
          let whole : of_bucket b (d.pairs ++ (gs ++ rest)) ≡ of_bucket b d.pairs ++ (of_bucket b gs ++ of_bucket b rest) =
          filter-append (λ (p : Name × ℕ). bucket p.0 == b) d.pairs (gs ++ rest) ∙ ap (λ l. of_bucket b d.pairs ++ l) (filter-append (λ (p : Name × ℕ). bucket p.0 == b) gs rest) in
          let both : Alike (of_bucket b d.pairs ++ (of_bucket b ws ++ of_bucket b rest)) (of_bucket b d.pairs ++ (of_bucket b gs ++ of_bucket b rest)) =
          Alike-append (of_bucket b d.pairs) (of_bucket b d.pairs) (of_bucket b ws ++ of_bucket b rest) (of_bucket b gs ++ of_bucket b rest) (Alike-refl (of_bucket b d.pairs)) (Alike-append (of_bucket b ws) (of_bucket b gs) (of_bucket b rest) (of_bucket b rest) own (Alike-refl (of_bucket b rest))) in
          let step : Alike (of_bucket b ((d.pairs ++ ws) ++ rest)) (of_bucket b (words_from 0 ss)) =
          Alike-trans (of_bucket b ((d.pairs ++ ws) ++ rest)) (of_bucket b (d.pairs ++ (gs ++ rest))) (of_bucket b (words_from 0 ss)) (subst (λ l. Alike l (of_bucket b (d.pairs ++ (gs ++ rest)))) (sym apart) (subst (Alike (of_bucket b d.pairs ++ (of_bucket b ws ++ of_bucket b rest))) (sym whole) both)) (d.alike b less) in
          subst (λ k. Alike (of_bucket b ((d.pairs ++ ws) ++ words_from (first + k) left)) (of_bucket b (words_from 0 ss))) (sym units) step;
      units = omega (arith, units, distributing_within lists first s left ss d);
    }

pub distributing_all : (lists : List Pairs) (first : ℕ) (left ss : Scans) → left ≡ [] → Distributing lists first left ss → AreDistributed ss lists
distributing_all lists first left ss none d = record {
  pairs = d.pairs;
  split = d.split;
  same = λ b less. groups_alike (of_bucket b d.pairs) (of_bucket b (words_from 0 ss)) (subst (λ l. Alike (of_bucket b l) (of_bucket b (words_from 0 ss))) (ap (λ xs. d.pairs ++ words_from first xs) none ∙ append-nil d.pairs) (d.alike b less));
}

-- ---- all buckets

-- the groups of the lists, bucket by bucket
pub groups_of_lists : (ss : Scans) (lists : List Pairs) → AreDistributed ss lists → flat_map (λ ps. groups ps) lists ≡ in_buckets (groups (words_from 0 ss))
unfolding split_pairs
groups_of_lists ss lists d =
    ap (flat_map (λ ps. groups ps)) d.split
    ∙ all (range_with_len 0 32)
    ∙ flat_alike (λ b. groups (of_bucket b d.pairs)) (λ b. of_bucket b (groups (words_from 0 ss))) 0 32 (λ b l. d.same b (omega (arith, l)) ∙ groups_of_bucket b (words_from 0 ss)) where
      all : (bs : List ℕ) → flat_map (λ ps. groups ps) (map (λ b. of_bucket b d.pairs) bs) ≡ flat_map (λ b. groups (of_bucket b d.pairs)) bs
      all [] = refl
      all (b ∷ bs) = ap (λ l. groups (of_bucket b d.pairs) ++ l) (all bs)

-- What the scans of objects publish is what the objects publish.
use Rattle.std.proofs.Common.{◌≡◌, ℕ, ◌+◌, ◌<◌, ◌==◌, List, [], ◌∷◌, ◌++◌, length, map, Option, Some, None, refl, sym, ap, ◌∙◌, subst}
use Rattle.std.specs.List.{flat_map}
use Rattle.std.proofs.lemmas.List.{map-append}
use Rattle.std.proofs.lemmas.List.Elements.{filter-append}
use Rattle.gdb_index_format.specs.declared.unit.CuBoundary.{CuBoundary}
use Rattle.gdb_index_format.specs.Hash.{element_of}
use Rattle.gdb_index_format.specs.Names.{Entry, NameSet}
use Rattle.gdb_index_format.specs.Published.{Object, Pair, bucket, pairs_at, pairs_of, published_from}
use Rattle.dwarf_sections.specs.UnitSearch.{unit_at}
use Rattle.gdb_scan.specs.declared.mark.Mark.{Mark}
use Rattle.gdb_scan.specs.Buckets.{of_bucket}
use Rattle.gdb_scan.specs.Groups.{groups}
use Rattle.gdb_scan.specs.Marks.{marks_at, marks_in, marks_of}
use Rattle.gdb_scan.specs.Scan.{ObjectScan, units_in_scan, names_in_scan, IsScanOf}
use Rattle.gdb_tables.specs.Scans.{mark_word, words_at, words_of_groups, words_from, AreScansOf}
use Rattle.gdb_scan.proofs.Grouping.{Name}
use Rattle.gdb_tables.proofs.Pooled.{words_of_bucket, words_next, bucket_again}
use Rattle.gdb_scan.proofs.Pairing.{Alike, Alike-append, Alike-mapped, Alike-ungrouped, mapped, tagged, ungrouped}

abbrev pub as_pair : Pair → Name × ℕ
as_pair p = (p.name, p.word)

abbrev pub as_pairs : List Pair → List (Name × ℕ)
as_pairs ps = map as_pair ps

words_tagged : (first : ℕ) (m : Name) (ms : List Mark) → words_at first (m, ms) ≡ mapped (mark_word first) (tagged (m, ms))
words_tagged first m [] = refl
words_tagged first m (x ∷ ms) = ap (λ ps. (m, mark_word first x) ∷ ps) (words_tagged first m ms)

pub words_ungrouped : (first : ℕ) (gs : List (Name × List Mark)) → words_of_groups first gs ≡ mapped (mark_word first) (ungrouped gs)
words_ungrouped first [] = refl
words_ungrouped first (g ∷ gs) =
    ap (λ ps. ps ++ words_of_groups first gs) (words_tagged first g.0 g.1)
    ∙ ap (λ ps. mapped (mark_word first) (tagged g) ++ ps) (words_ungrouped first gs)
    ∙ sym (map-append (λ (p : Name × Mark). (p.0, mark_word first p.1)) (tagged g) (ungrouped gs))

entries_published : (first index : ℕ) (es : List Entry) → as_pairs (pairs_at (Some index) first es) ≡ mapped (mark_word first) (marks_at (Some index) es)
entries_published first index [] = refl
entries_published first index (e ∷ es) = ap (λ ps. (e.name, element_of (first + index) e.flag) ∷ ps) (entries_published first index es)

set_published : (first : ℕ) (o : Option ℕ) (es : List Entry) → as_pairs (pairs_at o first es) ≡ mapped (mark_word first) (marks_at o es)
set_published first None es = refl
set_published first (Some index) es = entries_published first index es

object_published : (first : ℕ) (us : List CuBoundary) (ss : List NameSet) → as_pairs (flat_map (pairs_of first us) ss) ≡ mapped (mark_word first) (marks_of us ss)
object_published first us [] = refl
object_published first us (s ∷ ss) =
    map-append as_pair (pairs_of first us s) (flat_map (pairs_of first us) ss)
    ∙ ap (λ ps. ps ++ as_pairs (flat_map (pairs_of first us) ss)) (set_published first (unit_at us s.unit) s.entries)
    ∙ ap (λ ps. mapped (mark_word first) (marks_in us s) ++ ps) (object_published first us ss)
    ∙ sym (map-append (λ (p : Name × Mark). (p.0, mark_word first p.1)) (marks_in us s) (marks_of us ss))

no_marks : (ss : List NameSet) → marks_of [] ss ≡ []
no_marks [] = refl
no_marks (s ∷ ss) = no_marks ss

-- the names of objects with their elements, those of each object in the order of first publication
abbrev pub ordered_words : ℕ → List Object → List (Name × ℕ)
ordered_words first [] = []
ordered_words first (o ∷ os) = words_of_groups first (groups (marks_of o.units o.sets)) ++ ordered_words (first + length o.units) os

object_alike : (first : ℕ) (o : Object) → Alike (words_of_groups first (groups (marks_of o.units o.sets))) (as_pairs (flat_map (pairs_of first o.units) o.sets))
object_alike first o =
    let w = mark_word first in
    let marks = marks_of o.units o.sets in
    subst (λ ps. Alike ps (as_pairs (flat_map (pairs_of first o.units) o.sets))) (sym (words_ungrouped first (groups marks)))
    (subst (λ ps. Alike (mapped w (ungrouped (groups marks))) ps) (sym (object_published first o.units o.sets)) (Alike-mapped w (ungrouped (groups marks)) marks (Alike-ungrouped marks)))

pub objects_published : (first : ℕ) (os : List Object) → Alike (ordered_words first os) (as_pairs (published_from first os))
objects_published first [] = record { order = refl; values = λ n. refl }
objects_published first (o ∷ os) =
    subst (λ ps. Alike (ordered_words first (o ∷ os)) ps) (sym (map-append as_pair (flat_map (pairs_of first o.units) o.sets) (published_from (first + length o.units) os)))
    (Alike-append (words_of_groups first (groups (marks_of o.units o.sets))) (as_pairs (flat_map (pairs_of first o.units) o.sets)) (ordered_words (first + length o.units) os) (as_pairs (published_from (first + length o.units) os)) (object_alike first o) (objects_published (first + length o.units) os))

-- ---- bucket by bucket

same_units : (o : Object) (s : Option ObjectScan) → IsScanOf o s → units_in_scan s ≡ o.units
same_units o None none = sym none
same_units o (Some s) is = is.0

scan_bucket : (b : ℕ) (o : Object) (s : Option ObjectScan) → b < 32 → IsScanOf o s → of_bucket b (names_in_scan s) ≡ of_bucket b (groups (marks_of o.units o.sets))
scan_bucket b o None less none = sym (ap (λ (us : List CuBoundary). of_bucket b (groups (marks_of us o.sets))) none ∙ ap (λ ms. of_bucket b (groups ms)) (no_marks o.sets))
scan_bucket b o (Some s) less is = ap (of_bucket b) is.1 ∙ bucket_again b (groups (marks_of o.units o.sets)) less

-- the scans of objects publish the names of a bucket in the same order
pub bucket_of_scans : (b first : ℕ) (os : List Object) (ss : List (Option ObjectScan)) → b < 32 → AreScansOf os ss → of_bucket b (words_from first ss) ≡ of_bucket b (ordered_words first os)
bucket_of_scans b first [] [] less h = refl
bucket_of_scans b first [] (s ∷ ss) less h = absurd h
bucket_of_scans b first (o ∷ os) [] less h = absurd h
bucket_of_scans b first (o ∷ os) (s ∷ ss) less h =
    words_next b first s ss
    ∙ ap (λ gs. words_of_groups first gs ++ of_bucket b (words_from (first + length (units_in_scan s)) ss)) (scan_bucket b o s less h.0)
    ∙ ap (λ l. words_of_groups first (of_bucket b (groups (marks_of o.units o.sets))) ++ l) (bucket_of_scans b (first + length (units_in_scan s)) os ss less h.1)
    ∙ ap (λ (us : List CuBoundary). words_of_groups first (of_bucket b (groups (marks_of o.units o.sets))) ++ of_bucket b (ordered_words (first + length us) os)) (same_units o s h.0)
    ∙ ap (λ l. l ++ of_bucket b (ordered_words (first + length o.units) os)) (sym (words_of_bucket b first (groups (marks_of o.units o.sets))))
    ∙ sym (filter-append (λ (p : Name × ℕ). bucket p.0 == b) (words_of_groups first (groups (marks_of o.units o.sets))) (ordered_words (first + length o.units) os))

-- The scans of all objects, one by one.
use Rattle.std.proofs.Common.{◌≡◌, ℕ, zero, suc, ◌+◌, ◌*◌, ◌^◌, ◌<◌, ◌≤◌, Bool, true, false, cond, eqb, ◌&&◌, List, [], ◌∷◌, ◌++◌, length, take, get_or, map, Option, Some, None, refl, sym, ap, subst, ◌∙◌, arith}
use Rattle.std.specs.Prelude.{slice_get}
use Rattle.std.specs.List.{All, filter}
use Rattle.std.proofs.lemmas.Bool.{eqb-true, eq-eqb, false_from_ne_true}
use Rattle.std.proofs.lemmas.List.{length-append, length-map, get_or-map}
use Rattle.gdb_tables.proofs.Weighing.{objects_weight, weight_push, object_weight, published_weight}
use Rattle.std.proofs.lemmas.List.Sums.{sum_by-cons}
use Rattle.elf_format.specs.Class.{Class}
use Rattle.elf_format.specs.Section.{sections}
use Rattle.elf_view.specs.Parsed.{Parsed}
use Rattle.elf_view.specs.AnyFile.{parsed}
use Rattle.elf_view.specs.declared.any_file.AnyFile.{AnyFile}
use Rattle.gdb_index_format.specs.declared.placement.Placement.{Placement}
use Rattle.gdb_index_format.specs.Published.{Object, unit_lists}
use Rattle.gdb_index_format.specs.Objects.{class_in, IsObjectOf, AreObjectsOf, first_compressed}
use Rattle.gdb_index_format.specs.Placed.{has_unit, counts_in, placed}
use Rattle.gdb_scan.specs.declared.error.GdbError.{GdbError}
use Rattle.gdb_scan.specs.Cause.{IsScanCause}
use Rattle.gdb_scan.specs.PlacedIn.{NameSections, of_object, placed_in}
use Rattle.gdb_index_format.specs.Placed.{is_counted}
use Rattle.gdb_scan.specs.Scan.{ObjectScan, IsScanOf, placed_in_scan}
use Rattle.gdb_tables.specs.Scans.{AreScansOf, placed_total}
use Rattle.gdb_scan.specs.Scanned.{ScansObject, HasHeaderRoom}
use Rattle.gdb_tables.specs.Files.{all_parsed, file_bytes, IsThere, ArePlacedIn, ArePlain, AreFileScans, ScansObjects, FirstBadObject}

-- how many placements count, object by object
abbrev pub placed_from : ℕ → List (List ℕ) → List Object → List Placement → ℕ
placed_from at [] os ps = 0
placed_from at (file ∷ files) [] ps = 0
placed_from at (file ∷ files) (o ∷ os) ps = cond (has_unit o.units) (placed_in (class_in file) file at ps) 0 + placed_from (at + 1) files os ps

-- Some files hold objects, with the scans of these.
pub record Scanned (files : List (List ℕ)) (ps : List Placement) (scans : List (Option ObjectScan)) : Type 0 where
  pub objects : List Object
  pub held : AreObjectsOf files objects
  pub plain : ArePlain files
  pub scanned : AreScansOf objects scans
  pub each : AreFileScans ps 0 files scans
  pub placed : placed_total scans ≡ placed_from 0 files objects ps
  pub small : objects_weight objects ≤ length files * 2 ^ 73
  pub few : placed_total scans ≤ length files * 2 ^ 39

pub scanned_none : (ps : List Placement) (scans : List (Option ObjectScan)) → scans ≡ [] → Scanned [] ps scans
scanned_none ps scans none = record { objects = []; held = tt; plain = tt; scanned = subst (AreScansOf []) (sym none) tt; each = subst (AreFileScans ps 0 []) (sym none) tt; placed = ap placed_total none; small = omega arith; few = omega (arith, ap placed_total none) }

-- ---- one object more

held_push : (files : List (List ℕ)) (os : List Object) (file : List ℕ) (o : Object) → AreObjectsOf files os → IsObjectOf (class_in file) file o → AreObjectsOf (files ++ file ∷ []) (os ++ o ∷ [])
held_push [] [] file o h is = (is, tt)
held_push [] (x ∷ os) file o h is = absurd h
held_push (f ∷ files) [] file o h is = absurd h
held_push (f ∷ files) (x ∷ os) file o h is = (h.0, held_push files os file o h.1 is)

plain_push : (files : List (List ℕ)) (file : List ℕ) → ArePlain files → first_compressed (class_in file) file ≡ None → ArePlain (files ++ file ∷ [])
plain_push [] file h is = (is, tt)
plain_push (f ∷ files) file h is = (h.0, plain_push files file h.1 is)

scans_push : (os : List Object) (ss : List (Option ObjectScan)) (o : Object) (s : Option ObjectScan) → AreScansOf os ss → IsScanOf o s → AreScansOf (os ++ o ∷ []) (ss ++ s ∷ [])
scans_push [] [] o s h is = (is, tt)
scans_push [] (x ∷ ss) o s h is = absurd h
scans_push (x ∷ os) [] o s h is = absurd h
scans_push (x ∷ os) (y ∷ ss) o s h is = (h.0, scans_push os ss o s h.1 is)

each_push : (ps : List Placement) (at : ℕ) (files : List (List ℕ)) (ss : List (Option ObjectScan)) (file : List ℕ) (s : Option ObjectScan) → AreFileScans ps at files ss → ScansObject (class_in file) file (at + length files) ps s → AreFileScans ps at (files ++ file ∷ []) (ss ++ s ∷ [])
each_push ps at [] [] file s h one =
    let here : at + 0 ≡ at = omega arith in
    (subst (λ n. ScansObject (class_in file) file n ps s) here one, tt)
each_push ps at [] (x ∷ ss) file s h one = absurd h
each_push ps at (f ∷ files) [] file s h one = absurd h
each_push ps at (f ∷ files) (x ∷ ss) file s h one =
    let next : at + length (f ∷ files) ≡ at + 1 + length files = omega arith in
    (h.0, each_push ps (at + 1) files ss file s h.1 (subst (λ n. ScansObject (class_in file) file n ps s) next one))

placed_push : (at : ℕ) (files : List (List ℕ)) (os : List Object) (file : List ℕ) (o : Object) (ps : List Placement) → AreObjectsOf files os → placed_from at (files ++ file ∷ []) (os ++ o ∷ []) ps ≡ placed_from at files os ps + cond (has_unit o.units) (placed_in (class_in file) file (at + length files) ps) 0
placed_push at [] [] file o ps h = let same : at + 0 ≡ at = omega arith in rw same (omega arith)
placed_push at [] (x ∷ os) file o ps h = absurd h
placed_push at (f ∷ files) [] file o ps h = absurd h
placed_push at (f ∷ files) (x ∷ os) file o ps h =
    let next : at + 1 + length files ≡ at + length (f ∷ files) = omega arith in
    let rest = placed_push (at + 1) files os file o ps h.1 in
    ap (λ n. cond (has_unit x.units) (placed_in (class_in f) f at ps) 0 + n) (rest ∙ ap (λ n. placed_from (at + 1) files os ps + cond (has_unit o.units) (placed_in (class_in file) file n ps) 0) next) ∙ omega arith

total_push : (ss : List (Option ObjectScan)) (s : Option ObjectScan) → placed_total (ss ++ s ∷ []) ≡ placed_total ss + placed_in_scan s
total_push [] s = omega (arith, sum_by-cons (λ (x : ℕ). x) (placed_in_scan s) [])
total_push (x ∷ ss) s = omega (arith, total_push ss s, sum_by-cons (λ (x : ℕ). x) (placed_in_scan x) (map placed_in_scan (ss ++ s ∷ [])), sum_by-cons (λ (x : ℕ). x) (placed_in_scan x) (map placed_in_scan ss))

placed_short : (c : Class) (file : List ℕ) (object : ℕ) (ps : List Placement) (o : Object) (s : Option ObjectScan) → length file < 2 ^ 39 → placed_in c file object ps ≤ length (sections c file) → placed_in_scan s ≡ cond (has_unit o.units) (placed_in c file object ps) 0 → HasHeaderRoom c file s → placed_in_scan s ≤ 2 ^ 39
placed_short c file object ps o None short own is room = omega arith
placed_short c file object ps o (Some s) short own is room = omega (arith, is, at_most (has_unit o.units) (placed_in c file object ps)) where
  at_most : (b : Bool) (n : ℕ) → cond b n 0 ≤ n
  at_most true n = omega arith
  at_most false n = omega arith

pub scanned_more : (files : List (List ℕ)) (ps : List Placement) (scans new : List (Option ObjectScan)) (file : List ℕ) (s : Option ObjectScan) (object : ℕ) → object ≡ length files → new ≡ scans ++ s ∷ [] → length file < 2 ^ 39 → placed_in (class_in file) file object ps ≤ length (sections (class_in file) file) → Scanned files ps scans → ScansObject (class_in file) file object ps s → Scanned (files ++ file ∷ []) ps new
scanned_more files ps scans new file s object at pushed short own before one = subst (Scanned (files ++ file ∷ []) ps) (sym pushed) record {
  objects = before.objects ++ one.held ∷ [];
  held = held_push files before.objects file one.held before.held one.is_object;
  plain = plain_push files file before.plain one.plain;
  scanned = scans_push before.objects scans one.held s before.scanned one.is_scan;
  each = each_push ps 0 files scans file s before.each (subst (λ n. ScansObject (class_in file) file n ps s) (at ∙ omega arith) one);
  placed =
      total_push scans s
      ∙ ap (λ n. n + placed_in_scan s) before.placed
      ∙ ap (λ n. placed_from 0 files before.objects ps + n) (one.placed ∙ ap (λ n. cond (has_unit one.held.units) (placed_in (class_in file) file n ps) 0) (at ∙ omega arith))
      ∙ sym (placed_push 0 files before.objects file one.held ps before.held);
  small = omega (arith, before.small, weight_push before.objects one.held, object_weight (class_in file) file one.held s short one.is_object one.is_scan one.room, length-append files (file ∷ []));
  few = omega (arith, total_push scans s, before.few, placed_short (class_in file) file object ps one.held s short own one.placed one.room, length-append files (file ∷ []));
}

-- ---- the placements that count, object by object and all at once

one_if : Bool → ℕ
one_if b = cond b 1 0

count_next : {X : Type 0} (p : X → Bool) (x : X) (xs : List X) → length (filter p (x ∷ xs)) ≡ one_if (p x) + length (filter p xs)
unfolding one_if
count_next p x xs = by (p x) refl where
  by : (b : Bool) → p x ≡ b → length (filter p (x ∷ xs)) ≡ cond (p x) 1 0 + length (filter p xs)
  by true is = rw is (omega arith)
  by false is = rw is (omega arith)

-- whether a placement counts for one of some objects, of which the first has the number `at`
counted_from : ℕ → List (List ℕ) → List Object → Placement → ℕ
counted_from at [] os p = 0
counted_from at (file ∷ files) [] p = 0
counted_from at (file ∷ files) (o ∷ os) p = cond (has_unit o.units) (cond (eqb p.object at) (one_if (is_counted (class_in file) file p)) 0) 0 + counted_from (at + 1) files os p

-- of one placement more, the counts of an object rise by this
one_more : (file : List ℕ) (at : ℕ) (p : Placement) (ps : List Placement) → placed_in (class_in file) file at (p ∷ ps) ≡ cond (eqb p.object at) (one_if (is_counted (class_in file) file p)) 0 + placed_in (class_in file) file at ps
one_more file at p ps = by (eqb p.object at) refl where
  by : (b : Bool) → eqb p.object at ≡ b → placed_in (class_in file) file at (p ∷ ps) ≡ cond (eqb p.object at) (one_if (is_counted (class_in file) file p)) 0 + placed_in (class_in file) file at ps
  by true is = rw is (count_next (is_counted (class_in file) file) p (of_object at ps))
  by false is = rw is (omega arith)

from_next : (at : ℕ) (files : List (List ℕ)) (os : List Object) (p : Placement) (ps : List Placement) → placed_from at files os (p ∷ ps) ≡ counted_from at files os p + placed_from at files os ps
unfolding counted_from
from_next at [] os p ps = refl
from_next at (file ∷ files) [] p ps = refl
from_next at (file ∷ files) (o ∷ os) p ps = by (has_unit o.units) refl (from_next (at + 1) files os p ps) where
  by : (b : Bool) → has_unit o.units ≡ b → placed_from (at + 1) files os (p ∷ ps) ≡ counted_from (at + 1) files os p + placed_from (at + 1) files os ps → placed_from at (file ∷ files) (o ∷ os) (p ∷ ps) ≡ (cond (has_unit o.units) (cond (eqb p.object at) (one_if (is_counted (class_in file) file p)) 0) 0 + counted_from (at + 1) files os p) + placed_from at (file ∷ files) (o ∷ os) ps
  by true is rest = rw is (omega (arith, rest, one_more file at p ps))
  by false is rest = rw is (omega (arith, rest))

from_none : (at : ℕ) (files : List (List ℕ)) (os : List Object) → placed_from at files os [] ≡ 0
from_none at [] os = refl
from_none at (file ∷ files) [] = refl
from_none at (file ∷ files) (o ∷ os) = by (has_unit o.units) refl (from_none (at + 1) files os) where
  by : (b : Bool) → has_unit o.units ≡ b → placed_from (at + 1) files os [] ≡ 0 → placed_from at (file ∷ files) (o ∷ os) [] ≡ 0
  by true is rest = rw is (omega (arith, rest))
  by false is rest = rw is (omega (arith, rest))

nothing : (b : Bool) (n : ℕ) → cond b n n ≡ n
nothing true n = refl
nothing false n = refl

-- a placement below the first number counts for none
counted_below : (at : ℕ) (files : List (List ℕ)) (os : List Object) (p : Placement) → p.object < at → counted_from at files os p ≡ 0
unfolding counted_from
counted_below at [] os p l = refl
counted_below at (file ∷ files) [] p l = refl
counted_below at (file ∷ files) (o ∷ os) p l =
    let differ : eqb p.object at ≡ false = false_from_ne_true _ (λ t. omega (arith, eqb-true p.object at t)) in
    rw differ (omega (arith, counted_below (at + 1) files os p (omega arith), nothing (has_unit o.units) 0))

both : (b t : Bool) → cond b (one_if t) 0 ≡ one_if (t && b)
unfolding one_if
both true true = refl
both true false = refl
both false true = refl
both false false = refl

counted_once : (at n : ℕ) (files : List (List ℕ)) (os : List Object) (p : Placement) → AreObjectsOf files os → p.object ≡ at + n → counted_from at files os p ≡ one_if (counts_in (slice_get files n) (slice_get (unit_lists os) n) p)
unfolding counted_from one_if
counted_once at n [] [] p h is = refl
counted_once at n [] (o ∷ os) p h is = absurd h
counted_once at n (file ∷ files) [] p h is = absurd h
counted_once at zero (file ∷ files) (o ∷ os) p h is =
    let same : eqb p.object at ≡ true = eq-eqb p.object at (is ∙ omega arith) in
    rw same (omega (arith, both (has_unit o.units) (is_counted (class_in file) file p), counted_below (at + 1) files os p (omega arith)))
counted_once at (suc n) (file ∷ files) (o ∷ os) p h is =
    let differ : eqb p.object at ≡ false = false_from_ne_true _ (λ t. omega (arith, is, eqb-true p.object at t)) in
    rw differ (omega (arith, counted_once (at + 1) n files os p h.1 (is ∙ omega arith), nothing (has_unit o.units) 0))

pub placed_is : (files : List (List ℕ)) (os : List Object) (ps : List Placement) → AreObjectsOf files os → placed_from 0 files os ps ≡ length (placed files (unit_lists os) ps)
placed_is files os [] h = from_none 0 files os
placed_is files os (p ∷ ps) h =
    from_next 0 files os p ps
    ∙ ap (λ n. n + placed_from 0 files os ps) (counted_once 0 p.object files os p h (omega arith))
    ∙ ap (λ n. one_if (counts_in (slice_get files p.object) (slice_get (unit_lists os) p.object) p) + n) (placed_is files os ps h)
    ∙ sym (count_next (λ q. counts_in (slice_get files q.object) (slice_get (unit_lists os) q.object) q) p ps)

pub scans_objects : (files : List (List ℕ)) (ps : List Placement) (scans : List (Option ObjectScan)) → Scanned files ps scans → ScansObjects files ps scans
scans_objects files ps scans h = record { objects = h.objects; held = h.held; plain = h.plain; scanned = h.scanned; each = h.each; placed = h.placed ∙ placed_is files h.objects ps h.held; small = omega (arith, h.small, published_weight 0 h.objects); few = h.few }

-- ---- the files one by one

pub below_parsed : (files : List AnyFile) (i : ℕ) → i < length files → i < length (all_parsed files)
below_parsed files i l = omega (arith, length-map files parsed, l)

pub past_parsed : (files : List AnyFile) (i : ℕ) → length files ≤ i → length (all_parsed files) ≤ i
past_parsed files i l = omega (arith, length-map files parsed, l)

pub past_files : (files : List AnyFile) (i : ℕ) → length files ≤ i → length (file_bytes (all_parsed files)) ≤ i
past_files files i l = omega (arith, length-map (all_parsed files) (λ (f : Parsed). f.bytes), length-map files parsed, l)

pub few_parsed : (files : List AnyFile) → length files < 2 ^ 24 → length (all_parsed files) < 2 ^ 24
few_parsed files few = omega (arith, length-map files parsed, few)

pub parsed_here : (files : List AnyFile) (i : ℕ) (f : AnyFile) → i < length files → f ≡ get_or files i f → parsed f ≡ get_or (all_parsed files) i (parsed f)
parsed_here files i f l is = ap parsed is ∙ sym (get_or-map parsed files i f (parsed f) l)

pub short_here : (files : List AnyFile) (i : ℕ) (f : AnyFile) → i < length files → f ≡ get_or files i f → All (λ (x : Parsed). length x.bytes < 2 ^ 39) (all_parsed files) → length (parsed f).bytes < 2 ^ 39
short_here files i f l is small = subst (λ (x : Parsed). length x.bytes < 2 ^ 39) (sym (parsed_here files i f l is)) (small i (parsed f) (below_parsed files i l))

pub take_next : (files : List Parsed) (i : ℕ) (f : Parsed) → i < length files → f ≡ get_or files i f → take (i + 1) (file_bytes files) ≡ take i (file_bytes files) ++ f.bytes ∷ []
take_next [] i f l is = absurd (omega arith)
take_next (x ∷ files) zero f l is = ap (λ (y : Parsed). y.bytes ∷ []) (sym is)
take_next (x ∷ files) (suc i) f l is =
    let more : suc i + 1 ≡ suc (i + 1) = omega arith in
    ap (λ n. take n (file_bytes (x ∷ files))) more ∙ ap (λ l. x.bytes ∷ l) (take_next files i f (omega arith) is)

pub take_all_files : (files : List Parsed) (i : ℕ) → length files ≤ i → take i (file_bytes files) ≡ file_bytes files
take_all_files [] zero le = refl
take_all_files [] (suc i) le = refl
take_all_files (x ∷ files) zero le = absurd (omega arith)
take_all_files (x ∷ files) (suc i) le = ap (λ l. x.bytes ∷ l) (take_all_files files i (omega arith))

pub file_at : (files : List Parsed) (i : ℕ) (f : Parsed) → i < length files → f ≡ get_or files i f → slice_get (file_bytes files) i ≡ Some f.bytes
file_at [] i f l is = absurd (omega arith)
file_at (x ∷ files) zero f l is = ap (λ (y : Parsed). Some y.bytes) (sym is)
file_at (x ∷ files) (suc i) f l is = file_at files i f (omega arith) is

pub taken_length : (files : List Parsed) (i : ℕ) → i ≤ length files → i ≡ length (take i (file_bytes files))
taken_length files zero le = refl
taken_length [] (suc i) le = absurd (omega arith)
taken_length (x ∷ files) (suc i) le = ap suc (taken_length files i (omega arith))

pub names_sections_of : (files : List (List ℕ)) (ps : List Placement) (object : ℕ) (file : List ℕ) → ArePlacedIn files ps → slice_get files object ≡ Some file → NameSections (class_in file) file object ps
names_sections_of files ps object file placed there k d l same = there_is (slice_get files (get_or ps k d).object) (ap (slice_get files) same ∙ there) (placed.there k d l) where
  there_is : (o : Option (List ℕ)) → o ≡ Some file → IsThere o (get_or ps k d).section → (get_or ps k d).section < length (sections (class_in file) file)
  there_is None e h = absurd h
  there_is (Some x) e h = let is : x ≡ file = cc e in subst (λ y. (get_or ps k d).section < length (sections (class_in y) y)) is h

pub first_bad_object : (files : List (List ℕ)) (ps : List Placement) (scans : List (Option ObjectScan)) (object : ℕ) (file : List ℕ) (e : GdbError) → slice_get files object ≡ Some file → Scanned (take object files) ps scans → IsScanCause (class_in file) object file e → FirstBadObject files e
first_bad_object files ps scans object file e there before cause = record { object = object; file = file; there = there; before = before.objects; held = before.held; plain = before.plain; cause = cause }

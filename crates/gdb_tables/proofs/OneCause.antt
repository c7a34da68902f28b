-- What is refused is refused for one cause, and what is well formed for none.
use Rattle.std.proofs.Common.{◌≡◌, ◌≢◌, ◌⊎◌, ℕ, zero, suc, ◌<◌, ◌^◌, List, [], ◌∷◌, length, take, Option, Some, None, Result, Ok, Err, IfErr, refl, sym, ap, subst, ◌∙◌, arith, inl, inr}
use Rattle.std.specs.Prelude.{slice_get}
use Rattle.std.proofs.lemmas.Bool.{cases_lt}
use Rattle.gdb_index.specs.Scan.{Scan}
use Rattle.gdb_index_format.specs.declared.placement.Placement.{Placement}
use Rattle.gdb_index_format.specs.Published.{Object, units_of_all, unit_lists}
use Rattle.gdb_index_format.specs.Objects.{class_in, first_compressed, IsObjectOf, AreObjectsOf}
use Rattle.gdb_index_format.specs.Placed.{placed}
use Rattle.gdb_index_format.specs.Size.{IsSize, counts_of}
use Rattle.gdb_index_format.proofs.ObjectLists.{objects_are_one_lem}
use Rattle.gdb_index_format.proofs.Sizing.{sizes_are_one_lem}
use Rattle.gdb_scan.specs.declared.error.GdbError.{GdbError}
use Rattle.gdb_scan.specs.declared.error.GdbError.TheVariants.{TooManyUnits, IndexTooLarge, NoMemory}
use Rattle.gdb_scan.specs.Cause.{IsScanCause, IsOnlyMemory}
use Rattle.gdb_tables.specs.Files as files_spec
use Rattle.gdb_tables.specs.Files.{ArePlain, FirstBadObject, IsFilesCause, ScansObjects}
use Rattle.gdb_scan.specs.Scan.{ObjectScan}
use Rattle.gdb_tables.specs.Sized as sized_spec
use Rattle.gdb_tables.specs.Sized.{SizesIndex, IsIndexable, IsSizeCause, in_object, too_many, too_large}
use Rattle.gdb_tables.specs.Merged.{IsMergeCause}
use Rattle.gdb_tables.specs.Laws.{HasOneFilesCause, HasOneSizeCause, IndexableHasNoCause}
use Rattle.gdb_scan.proofs.Causes.{same_bytes, excluded}
use Rattle.gdb_scan.proofs.OneCause.{memory_is, told, one_scan_cause}

-- ---- several objects

-- the object at an index of well-formed files is well formed
sound_at : (files : List (List ℕ)) (os : List Object) (k : ℕ) (file : List ℕ) → AreObjectsOf files os → ArePlain files → slice_get files k ≡ Some file → (o : Object) × IsObjectOf (class_in file) file o × (first_compressed (class_in file) file ≡ None)
sound_at [] [] zero file held plain there = absurd cc
sound_at [] [] (suc k) file held plain there = absurd cc
sound_at [] (o ∷ os) k file held plain there = absurd held
sound_at (x ∷ files) [] k file held plain there = absurd held
sound_at (x ∷ files) (o ∷ os) zero file held plain there =
    let is : x ≡ file = cc there in
    (o, subst (λ (y : List ℕ). IsObjectOf (class_in y) y o) is held.0, subst (λ (y : List ℕ). first_compressed (class_in y) y ≡ None) is plain.0)
sound_at (x ∷ files) (o ∷ os) (suc k) file held plain there = sound_at files os k file held.1 plain.1 there

taken_at : (files : List (List ℕ)) (n k : ℕ) → k < n → slice_get (take n files) k ≡ slice_get files k
taken_at files zero k below = absurd (omega (arith, below))
taken_at [] (suc n) k below = refl
taken_at (x ∷ files) (suc n) zero below = refl
taken_at (x ∷ files) (suc n) (suc k) below = taken_at files n k (omega (arith, below))

-- an object before the first malformed one is well formed
earlier : (files : List (List ℕ)) (e f : GdbError) (p : FirstBadObject files e) (q : FirstBadObject files f) → p.object < q.object → e ≡ NoMemory
earlier files e f p q below =
    let at = sound_at (take q.object files) q.before p.object p.file q.held q.plain (taken_at files q.object p.object below ∙ p.there) in
    memory_is e (excluded (class_in p.file) p.object p.file at.0 e at.1 at.2 p.cause)

same_file : (files : List (List ℕ)) (i j : ℕ) (x y : List ℕ) → i ≡ j → slice_get files i ≡ Some x → slice_get files j ≡ Some y → x ≡ y
same_file files i j x y same p q = same_bytes x y (sym p ∙ ap (slice_get files) same ∙ q)

same_object : (files : List (List ℕ)) (e f : GdbError) (p : FirstBadObject files e) (q : FirstBadObject files f) → p.object ≡ q.object → e ≢ NoMemory → f ≢ NoMemory → e ≡ f
same_object files e f p q same a b =
    let file : p.file ≡ q.file = same_file files p.object q.object p.file q.file same p.there q.there in
    let left : IsScanCause (class_in q.file) q.object q.file e = subst (λ (i : ℕ). IsScanCause (class_in q.file) i q.file e) same (subst (λ (x : List ℕ). IsScanCause (class_in x) p.object x e) file p.cause) in
    one_scan_cause (class_in q.file) q.object q.file e f left q.cause a b

one_bad_object : (files : List (List ℕ)) (e f : GdbError) → FirstBadObject files e → FirstBadObject files f → e ≢ NoMemory → f ≢ NoMemory → e ≡ f
one_bad_object files e f p q a b = elim (cases_lt p.object q.object) [
  | inl less ↦ absurd (a (earlier files e f p q less))
  | inr ge ↦ elim (cases_lt q.object p.object) [
    | inl less ↦ absurd (b (earlier files f e q p less))
    | inr le ↦ same_object files e f p q (omega (arith, ge, le)) a b
  ]
]

pub one_files_cause : HasOneFilesCause
one_files_cause files e f (files_spec.in_object g p) (files_spec.in_object h q) a b = one_bad_object files g h p q a b
one_files_cause files e f (files_spec.in_object g p) files_spec.no_memory a b = absurd (b refl)
one_files_cause files e f files_spec.no_memory q a b = absurd (a refl)

pub told_files : (files : List (List ℕ)) (f e : GdbError) → IsFilesCause files f → IsFilesCause files e → e ≢ NoMemory → (f ≡ e) ⊎ (f ≡ NoMemory)
told_files files f e found cause some = told (IsFilesCause files) f e (one_files_cause files) found cause some

-- where all objects are well formed, none is malformed
no_bad_object : (files : List (List ℕ)) (os : List Object) (e : GdbError) → AreObjectsOf files os → ArePlain files → FirstBadObject files e → IsOnlyMemory e
no_bad_object files os e held plain p =
    let at = sound_at files os p.object p.file held plain p.there in
    excluded (class_in p.file) p.object p.file at.0 e at.1 at.2 p.cause

pub no_files_cause : (files : List (List ℕ)) (os : List Object) (e : GdbError) → AreObjectsOf files os → ArePlain files → IsFilesCause files e → IsOnlyMemory e
no_files_cause files os e held plain (files_spec.in_object g p) = no_bad_object files os g held plain p
no_files_cause files os e held plain files_spec.no_memory = tt

pub no_cause_in_scans : (files : List (List ℕ)) (ps : List Placement) (scans : List (Option ObjectScan)) (e : GdbError) → ScansObjects files ps scans → IsFilesCause files e → e ≡ NoMemory
no_cause_in_scans files ps scans e done cause = memory_is e (no_files_cause files done.objects e done.held done.plain cause)

pub only_memory_in_files : {X : Type 0} (files : List (List ℕ)) (os : List Object) (r : Result X GdbError) → AreObjectsOf files os → ArePlain files → IfErr r (IsFilesCause files) → IfErr r IsOnlyMemory
only_memory_in_files files os (Ok x) held plain cause = cause
only_memory_in_files files os (Err e) held plain cause = no_files_cause files os e held plain cause

-- ---- the size

same_objects : (files : List (List ℕ)) (os ps : List Object) → AreObjectsOf files os → AreObjectsOf files ps → os ≡ ps
same_objects files os ps p q = objects_are_one_lem.one_list files os ps p q

same_size : (version : ℕ) (files : List (List ℕ)) (ps : List Placement) (os xs : List Object) (s t : ℕ) → AreObjectsOf files os → AreObjectsOf files xs → IsSize version (counts_of os (length (placed files (unit_lists os) ps))) s → IsSize version (counts_of xs (length (placed files (unit_lists xs) ps))) t → s ≡ t
same_size version files ps os xs s t p q left right =
    sizes_are_one_lem.one_size version (counts_of xs (length (placed files (unit_lists xs) ps))) s t (subst (λ (l : List Object). IsSize version (counts_of l (length (placed files (unit_lists l) ps))) s) (same_objects files os xs p q) left) right

same_number : (files : List (List ℕ)) (os xs : List Object) → AreObjectsOf files os → AreObjectsOf files xs → length (units_of_all os) ≡ length (units_of_all xs)
same_number files os xs p q = ap (λ (l : List Object). length (units_of_all l)) (same_objects files os xs p q)

pub one_size_cause : HasOneSizeCause
one_size_cause version files ps e f (in_object g p) (in_object h q) a b = one_bad_object files g h p q a b
one_size_cause version files ps e f (in_object g p) (too_many xs held plain many) a b = absurd (a (memory_is g (no_bad_object files xs g held plain p)))
one_size_cause version files ps e f (in_object g p) (too_large xs held plain few size is large) a b = absurd (a (memory_is g (no_bad_object files xs g held plain p)))
one_size_cause version files ps e f (in_object g p) sized_spec.no_memory a b = absurd (b refl)
one_size_cause version files ps e f (too_many os held plain many) (in_object h q) a b = absurd (b (memory_is h (no_bad_object files os h held plain q)))
one_size_cause version files ps e f (too_many os held plain many) (too_many xs held' plain' many') a b = ap (λ n. TooManyUnits n) (same_number files os xs held held')
one_size_cause version files ps e f (too_many os held plain many) (too_large xs held' plain' few size is large) a b = absurd (omega (arith, many, few, same_number files os xs held held'))
one_size_cause version files ps e f (too_many os held plain many) sized_spec.no_memory a b = absurd (b refl)
one_size_cause version files ps e f (too_large os held plain few size is large) (in_object h q) a b = absurd (b (memory_is h (no_bad_object files os h held plain q)))
one_size_cause version files ps e f (too_large os held plain few size is large) (too_many xs held' plain' many) a b = absurd (omega (arith, many, few, same_number files os xs held held'))
one_size_cause version files ps e f (too_large os held plain few size is large) (too_large xs held' plain' few' size' is' large') a b = ap (λ n. IndexTooLarge n) (same_size version files ps os xs size size' held held' is is')
one_size_cause version files ps e f (too_large os held plain few size is large) sized_spec.no_memory a b = absurd (b refl)
one_size_cause version files ps e f sized_spec.no_memory q a b = absurd (a refl)

pub only_size_memory : (version : ℕ) (files : List (List ℕ)) (ps : List Placement) (e : GdbError) → IsIndexable version files ps → IsSizeCause version files ps e → IsOnlyMemory e
only_size_memory version files ps e index (in_object g p) = no_bad_object files index.objects g index.held index.plain p
only_size_memory version files ps e index (too_many xs held plain many) = absurd (omega (arith, many, index.few, same_number files index.objects xs index.held held))
only_size_memory version files ps e index (too_large xs held plain few size is large) = absurd (omega (arith, large, index.fits, same_size version files ps index.objects xs index.size size index.held held index.size_is is))
only_size_memory version files ps e index sized_spec.no_memory = tt

pub no_size_cause : IndexableHasNoCause
no_size_cause version files ps e index cause = memory_is e (only_size_memory version files ps e index cause)

pub told_size : (version : ℕ) (files : List (List ℕ)) (ps : List Placement) (f e : GdbError) → IsSizeCause version files ps f → IsSizeCause version files ps e → e ≢ NoMemory → (f ≡ e) ⊎ (f ≡ NoMemory)
told_size version files ps f e found cause some = told (IsSizeCause version files ps) f e (one_size_cause version files ps) found cause some

-- an index with a size that its offsets can count is one
pub indexable : (version : ℕ) (files : List (List ℕ)) (ps : List Placement) (size : ℕ) (scan : Option Scan) → SizesIndex version files ps size scan → size < 2 ^ 32 → IsIndexable version files ps
indexable version files ps size scan sized fits = record { objects = sized.objects; held = sized.held; plain = sized.plain; few = sized.few; size = size; size_is = sized.size_is; fits = fits }

-- ---- merging

pub one_merge_cause : (ss : List (Option ObjectScan)) (e f : GdbError) → IsMergeCause ss e → IsMergeCause ss f → e ≢ NoMemory → f ≢ NoMemory → e ≡ f
one_merge_cause ss (TooManyUnits n) (TooManyUnits m) p q a b = ap TooManyUnits (p.0 ∙ sym q.0)
one_merge_cause ss (TooManyUnits n) NoMemory p q a b = absurd (b refl)
one_merge_cause ss NoMemory f p q a b = absurd (a refl)
one_merge_cause ss (TooManyUnits n) f p q a b = absurd q
one_merge_cause ss e f p q a b = absurd p

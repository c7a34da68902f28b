-- The size of the index of all objects.
use Rattle.std.proofs.Common.{◌≡◌, ℕ, ◌+◌, ◌*◌, ◌^◌, ◌<◌, ◌≤◌, true, cond, eqb, List, [], ◌∷◌, length, map, Option, Some, None, refl, sym, ap, subst, ◌∙◌, arith}
use Rattle.std.proofs.lemmas.Bool.{cond-true, eq-eqb}
use Rattle.gdb_index.specs.Scan.{Scan, IsWellFormedScan}
use Rattle.gdb_index.specs.Size as index
use Rattle.gdb_index.specs.declared.size.IndexCounts.{IndexCounts}
use Rattle.gdb_index.specs.declared.size.IndexTooLarge.{IndexTooLarge as TooLarge}
use Rattle.gdb_index_format.specs.declared.placement.Placement.{Placement}
use Rattle.gdb_index_format.specs.Named.{ListsPublished}
use Rattle.gdb_index_format.specs.Published.{Object, units_of_all, end_to_end, published, unit_lists}
use Rattle.gdb_index_format.specs.Objects.{AreObjectsOf}
use Rattle.gdb_index_format.specs.Placed.{placed}
use Rattle.gdb_index_format.specs.Size.{Counts, IsSize, counts_of, size_with}
use Rattle.gdb_index_format.proofs.Sizing.{sizes_are_one_lem}
use Rattle.gdb_scan.specs.declared.error.GdbError.{GdbError}
use Rattle.gdb_scan.specs.declared.error.GdbError.TheVariants.{BadElf, CompressedSection, BadUnit, BadPubnames, TooManyUnits, IndexTooLarge, NoMemory}
use Rattle.gdb_tables.specs.Files as files_spec
use Rattle.gdb_tables.specs.Files.{ScansObjects, IsFilesCause}
use Rattle.gdb_tables.specs.Merged.{IsMergeOf, IsMergeCause}
use Rattle.gdb_scan.specs.Scan.{ObjectScan}
use Rattle.gdb_tables.specs.Scans.{AreScansOf, unit_total, units_in_scans}
use Rattle.gdb_tables.specs.Sized.{SizesIndex, IsSizeCause, in_object, too_many, too_large, no_memory}
use Rattle.gdb_tables.proofs.Merging.{unit_number_of}
use Rattle.gdb_tables.proofs.Counting.{words_counted, bytes_counted, names_counted, words_small, bytes_small, names_small, units_of_scans, counts_of_scans, as_many}

pub objects_cause : (version : ℕ) (files : List (List ℕ)) (ps : List Placement) (e : GdbError) → IsFilesCause files e → IsSizeCause version files ps e
objects_cause version files ps e (files_spec.in_object f bad) = in_object f bad
objects_cause version files ps e files_spec.no_memory = no_memory

objects_as_files : (files : List (List ℕ)) (os : List Object) → AreObjectsOf files os → length os ≡ length files
objects_as_files [] [] h = refl
objects_as_files [] (o ∷ os) h = absurd h
objects_as_files (f ∷ files) [] h = absurd h
objects_as_files (f ∷ files) (o ∷ os) h = ap Rattle.std.proofs.Common.suc (objects_as_files files os h.1)

pub scans_as_files : (files : List (List ℕ)) (ps : List Placement) (ss : List (Option ObjectScan)) → ScansObjects files ps ss → length ss ≡ length files
scans_as_files files ps ss done = as_many done.objects ss done.scanned ∙ objects_as_files files done.objects done.held

same_units : (os : List Object) (ss : List (Option ObjectScan)) → AreScansOf os ss → end_to_end 0 (units_in_scans ss) ≡ units_of_all os
same_units os ss scanned = ap (end_to_end 0) (units_of_scans os ss scanned)

same_total : (os : List Object) (ss : List (Option ObjectScan)) → AreScansOf os ss → unit_total ss ≡ length (units_of_all os)
same_total os ss scanned = sym (unit_number_of ss) ∙ ap length (same_units os ss scanned)

pub merge_cause : (version : ℕ) (files : List (List ℕ)) (ps : List Placement) (ss : List (Option ObjectScan)) (e : GdbError) → ScansObjects files ps ss → IsMergeCause ss e → IsSizeCause version files ps e
merge_cause version files ps ss (BadElf i kind) done cause = absurd cause
merge_cause version files ps ss (CompressedSection i s) done cause = absurd cause
merge_cause version files ps ss (BadUnit i offset fault) done cause = absurd cause
merge_cause version files ps ss (BadPubnames i s) done cause = absurd cause
merge_cause version files ps ss (TooManyUnits n) done cause =
    let same : n ≡ length (units_of_all done.objects) = cause.0 ∙ same_total done.objects ss done.scanned in
    subst (λ k. IsSizeCause version files ps (TooManyUnits k)) (sym same) (too_many done.objects done.held done.plain (omega (arith, cause.1, same)))
merge_cause version files ps ss (IndexTooLarge n) done cause = absurd cause
merge_cause version files ps ss NoMemory done cause = no_memory

-- what is merged is what the objects hold
pub record Gathered (files : List (List ℕ)) (ps : List Placement) (os : List Object) (m : Scan) : Type 0 where
  pub few : length (units_of_all os) ≤ 2 ^ 24
  pub units : m.units ≡ units_of_all os
  pub counts : m.unit_counts ≡ map (λ us. length us) (unit_lists os)
  pub placed : m.placed ≡ length (placed files (unit_lists os) ps)
  pub names : ListsPublished (published os) m.names

pub gathered : (files : List (List ℕ)) (ps : List Placement) (ss : List (Option ObjectScan)) (m : Scan) (done : ScansObjects files ps ss) → IsMergeOf ss m → ((os : List Object) → AreScansOf os ss → ListsPublished (published os) m.names) → Gathered files ps done.objects m
gathered files ps ss m done merged names = record {
  few = omega (arith, merged.few, same_total done.objects ss done.scanned);
  units = merged.units ∙ same_units done.objects ss done.scanned;
  counts = merged.counts ∙ counts_of_scans done.objects ss done.scanned;
  placed = merged.placed ∙ done.placed;
  names = names done.objects done.scanned;
}

nil_from : {X : Type 0} (xs : List X) → length xs ≡ 0 → xs ≡ []
nil_from [] e = refl
nil_from (x ∷ xs) e = absurd (omega (arith, e))

zero_size : (version : ℕ) (n : Counts) → n.units ≡ 0 → IsSize version n 0
zero_size version n none =
    let some = sizes_are_one_lem.some_size version n in
    let is : some.0 ≡ 0 = some.1.size_is ∙ cond-true (eqb n.units 0) 0 (size_with version n some.1.slots) (eq-eqb n.units 0 none) in
    subst (IsSize version n) is some.1

pub sized_none : (version : ℕ) (files : List (List ℕ)) (ps : List Placement) (ss : List (Option ObjectScan)) (m : Scan) (done : ScansObjects files ps ss) → Gathered files ps done.objects m → length m.units ≡ 0 → SizesIndex version files ps 0 None
sized_none version files ps ss m done all none = record {
  objects = done.objects;
  held = done.held;
  plain = done.plain;
  few = all.few;
  size_is = zero_size version (counts_of done.objects (length (placed files (unit_lists done.objects) ps))) (ap length (sym all.units) ∙ none);
  scanned = sym all.units ∙ nil_from m.units none;
}

same_counts : (u p n w b v q o x d : ℕ) → u ≡ v → p ≡ q → n ≡ o → w ≡ x → b ≡ d → (let l : Counts = record { units = u; placed = p; names = n; words = w; name_bytes = b } in l) ≡ record { units = v; placed = q; names = o; words = x; name_bytes = d }
same_counts u p n w b v q o x d e f g h i =
    ap (λ (k : ℕ). record { units = k; placed = p; names = n; words = w; name_bytes = b }) e
    ∙ ap (λ (k : ℕ). record { units = v; placed = k; names = n; words = w; name_bytes = b }) f
    ∙ ap (λ (k : ℕ). record { units = v; placed = q; names = k; words = w; name_bytes = b }) g
    ∙ ap (λ (k : ℕ). record { units = v; placed = q; names = o; words = k; name_bytes = b }) h
    ∙ ap (λ (k : ℕ). record { units = v; placed = q; names = o; words = x; name_bytes = k }) i

counts_are : (files : List (List ℕ)) (ps : List Placement) (os : List Object) (m : Scan) → Gathered files ps os m → index.format_counts (index.scan_counts m) ≡ counts_of os (length (placed files (unit_lists os) ps))
counts_are files ps os m all = same_counts _ _ _ _ _ _ _ _ _ _ (ap length all.units) all.placed (names_counted (published os) m.names all.names) (words_counted (published os) m.names all.names) (bytes_counted (published os) m.names all.names)

pub counts_small : (files : List (List ℕ)) (ps : List Placement) (ss : List (Option ObjectScan)) (m : Scan) (counts : IndexCounts) (done : ScansObjects files ps ss) → Gathered files ps done.objects m → length files < 2 ^ 24 → counts ≡ index.scan_counts m → index.AreSmall counts
counts_small files ps ss m counts done all few is =
    let os = done.objects in
    let lists = all.names in
    subst index.AreSmall (sym is) record {
      units = omega (arith, ap length all.units, all.few);
      placed = omega (arith, all.placed, sym done.placed, done.few);
      names = omega (arith, names_counted (published os) m.names lists, names_small (published os), done.small);
      words = omega (arith, words_counted (published os) m.names lists, words_small (published os), done.small);
      name_bytes = omega (arith, bytes_counted (published os) m.names lists, bytes_small (published os), done.small);
    }

size_of : (version : ℕ) (files : List (List ℕ)) (ps : List Placement) (os : List Object) (m : Scan) (counts : IndexCounts) (size : ℕ) → Gathered files ps os m → counts ≡ index.scan_counts m → index.IsIndexSize version counts size → IsSize version (counts_of os (length (placed files (unit_lists os) ps))) size
size_of version files ps os m counts size all is sized = subst (λ n. IsSize version n size) (ap index.format_counts is ∙ counts_are files ps os m all) sized

pub sized_some : (version : ℕ) (files : List (List ℕ)) (ps : List Placement) (ss : List (Option ObjectScan)) (m : Scan) (counts : IndexCounts) (size : ℕ) (done : ScansObjects files ps ss) → Gathered files ps done.objects m → IsWellFormedScan m → 0 < length m.units → counts ≡ index.scan_counts m → index.IsCountable version counts size → SizesIndex version files ps size (Some m)
sized_some version files ps ss m counts size done all good some is sized = record {
  objects = done.objects;
  held = done.held;
  plain = done.plain;
  few = all.few;
  size_is = size_of version files ps done.objects m counts size all is sized.size;
  scanned = record { some = omega (arith, some, ap length all.units); well_formed = good; own = record { units = all.units; counts = all.counts; placed = all.placed }; names = all.names };
}

pub sized_large : (version : ℕ) (files : List (List ℕ)) (ps : List Placement) (ss : List (Option ObjectScan)) (m : Scan) (counts : IndexCounts) (e : TooLarge) (done : ScansObjects files ps ss) → Gathered files ps done.objects m → counts ≡ index.scan_counts m → index.IsTooLarge version counts e → IsSizeCause version files ps (IndexTooLarge e.0)
sized_large version files ps ss m counts e done all is large = too_large done.objects done.held done.plain all.few e.0 (size_of version files ps done.objects m counts e.0 all is large.size) large.above

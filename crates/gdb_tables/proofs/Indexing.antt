-- The index that is written is that of the objects.
use Rattle.std.proofs.Common.{◌≡◌, ◌≢◌, ◌<◌, ℕ, Bool, false, Some, List, [], ◌∷◌, length, take, drop, get_or, ◌++◌, subst, ap, sym, ◌∙◌, arith, inl, inr, IsPermutation, IsSortedByKey}
use Rattle.std.specs.Cmp.Lexicographic.{slice_cmp}
use Rattle.std.specs.List.{All, Contains, IsDistinct}
use Rattle.std.specs.Ordering.{nat_cmp}
use Rattle.std.specs.Str.{bytes_eq}
use Rattle.std.proofs.Math.ListN.{drop_of_length-le}
use Rattle.std.proofs.Math.Seq.{take-length}
use Rattle.std.proofs.lemmas.Bool.{cases_Bool, cases_order, false_from_ne_true, true≢false}
use Rattle.std.proofs.lemmas.List.{get_or_default, take-append-le}
use Rattle.std.proofs.lemmas.List.Elements.{Contains-get_or}
use Rattle.std.proofs.lemmas.List.Sorted.{All-permutation, Contains-permutation}
use Rattle.std.proofs.lemmas.Map.Keys.{IsDistinct-from_apart, IsDistinct-IsPermutation, apart_from_distinct}
use Rattle.std.proofs.lemmas.Slice.Eq.{bytes_eq-Decides}
use Rattle.elf_view.specs.Parsed.{Parsed}
use Rattle.gdb_index.specs.Layout.{IsLayoutOf}
use Rattle.gdb_index.specs.Scan.{Scan}
use Rattle.gdb_index_format.specs.declared.name_words.NameWords.{NameWords}
use Rattle.gdb_index_format.specs.declared.placement.AddressEntry.{AddressEntry}
use Rattle.gdb_index_format.specs.declared.placement.Placement.{Placement}
use Rattle.gdb_index_format.specs.declared.unit.CuBoundary.{CuBoundary}
use Rattle.gdb_index_format.specs.Named.{Named, all_named, IsNamed, AreNamesOf, AreDistinct, AnswersAll, names_in, HasFewSteps}
use Rattle.gdb_index_format.specs.Objects.{AreUnitsOf}
use Rattle.gdb_index_format.proofs.ObjectLists.{units_of_objects}
use Rattle.gdb_index_format.specs.Placed.{placed}
use Rattle.gdb_index_format.specs.Published.{Object, Pair, IsVectorOf, published, units_of_all, unit_lists}
use Rattle.gdb_index_format.specs.Size.{IsSize, counts_of}
use Rattle.gdb_index_format.specs.Units.{index_units}
use Rattle.gdb_tables.specs.Addresses.{addresses}
use Rattle.gdb_tables.specs.Files.{file_bytes}
use Rattle.gdb_tables.specs.Sized.{SizesIndex, IsScanOfAll}
use Rattle.gdb_tables.specs.Index.{IsLaidOut, IsIndexOf}
use Rattle.gdb_tables.proofs.NamedUnits.{units_named}

pub answers_again : (ns : List Named) (b index : List ℕ) → b ≡ index → ((ps : List Pair) → AreNamesOf ps ns → AnswersAll b ps) → (ps : List Pair) → AreNamesOf ps ns → AnswersAll index ps
answers_again ns b index same answers ps names = subst (λ (bytes : List ℕ). AnswersAll bytes ps) same (answers ps names)

-- a buffer that was lent whole and written is the vector that it was lent from
pub same_buffer : (len : ℕ) (buf items : List ℕ) → len ≡ length items → length buf ≡ length items → buf ≡ take len (buf ++ drop (length buf) items)
same_buffer len buf items whole same =
    let none : drop (length buf) items ≡ [] = drop_of_length-le items (omega (arith, same)) in
    sym (ap (λ (rest : List ℕ). take len (buf ++ rest)) none ∙ take-append-le len buf [] (omega (arith, whole, same)) ∙ ap (λ n. take n buf) (whole ∙ sym same) ∙ take-length buf)

-- names in another order are the same names
named_again : (ns ms : List Named) (name : List ℕ) (i : ℕ) → IsPermutation ns ms → IsNamed ns name i → (j : ℕ) × IsNamed ms name j
named_again ns ms name i same is =
    let none : Named = record { name = []; words = [] } in
    let held : Contains ns (get_or ns i none) = Contains-get_or ns i none is.0 in
    let there = Contains-permutation ns ms (get_or ns i none) same held in
    (there.0, (there.1, λ d. ap (λ (n : Named). n.name) (get_or_default ms there.0 d (get_or ns i none) there.1 ∙ there.2) ∙ is.1 none))

names_again : (ps : List Pair) (ns ms : List Named) → IsPermutation ns ms → AreNamesOf ps ns → AreNamesOf ps ms
names_again ps ns ms same names = record {
  words = All-permutation (λ n. (n.words ≢ []) × IsVectorOf n.name ps n.words) ns ms same names.words;
  all = λ k d below. let one = names.all k d below in named_again ns ms (get_or ps k d).name one.0 same one.1;
}

same_name : Named → Named → Bool
same_name n m = bytes_eq n.name m.name

flips : (n m : Named) → same_name n m ≡ same_name m n
unfolding same_name
flips n m =
    elim (cases_Bool (bytes_eq n.name m.name)) [
      | inl same ↦ same ∙ sym ((bytes_eq-Decides m.name n.name).1 (sym ((bytes_eq-Decides n.name m.name).0 same)))
      | inr other ↦ other ∙ sym (false_from_ne_true (bytes_eq m.name n.name) (λ t. true≢false (sym ((bytes_eq-Decides n.name m.name).1 (sym ((bytes_eq-Decides m.name n.name).0 t))) ∙ other)))
    ]

apart_names : (ns : List Named) → AreDistinct ns → (i j : ℕ) (d : Named) → i < j → j < length ns → same_name (get_or ns i d) (get_or ns j d) ≡ false
unfolding same_name
apart_names ns distinct i j d before below =
    false_from_ne_true (bytes_eq (get_or ns i d).name (get_or ns j d).name)
    (λ t. let same : i ≡ j = distinct i j d (omega (arith, before, below)) below ((bytes_eq-Decides (get_or ns i d).name (get_or ns j d).name).0 t) in absurd (omega (arith, same, before)))

not_same : (n m : Named) → same_name n m ≡ false → n.name ≡ m.name → ⊥
unfolding same_name
not_same n m other same = true≢false (sym ((bytes_eq-Decides n.name m.name).1 same) ∙ other)

distinct_again : (ns ms : List Named) → IsPermutation ns ms → AreDistinct ns → AreDistinct ms
distinct_again ns ms same distinct i j d below beyond equal =
    let kept : IsDistinct same_name ms = IsDistinct-IsPermutation same_name flips ns ms same (IsDistinct-from_apart same_name ns (apart_names ns distinct)) in
    elim (cases_order i j) [
      | inl one ↦ one
      | inr apart ↦ elim apart [
        | inl before ↦ absurd (not_same (get_or ms i d) (get_or ms j d) (apart_from_distinct same_name ms i j d kept before beyond) equal)
        | inr behind ↦ absurd (not_same (get_or ms j d) (get_or ms i d) (apart_from_distinct same_name ms j i d kept behind below) (sym equal))
      ]
    ]

laid_out : (version : ℕ) (os : List Object) (count : ℕ) (entries : List AddressEntry) (scan : Scan) (units : List CuBoundary) (index : List ℕ) → units ≡ units_of_all os → 0 < length (units_of_all os) → IsScanOfAll os count scan → All (λ a. a.unit < length scan.units) entries → IsLayoutOf version scan entries index → IsLaidOut version os count entries units index
laid_out version os count entries scan [] index are some of_all within is = absurd (omega (arith, some, ap length are))
laid_out version os count entries scan (u ∷ us) index are some of_all within is = (scan, of_all, within, is)

-- the index of a scan of all objects
pub indexed : (version : ℕ) (parsed : List Parsed) (placements : List Placement) (size : ℕ) (scan : Scan) (entries : List AddressEntry) (units : List CuBoundary) (names : List NameWords) (index : List ℕ)
    → SizesIndex version (file_bytes parsed) placements size (Some scan)
    → ((uss : List (List CuBoundary)) → AreUnitsOf (file_bytes parsed) uss → entries ≡ addresses parsed uss placements)
    → length index ≡ size
    → IsLayoutOf version scan entries index
    → index_units index ≡ scan.units
    → HasFewSteps index (names_in scan.names)
    → ((ps : List Pair) → AreNamesOf ps scan.names → AnswersAll index ps)
    → units ≡ scan.units
    → IsPermutation scan.names (all_named names)
    → IsSortedByKey (λ n. n.name.now) (slice_cmp nat_cmp) names
    → IsIndexOf version parsed placements units names index
indexed version parsed placements size scan entries units names index sized addressed len is listed steps answers are same ascending =
    let os = sized.objects in
    let scanned : IsScanOfAll os (length (placed (file_bytes parsed) (unit_lists os) placements)) scan = sized.scanned in
    let entries_are : entries ≡ addresses parsed (unit_lists os) placements = addressed (unit_lists os) (units_of_objects (file_bytes parsed) os sized.held) in
    let within = units_named parsed (unit_lists os) placements scan.units entries scanned.own.units entries_are in
    record {
      objects = os;
      held = sized.held;
      units_are = are ∙ scanned.own.units;
      listed = listed ∙ scanned.own.units;
      answers = answers (published os) scanned.names.names;
      steps = subst (HasFewSteps index) scanned.names.order steps;
      names_are = record {
        names = names_again (published os) scan.names (all_named names) same scanned.names.names;
        distinct = distinct_again scan.names (all_named names) same scanned.names.distinct;
        ascending = ascending;
      };
      size = subst (λ n. IsSize version (counts_of os (length (placed (file_bytes parsed) (unit_lists os) placements))) n) (sym len) sized.size_is;
      laid_out = subst (λ (list : List AddressEntry). IsLaidOut version os (length (placed (file_bytes parsed) (unit_lists os) placements)) list units index) entries_are (laid_out version os (length (placed (file_bytes parsed) (unit_lists os) placements)) entries scan units index (are ∙ scanned.own.units) scanned.some scanned within is);
    }

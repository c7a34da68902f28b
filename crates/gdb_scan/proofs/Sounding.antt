-- What a scan of an object keeps.
use Rattle.std.proofs.Common.{◌≡◌, ◌≢◌, ℕ, zero, suc, ◌+◌, ◌*◌, ◌^◌, ◌<◌, ◌≤◌, Bool, true, false, cond, eqb, List, [], ◌∷◌, ◌++◌, length, take, drop, get_or, Option, Some, None, refl, sym, ap, subst, ◌∙◌, arith, inl, inr}
use Rattle.std.specs.Prelude.{slice_get, option_and_then}
use Rattle.std.specs.List.{All, AllByRecursion, AllPairs, filter}
use Rattle.std.specs.Str.{bytes_eq}
use Rattle.std.proofs.lemmas.Bool.{cases_Bool, eqb-true}
use Rattle.std.proofs.lemmas.List.{length-take, length-drop}
use Rattle.std.proofs.lemmas.List.Sorted.{All-permutation}
use Rattle.std.proofs.lemmas.List.Quantifiers.{position-Some}
use Rattle.std.proofs.lemmas.List.Sums.{sum_by-cons}
use Rattle.elf_format.specs.Class.{Class}
use Rattle.elf_format.specs.Bytes.{get}
use Rattle.elf_format.specs.Section.{sections, section_bytes}
use Rattle.gdb_index_format.specs.declared.unit.CuBoundary.{CuBoundary}
use Rattle.gdb_index_format.specs.declared.placement.Placement.{Placement}
use Rattle.gdb_index_format.specs.Units.{total_length}
use Rattle.gdb_index_format.specs.Names.{Entry, NameSet}
use Rattle.gdb_index_format.specs.Objects.{info_section, bytes_of_section, first_compressed, AreSetsBeside, IsSetsOf, IsUnitsOf}
use Rattle.gdb_index_format.specs.Placed.{has_unit}
use Rattle.gdb_index_format.specs.Published.{firsts, bucket}
use Rattle.gdb_index_format.proofs.Pooling.{names_have_buckets_lem, all_keys_in_order}
use Rattle.gdb_index_format.proofs.UnitLists.{Tiles, Tiles-from_front, four_at_least}
use Rattle.dwarf_sections.specs.Clean.{IsClean}
use Rattle.dwarf_sections.specs.UnitSearch.{Ascend, unit_at}
use Rattle.gdb_scan.specs.declared.mark.Mark.{Mark}
use Rattle.gdb_scan.specs.Buckets.{in_buckets}
use Rattle.gdb_scan.specs.Groups.{names_of, values_of, groups}
use Rattle.gdb_scan.specs.declared.mark.Publication.{Publication}
use Rattle.gdb_scan.specs.Marks.{all_marked, marks_at, marks_in, marks_of}
use Rattle.gdb_scan.specs.Scan.{ObjectScan, IsObjectName, IsSoundScan}
use Rattle.gdb_scan.specs.ScanOf.{scan_of, AreWithin}
use Rattle.gdb_scan.specs.PlacedIn.{IsBefore, ArePlacements, NameSections, of_object, placed_in}
use Rattle.gdb_index_format.specs.Placed.{is_counted}
use Rattle.gdb_scan.specs.steps.Gathered.{GathersNames}
use Rattle.gdb_scan.specs.Cause.{IsNamesCause, FailsInNames}
use Rattle.gdb_scan.specs.Scanned.{ScansObject}
use Rattle.gdb_scan.specs.declared.error.GdbError.{GdbError}
use Rattle.gdb_scan.proofs.Grouping.{Name, others, others-same, others-kept, value-same, value-other, tabled}
use Rattle.gdb_scan.proofs.Pairing.{HaveSome, HaveSome-firsts}

-- ---- units

above : (b : List ℕ) (at : ℕ) (us : List CuBoundary) → Tiles b at us → (k : ℕ) (d : CuBoundary) → k < length us → at ≤ (get_or us k d).offset
above b at [] t k d l = absurd (omega arith)
above b at (u ∷ us) t zero d l = omega (arith, t.0)
above b at (u ∷ us) t (suc k) d l = omega (arith, above b (at + u.length) us t.2 k d (omega arith))

tiles_ascend : (b : List ℕ) (at : ℕ) (us : List CuBoundary) → Tiles b at us → Ascend us
tiles_ascend b at [] t i j d less l = absurd (omega arith)
tiles_ascend b at (u ∷ us) t zero zero d less l = absurd (omega arith)
tiles_ascend b at (u ∷ us) t zero (suc j) d less l = omega (arith, t.0, t.1, four_at_least b at, above b (at + u.length) us t.2 j d (omega arith))
tiles_ascend b at (u ∷ us) t (suc i) zero d less l = absurd (omega arith)
tiles_ascend b at (u ∷ us) t (suc i) (suc j) d less l = tiles_ascend b (at + u.length) us t.2 i j d (omega arith) (omega arith)

pub units_ascend : (c : Class) (file : List ℕ) (us : List CuBoundary) → IsUnitsOf c file us → Ascend us
units_ascend c file us units = tiles_ascend units.bytes 0 us (Tiles-from_front units.bytes us units.list.front)

counted_four : (b : List ℕ) (at : ℕ) (us : List CuBoundary) → Tiles b at us → 4 * length us ≤ total_length us
counted_four b at [] t = omega arith
counted_four b at (u ∷ us) t = omega (arith, sum_by-cons (λ (x : CuBoundary). x.length) u us, t.1, four_at_least b at, counted_four b (at + u.length) us t.2)

-- ---- bytes of a section

chosen : (t u : Bool) (n : ℕ) (x b : List ℕ) → length x ≤ n → cond t (Some []) (cond u (Some x) None) ≡ Some b → length b ≤ n
chosen true u n x b short e = omega (arith, ap length (same e)) where
  same : Some [] ≡ Some b → [] ≡ b
  same e = cc e
chosen false true n x b short e = omega (arith, ap length (same e)) where
  same : Some x ≡ Some b → x ≡ b
  same e = cc e
chosen false false n x b short e = absurd (cc e)

pub section_short : (c : Class) (file header b : List ℕ) → section_bytes c file header ≡ Some b → length b ≤ length file
unfolding section_bytes
section_short c file header b e = chosen _ _ (length file) _ b (part (get (Rattle.elf_format.specs.Class.sh_offset c) header) (get (Rattle.elf_format.specs.Class.sh_size c) header) file) e where
  part : (at size : ℕ) (file : List ℕ) → length (take size (drop at file)) ≤ length file
  part at size file = omega (arith, length-take size (drop at file), length-drop at file)

pub info_short : (c : Class) (file b : List ℕ) (o : Option ℕ) → bytes_of_section c file o ≡ Some b → length b ≤ length file
info_short c file b None e = omega (arith, ap length (same e)) where
  same : Some [] ≡ Some b → [] ≡ b
  same e = cc e
info_short c file b (Some index) e = by (slice_get (sections c file) index) e where
  by : (h : Option (List ℕ)) → option_and_then (section_bytes c file) h ≡ Some b → length b ≤ length file
  by None e = absurd (cc e)
  by (Some header) e = section_short c file header b e

-- ---- names

module _ {X : Type 0} (P : X → Type 0) where
  pub each_from_All : (xs : List X) → All P xs → AllByRecursion P xs
  each_from_All [] h = tt
  each_from_All (x ∷ xs) h = (h 0 x (omega arith), each_from_All xs (λ k d l. h (suc k) d (omega arith)))

  pub All-from_each : (xs : List X) → AllByRecursion P xs → All P xs
  All-from_each [] h k d l = absurd (omega arith)
  All-from_each (x ∷ xs) h zero d l = h.0
  All-from_each (x ∷ xs) h (suc k) d l = All-from_each xs h.1 k d (omega arith)

  pub each-append : (xs ys : List X) → AllByRecursion P xs → AllByRecursion P ys → AllByRecursion P (xs ++ ys)
  each-append [] ys p q = q
  each-append (x ∷ xs) ys p q = (p.0, each-append xs ys p.1 q)

each-others : (P : Name → Type 0) (m : Name) (fs : List Name) → AllByRecursion P fs → AllByRecursion P (others m fs)
each-others P m [] h = tt
each-others P m (f ∷ fs) h =
    elim (cases_Bool (bytes_eq f m)) [
      | inl gone ↦ subst (λ xs. AllByRecursion P xs) (sym (others-same m f fs gone)) (each-others P m fs h.1)
      | inr kept ↦ subst (λ xs. AllByRecursion P xs) (sym (others-kept m f fs kept)) (h.0, each-others P m fs h.1)
    ]

pub each-firsts : (P : Name → Type 0) (ns : List Name) → AllByRecursion P ns → AllByRecursion P (firsts ns)
each-firsts P [] h = tt
each-firsts P (n ∷ ns) h = (h.0, each-others P n (firsts ns) (each-firsts P ns h.1))

-- what holds of each value of a list of pairs holds of those of one name
pub each-values : {X : Type 0} (P : X → Type 0) (n : Name) (ps : List (Name × X)) → AllByRecursion (λ p. P p.1) ps → AllByRecursion P (values_of n ps)
each-values P n [] h = tt
each-values P n (p ∷ ps) h =
    elim (cases_Bool (bytes_eq p.0 n)) [
      | inl same ↦ subst (AllByRecursion P) (sym (value-same n p ps same)) (h.0, each-values P n ps h.1)
      | inr other ↦ subst (AllByRecursion P) (sym (value-other n p ps other)) (each-values P n ps h.1)
    ]

IsMarkOf : ℕ → Name × Mark → Type 0
IsMarkOf units p = All (λ (c : ℕ). c ≢ 0) p.0 × (p.1.unit < units)

entries_sound : (units index : ℕ) (es : List Entry) → index < units → AllByRecursion (λ (e : Entry). All (λ (c : ℕ). c ≢ 0) e.name) es → AllByRecursion (IsMarkOf units) (marks_at (Some index) es)
unfolding IsMarkOf
entries_sound units index [] l h = tt
entries_sound units index (e ∷ es) l h = ((h.0, l), entries_sound units index es l h.1)

set_sound : (us : List CuBoundary) (s : NameSet) → IsClean s → AllByRecursion (IsMarkOf (length us)) (marks_in us s)
set_sound us s clean = by (unit_at us s.unit) refl where
  by : (o : Option ℕ) → unit_at us s.unit ≡ o → AllByRecursion (IsMarkOf (length us)) (marks_at (unit_at us s.unit) s.entries)
  by None is = subst (λ o. AllByRecursion (IsMarkOf (length us)) (marks_at o s.entries)) (sym is) tt
  by (Some index) is = subst (λ o. AllByRecursion (IsMarkOf (length us)) (marks_at o s.entries)) (sym is) (entries_sound (length us) index s.entries (position-Some (λ (u : CuBoundary). eqb u.offset s.unit) us index (record { offset = 0; length = 0 }) is).0 (each_from_All (λ (e : Entry). All (λ (c : ℕ). c ≢ 0) e.name) s.entries clean))

marks_sound : (us : List CuBoundary) (ss : List NameSet) → AllByRecursion IsClean ss → AllByRecursion (IsMarkOf (length us)) (marks_of us ss)
marks_sound us [] h = tt
marks_sound us (s ∷ ss) h = each-append (IsMarkOf (length us)) (marks_in us s) (marks_of us ss) (set_sound us s h.0) (marks_sound us ss h.1)

names_sound : (units : ℕ) (ps : List (Name × Mark)) → AllByRecursion (IsMarkOf units) ps → AllByRecursion (λ (n : Name). All (λ (c : ℕ). c ≢ 0) n) (names_of ps)
unfolding IsMarkOf
names_sound units [] h = tt
names_sound units (p ∷ ps) h = (h.0.0, names_sound units ps h.1)

within : (units : ℕ) (ps : List (Name × Mark)) → AllByRecursion (IsMarkOf units) ps → AllByRecursion (λ (p : Name × Mark). p.1.unit < units) ps
unfolding IsMarkOf
within units [] h = tt
within units (p ∷ ps) h = (h.0.1, within units ps h.1)

table_sound : (units : ℕ) (ps : List (Name × Mark)) (fs : List Name) → AllByRecursion (λ (n : Name). All (λ (c : ℕ). c ≢ 0) n) fs → HaveSome (λ n. values_of n ps) fs → AllByRecursion (λ (p : Name × Mark). p.1.unit < units) ps → AllByRecursion (IsObjectName units) (tabled (λ n. values_of n ps) fs)
table_sound units ps [] clean some fit = tt
table_sound units ps (f ∷ fs) clean some fit = (
  record { no_zero = clean.0; some = some.0; within = each-values (λ (m : Mark). m.unit < units) f ps fit },
  table_sound units ps fs clean.1 some.1 fit,
)

groups_sound : (us : List CuBoundary) (ss : List NameSet) → All IsClean ss → AllByRecursion (IsObjectName (length us)) (groups (marks_of us ss))
groups_sound us ss clean =
    let ps = marks_of us ss in
    let each = marks_sound us ss (each_from_All IsClean ss clean) in
    table_sound (length us) ps (firsts (names_of ps)) (each-firsts (λ (n : Name). All (λ (c : ℕ). c ≢ 0) n) (names_of ps) (names_sound (length us) ps each)) (HaveSome-firsts ps) (within (length us) ps each)

units_within : (units : ℕ) (ps : List Publication) → AllByRecursion (IsMarkOf units) (all_marked ps) → AllByRecursion (λ (p : Publication). p.unit < units) ps
unfolding IsMarkOf
units_within units [] h = tt
units_within units (p ∷ ps) h = (h.0.1, units_within units ps h.1)

-- the publications of an object name its units
pub gathered_within : (c : Class) (file : List ℕ) (us : List CuBoundary) (ps : List Publication) → GathersNames c file us (all_marked ps) → AreWithin us ps
gathered_within c file us ps h = All-from_each (λ (p : Publication). p.unit < length us) ps (units_within (length us) ps (subst (AllByRecursion (IsMarkOf (length us))) (sym h.published) (marks_sound us h.sets (each_from_All IsClean h.sets h.clean))))

-- ---- placements

pub filter_le : {X : Type 0} (p : X → Bool) (xs : List X) → length (filter p xs) ≤ length xs
filter_le p [] = omega arith
filter_le p (x ∷ xs) = by (p x) refl (filter_le p xs) where
  by : (b : Bool) → p x ≡ b → length (filter p xs) ≤ length xs → length (filter p (x ∷ xs)) ≤ length (x ∷ xs)
  by true is h = rw is (omega arith)
  by false is h = rw is (omega arith)

own_few : (object limit low : ℕ) (ps : List Placement) → AllPairs IsBefore ps → All (λ p. p.object ≡ object → p.section < limit) ps → All (λ p. p.object ≡ object → low ≤ p.section) ps → low ≤ limit → low + length (of_object object ps) ≤ limit
own_few object limit low [] ascend named from le = omega arith
own_few object limit low (p ∷ ps) ascend named from le = by (λ start after fits. own_few object limit start ps rest_ascends rest_named after fits) (eqb p.object object) refl where
  rest_ascends : AllPairs IsBefore ps
  rest_ascends i j d less l = ascend (suc i) (suc j) d (omega arith) (omega arith)

  rest_named : All (λ p. p.object ≡ object → p.section < limit) ps
  rest_named k d l = named (suc k) d (omega arith)

  rest_from : All (λ p. p.object ≡ object → low ≤ p.section) ps
  rest_from k d l = from (suc k) d (omega arith)

  later : (q : Placement) → IsBefore p q → p.object ≡ object → q.object ≡ object → p.section + 1 ≤ q.section
  later q (inl lower) here there = absurd (omega (arith, lower, here, there))
  later q (inr after) here there = omega (arith, after.1)

  by : ((start : ℕ) → All (λ q. q.object ≡ object → start ≤ q.section) ps → start ≤ limit → start + length (of_object object ps) ≤ limit) → (b : Bool) → eqb p.object object ≡ b → low + length (of_object object (p ∷ ps)) ≤ limit
  by rest true is =
      let here : p.object ≡ object = eqb-true p.object object is in
      let more : p.section + 1 + length (of_object object ps) ≤ limit = rest (p.section + 1) (λ k d l. later (get_or ps k d) (ascend 0 (suc k) d (omega arith) (omega arith)) here) (omega (arith, named 0 p (omega arith) here)) in
      let start : low ≤ p.section = from 0 p (omega arith) here in
      rw is (omega (arith, more, start))
  by rest false is = rw is (rest low rest_from le)

pub placed_few : (c : Class) (file : List ℕ) (object : ℕ) (ps : List Placement) → ArePlacements ps → NameSections c file object ps → placed_in c file object ps ≤ length (sections c file)
placed_few c file object ps are named = omega (arith, filter_le (is_counted c file) (of_object object ps), own_few object (length (sections c file)) 0 ps are.ascend named (λ k d l same. omega arith) (omega arith))

-- what holds of each group holds of them by bucket
pub each_in_buckets : {X : Type 0} (P : Name × X → Type 0) (gs : List (Name × X)) → AllByRecursion P gs → AllByRecursion P (in_buckets gs)
each_in_buckets {X} P gs h = each_from_All P (in_buckets gs) (All-permutation P gs (in_buckets gs) (all_keys_in_order (λ (g : Name × X). bucket g.0) 32 (λ g. names_have_buckets_lem g.0) gs) (All-from_each P gs h))

-- ---- the scan

pub sound_scan : (c : Class) (file : List ℕ) (us : List CuBoundary) (ps : List Publication) (placed : ℕ) → length file < 2 ^ 39 → IsUnitsOf c file us → 0 < length us → GathersNames c file us (all_marked ps) → 40 * length (sections c file) ≤ length file → placed ≤ length (sections c file) → IsSoundScan (scan_of us ps placed)
sound_scan c file us ps placed small units some gathered fit few =
    let tiles = Tiles-from_front units.bytes us units.list.front in
    record {
      some = some;
      counted = counted_four units.bytes 0 us tiles;
      small = omega (arith, units.list.front.within, info_short c file units.bytes (info_section c file) units.there);
      placed = omega arith;
      names = each_in_buckets (IsObjectName (length us)) (groups (all_marked ps)) (subst (λ ms. AllByRecursion (IsObjectName (length us)) (groups ms)) (sym gathered.published) (groups_sound us gathered.sets gathered.clean));
    }

beside : (c : Class) (file : List ℕ) (us : List CuBoundary) (ss : List NameSet) → 0 < length us → IsSetsOf c file ss → AreSetsBeside c file us ss
beside c file [] ss some sets = absurd (omega arith)
beside c file (u ∷ us) ss some sets = sets

with_unit : (us : List CuBoundary) (n : ℕ) → 0 < length us → n ≡ cond (has_unit us) n 0
with_unit [] n some = absurd (omega arith)
with_unit (u ∷ us) n some = refl

with_some : (us : List CuBoundary) → 0 < length us → us ≢ []
with_some us some none = omega (arith, some, ap length none)

pub scanned : (c : Class) (file : List ℕ) (object : ℕ) (ps : List Placement) (us : List CuBoundary) (names : List Publication) (placed : ℕ) (scan : ObjectScan) → scan ≡ scan_of us names placed → IsUnitsOf c file us → 0 < length us → GathersNames c file us (all_marked names) → first_compressed c file ≡ None → placed ≡ placed_in c file object ps → 40 * length (sections c file) ≤ length file → ScansObject c file object ps (Some scan)
scanned c file object ps us names placed scan is units some gathered plain count room = record {
  held = record { units = us; sets = gathered.sets };
  is_object = record { units = units; sets = beside c file us gathered.sets some gathered.list };
  plain = plain;
  is_scan = (ap (λ (s : ObjectScan). s.units) is, ap (λ (s : ObjectScan). s.names) is ∙ ap (λ ms. in_buckets (groups ms)) gathered.published, with_some us some);
  placed = ap (λ (s : ObjectScan). s.placed) is ∙ count ∙ with_unit us (placed_in c file object ps) some;
  room = room;
}

pub nil_from : {X : Type 0} (xs : List X) → length xs ≡ 0 → xs ≡ []
nil_from [] e = refl
nil_from (x ∷ xs) e = absurd (omega (arith, e))

pub scanned_none : (c : Class) (file : List ℕ) (object : ℕ) (ps : List Placement) (us : List CuBoundary) → IsUnitsOf c file us → length us ≡ 0 → first_compressed c file ≡ None → ScansObject c file object ps None
scanned_none c file object ps us units none plain = record {
  held = record { units = []; sets = [] };
  is_object = record { units = subst (IsUnitsOf c file) (nil_from us none) units; sets = refl };
  plain = plain;
  is_scan = refl;
  placed = refl;
  room = tt;
}

pub fails_in_names : (c : Class) (object : ℕ) (file : List ℕ) (us : List CuBoundary) (e : GdbError) → IsUnitsOf c file us → 0 < length us → IsNamesCause c object file e → FailsInNames c object file e
fails_in_names c object file [] e units some cause = absurd (omega arith)
fails_in_names c object file (u ∷ us) e units some cause = record { first = u; others = us; units = units; names = cause }

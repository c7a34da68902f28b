-- The entries of all objects, one object after another.
use Rattle.std.proofs.Common.{◌≡◌, ℕ, zero, suc, ◌+◌, ◌^◌, ◌<◌, ◌≤◌, Bool, true, false, ltb, eqb, ◌&&◌, List, [], ◌∷◌, ◌++◌, length, take, drop, get_or, map, Some, None, refl, sym, ap, subst, ◌∙◌, arith, inl, inr}
use Rattle.std.specs.Prelude.{slice_get, option_map}
use Rattle.std.specs.Option.{option_or}
use Rattle.std.specs.List.{All, filter}
use Rattle.std.specs.List.Sorted.{IsNonDecreasingBy}
use Rattle.std.proofs.lemmas.Bool.{cases_lt, cond-true, cond-false, ltb-true, lt-ltb, eqb-true, eq-eqb, false_from_ne_true}
use Rattle.std.proofs.lemmas.List.{length-append, length-map, map-append}
use Rattle.std.proofs.lemmas.List.Elements.{filter-append, All-filter}
use Rattle.std.proofs.lemmas.Option.{slice_get-get_or}
use Rattle.elf_format.specs.Section.{sections}
use Rattle.elf_view.specs.Parsed.{Parsed}
use Rattle.gdb_scan.proofs.Assigning.{front}
use Rattle.gdb_index_format.specs.declared.placement.Placement.{Placement}
use Rattle.gdb_index_format.specs.declared.placement.AddressEntry.{AddressEntry}
use Rattle.gdb_index_format.specs.declared.unit.CuBoundary.{CuBoundary}
use Rattle.gdb_index_format.specs.Published.{units_in_lists, units_of_lists}
use Rattle.gdb_index_format.specs.Objects.{class_in, IsUnitsOf, AreUnitsOf}
use Rattle.gdb_index_format.specs.Placed.{is_code, has_unit, counts_in}
use Rattle.gdb_index_format.specs.Placed.{placed as placements_that_count}
use Rattle.gdb_index_format.specs.Addresses.{unit_of_section, unit_relocation_fault}
use Rattle.gdb_tables.specs.Addresses.{unit_in_object, address_entry, addresses, fault_from, first_relocation_fault, IsAddressCause}
use Rattle.gdb_tables.specs.steps.ObjectEntries.{entry_at, has_entry, entries_of, IsEntriesCause}
use Rattle.gdb_scan.specs.declared.error.GdbError.{GdbError}
use Rattle.gdb_scan.specs.declared.error.GdbError.TheVariants.{BadElf, CompressedSection, BadUnit, BadPubnames, TooManyUnits, IndexTooLarge, NoMemory}
use Rattle.gdb_tables.specs.Files.{file_bytes, IsThere, ArePlacedIn}
use Rattle.gdb_scan.specs.PlacedIn.{of_object}
use Rattle.gdb_scan.proofs.Windows.{objects_do_not_fall}
use Rattle.gdb_tables.proofs.Merging.{length-placed}
use Rattle.gdb_tables.proofs.Picking.{picks, two_tests, picks_alike, picks_none, passes_same, passes_none, passes_all, passes_few}

-- ---- placements by their objects

not_below : (a b : ℕ) → b ≤ a → ltb a b ≡ false
not_below a b le = false_from_ne_true _ (λ t. omega (arith, ltb-true a b t))

not_equal : (a b : ℕ) → (a ≡ b → ⊥) → eqb a b ≡ false
not_equal a b apart = false_from_ne_true _ (λ t. apart (eqb-true a b t))

-- the placements of the objects before a number
abbrev pub below : ℕ → List Placement → List Placement
below object ps = filter (λ p. ltb p.object object) ps

pub none_below : (ps : List Placement) → below 0 ps ≡ []
none_below ps = passes_none (λ p. ltb p.object 0) ps (λ k d l. not_below (get_or ps k d).object 0 (omega arith))

next_or_same : (a object : ℕ) → object ≤ a → ltb a (object + 1) ≡ eqb a object
next_or_same a object le = elim (cases_lt object a) [
  | inl more ↦ not_below a (object + 1) (omega arith) ∙ sym (not_equal a object (λ e. omega (arith, e)))
  | inr same ↦ lt-ltb a (object + 1) (omega arith) ∙ sym (eq-eqb a object (omega arith))
]

pub below_next : (object : ℕ) (ps : List Placement) → IsNonDecreasingBy (λ p. p.object) ps → below (object + 1) ps ≡ below object ps ++ of_object object ps
below_next object [] rise = refl
below_next object (p ∷ ps) rise = elim (cases_lt p.object object) [
  | inl less ↦
      cond-true (ltb p.object (object + 1)) (p ∷ below (object + 1) ps) (below (object + 1) ps) (lt-ltb p.object (object + 1) (omega arith))
      ∙ ap (λ l. p ∷ l) (below_next object ps (λ i j d le l. rise (suc i) (suc j) d (omega arith) (omega arith)))
      ∙ ap (λ l. l ++ of_object object ps) (sym (cond-true (ltb p.object object) (p ∷ below object ps) (below object ps) (lt-ltb p.object object less)))
      ∙ ap (λ l. below object (p ∷ ps) ++ l) (sym (cond-false (eqb p.object object) (p ∷ of_object object ps) (of_object object ps) (not_equal p.object object (λ e. omega (arith, e)))))
  | inr more ↦
      let high : (k : ℕ) (d : Placement) → k < length (p ∷ ps) → object ≤ (get_or (p ∷ ps) k d).object = λ k d l. omega (arith, rise 0 k d (omega arith) l) in
      passes_same (λ (q : Placement). ltb q.object (object + 1)) (λ (q : Placement). eqb q.object object) (p ∷ ps) (λ k d l. next_or_same (get_or (p ∷ ps) k d).object object (high k d l))
      ∙ ap (λ l. l ++ of_object object (p ∷ ps)) (sym (passes_none (λ (q : Placement). ltb q.object object) (p ∷ ps) (λ k d l. not_below (get_or (p ∷ ps) k d).object object (high k d l))))
]

pub below_all : (files : List Parsed) (ps : List Placement) (object : ℕ) → ArePlacedIn (file_bytes files) ps → length files ≤ object → below object ps ≡ ps
below_all files ps object are past = passes_all (λ p. ltb p.object object) ps (λ k d l. lt-ltb (get_or ps k d).object object (omega (arith, past, number files (get_or ps k d).object (get_or ps k d).section (are.there k d l)))) where
  number : (fs : List Parsed) (n section : ℕ) → IsThere (slice_get (file_bytes fs) n) section → n < length fs
  number [] zero section h = absurd h
  number [] (suc n) section h = absurd h
  number (f ∷ fs) zero section h = omega arith
  number (f ∷ fs) (suc n) section h = omega (arith, number fs n section h)

-- ---- addresses, object by object

-- whether a placement has an entry
abbrev counted : List Parsed → List (List CuBoundary) → Placement → Bool
counted files uss p = counts_in (slice_get (file_bytes files) p.object) (slice_get uss p.object) p && ltb 0 p.address

addresses_picked : (files : List Parsed) (uss : List (List CuBoundary)) (ps : List Placement) → addresses files uss ps ≡ picks (counted files uss) (address_entry files uss) ps
addresses_picked files uss ps = two_tests (λ p. ltb 0 p.address) (λ p. counts_in (slice_get (file_bytes files) p.object) (slice_get uss p.object) p) (address_entry files uss) ps

addresses-append : (files : List Parsed) (uss : List (List CuBoundary)) (ps qs : List Placement) → addresses files uss (ps ++ qs) ≡ addresses files uss ps ++ addresses files uss qs
addresses-append files uss ps qs =
    addresses_picked files uss (ps ++ qs)
    ∙ ap (map (address_entry files uss)) (filter-append (counted files uss) ps qs)
    ∙ map-append (address_entry files uss) (filter (counted files uss) ps) (filter (counted files uss) qs)
    ∙ ap (λ l. l ++ picks (counted files uss) (address_entry files uss) qs) (sym (addresses_picked files uss ps))
    ∙ ap (λ l. addresses files uss ps ++ l) (sym (addresses_picked files uss qs))

bytes_at : (files : List Parsed) (i : ℕ) (f : Parsed) → slice_get files i ≡ Some f → slice_get (file_bytes files) i ≡ Some f.bytes
bytes_at [] zero f e = absurd (cc e)
bytes_at [] (suc i) f e = absurd (cc e)
bytes_at (x ∷ files) zero f e = let same : x ≡ f = cc e in ap (λ (y : Parsed). Some y.bytes) same
bytes_at (x ∷ files) (suc i) f e = bytes_at files i f e

with_true : (a b : Bool) → b ≡ true → (a && b) ≡ a
with_true true b e = e
with_true false b e = refl

with_false : (a b : Bool) → b ≡ false → (a && b) ≡ false
with_false true b e = e
with_false false b e = refl

-- a placement with a size, of code, in an object with a unit, at an address
in_any_order : (size code unit address : Bool) → ((size && code && unit) && address) ≡ (((size && code) && address) && unit)
in_any_order true true true true = refl
in_any_order true true true false = refl
in_any_order true true false true = refl
in_any_order true true false false = refl
in_any_order true false unit address = refl
in_any_order false code unit address = refl

-- the entries of the placements of one object
module _ (files : List Parsed) (uss : List (List CuBoundary)) (object : ℕ) (f : Parsed) (us : List CuBoundary) (file : slice_get files object ≡ Some f) (held : slice_get uss object ≡ Some us) where
  entry_here : (p : Placement) → eqb p.object object ≡ true → address_entry files uss p ≡ entry_at (length (units_in_lists (take object uss))) (unit_of_section (class_in f.bytes) f.is_dynamic f.bytes us) p
  entry_here p e = by p.object (eqb-true p.object object e) where
    by : (n : ℕ) → n ≡ object → record { low = p.address; high = p.address + p.size; unit = length (units_in_lists (take n uss)) + unit_in_object (slice_get files n) (slice_get uss n) p.section } ≡ entry_at (length (units_in_lists (take object uss))) (unit_of_section (class_in f.bytes) f.is_dynamic f.bytes us) p
    by n is = rw (is, file, held) refl

  counted_here : (p : Placement) → eqb p.object object ≡ true → counted files uss p ≡ (has_entry (class_in f.bytes) f.bytes p && has_unit us)
  counted_here p e = by p.object (eqb-true p.object object e) where
    by : (n : ℕ) → n ≡ object → (counts_in (slice_get (file_bytes files) n) (slice_get uss n) p && ltb 0 p.address) ≡ (has_entry (class_in f.bytes) f.bytes p && has_unit us)
    by n is = rw (is, bytes_at files object f file, held) (in_any_order (ltb 0 p.size) (is_code (class_in f.bytes) (slice_get (sections (class_in f.bytes) f.bytes) p.section)) (has_unit us) (ltb 0 p.address))

  pub own_addresses : (ps : List Placement) → addresses files uss (of_object object ps) ≡ entries_of (class_in f.bytes) f (length (units_in_lists (take object uss))) us (of_object object ps)
  own_addresses ps = addresses_picked files uss (of_object object ps) ∙ by (has_unit us) refl where
    by : (b : Bool) → has_unit us ≡ b → picks (counted files uss) (address_entry files uss) (of_object object ps) ≡ entries_of (class_in f.bytes) f (length (units_in_lists (take object uss))) us (of_object object ps)
    by true e = rw e (picks_alike (λ p. eqb p.object object) (counted files uss) (has_entry (class_in f.bytes) f.bytes) (address_entry files uss) (entry_at (length (units_in_lists (take object uss))) (unit_of_section (class_in f.bytes) f.is_dynamic f.bytes us)) (λ p same. counted_here p same ∙ with_true (has_entry (class_in f.bytes) f.bytes p) (has_unit us) e) entry_here ps)
    by false e = rw e (picks_none (λ p. eqb p.object object) (counted files uss) (address_entry files uss) (λ p same. counted_here p same ∙ with_false (has_entry (class_in f.bytes) f.bytes p) (has_unit us) e) ps)

-- ---- the objects before a number

-- what is made of the objects before a number: the entries of their placements, how many units they have, and no
-- fault
pub record Added (files : List Parsed) (uss : List (List CuBoundary)) (ps : List Placement) (object first : ℕ) (entries : List AddressEntry) : Type 0 where
  pub made : entries ≡ addresses files uss (below object ps)
  pub units : first ≡ length (units_in_lists (take object uss))
  pub sound : first_relocation_fault files uss ≡ fault_from object (drop object files) (drop object uss)

pub added_none : (files : List Parsed) (uss : List (List CuBoundary)) (ps : List Placement) (entries : List AddressEntry) → entries ≡ [] → Added files uss ps 0 0 entries
added_none files uss ps entries none = record { made = none ∙ ap (addresses files uss) (sym (none_below ps)); units = refl; sound = refl }

-- an object that is there, by its file
pub units_at : (files : List Parsed) (uss : List (List CuBoundary)) (i : ℕ) (f : Parsed) → AreUnitsOf (file_bytes files) uss → i < length files → f ≡ get_or files i f → (us : List CuBoundary) × (slice_get uss i ≡ Some us) × IsUnitsOf (class_in f.bytes) f.bytes us
units_at [] uss i f held l is = absurd (omega arith)
units_at (x ∷ files) [] i f held l is = absurd held
units_at (x ∷ files) (us ∷ uss) zero f held l is = (us, refl, subst (λ (y : Parsed). IsUnitsOf (class_in y.bytes) y.bytes us) (sym is) held.0)
units_at (x ∷ files) (us ∷ uss) (suc i) f held l is = units_at files uss i f held.1 (omega arith) is

pub as_many_lists : (files : List Parsed) (uss : List (List CuBoundary)) → AreUnitsOf (file_bytes files) uss → length files ≡ length uss
as_many_lists [] [] held = refl
as_many_lists [] (us ∷ uss) held = absurd held
as_many_lists (f ∷ files) [] held = absurd held
as_many_lists (f ∷ files) (us ∷ uss) held = ap suc (as_many_lists files uss held.1)

file_here : (files : List Parsed) (i : ℕ) (f : Parsed) → i < length files → f ≡ get_or files i f → slice_get files i ≡ Some f
file_here files i f l is = slice_get-get_or files i f l ∙ ap (λ (y : Parsed). Some y) (sym is)

pub count_at : (uss : List (List CuBoundary)) (i : ℕ) (us : List CuBoundary) → slice_get uss i ≡ Some us → get_or (map (λ (x : List CuBoundary). length x) uss) i 0 ≡ length us
count_at [] zero us e = absurd (cc e)
count_at [] (suc i) us e = absurd (cc e)
count_at (x ∷ uss) zero us e = let same : x ≡ us = cc e in ap (λ (y : List CuBoundary). length y) same
count_at (x ∷ uss) (suc i) us e = count_at uss i us e

units_next : (uss : List (List CuBoundary)) (i : ℕ) (us : List CuBoundary) → slice_get uss i ≡ Some us → length (units_in_lists (take (i + 1) uss)) ≡ length (units_in_lists (take i uss)) + length us
units_next [] zero us e = absurd (cc e)
units_next [] (suc i) us e = absurd (cc e)
units_next (x ∷ uss) zero us e = let same : x ≡ us = cc e in omega (arith, length-append x [], ap (λ (y : List CuBoundary). length y) same)
units_next (x ∷ uss) (suc i) us e =
    let more : suc i + 1 ≡ suc (i + 1) = omega arith in
    ap (λ n. length (units_in_lists (take n (x ∷ uss)))) more ∙ omega (arith, length-append x (units_in_lists (take (i + 1) uss)), length-append x (units_in_lists (take i uss)), units_next uss i us e)

units_of_some : (uss : List (List CuBoundary)) (i : ℕ) → length (units_in_lists (take i uss)) ≤ length (units_in_lists uss)
units_of_some [] zero = omega arith
units_of_some [] (suc i) = omega arith
units_of_some (x ∷ uss) zero = omega arith
units_of_some (x ∷ uss) (suc i) = omega (arith, length-append x (units_in_lists (take i uss)), length-append x (units_in_lists uss), units_of_some uss i)

pub room_at : (uss : List (List CuBoundary)) (i first : ℕ) (us : List CuBoundary) → slice_get uss i ≡ Some us → first ≡ length (units_in_lists (take i uss)) → first + length us ≤ length (units_of_lists uss)
room_at uss i first us e is = omega (arith, is, units_next uss i us e, units_of_some uss (i + 1), length-placed 0 (units_in_lists uss))

module _ (files : List Parsed) (uss : List (List CuBoundary)) (object : ℕ) (f : Parsed) (us : List CuBoundary) (file : slice_get files object ≡ Some f) (held : slice_get uss object ≡ Some us) where
  faults_here : fault_from object (drop object files) (drop object uss) ≡ option_or (option_map (λ e. (object, e)) (unit_relocation_fault (class_in f.bytes) f.is_dynamic f.bytes us)) (fault_from (object + 1) (drop (object + 1) files) (drop (object + 1) uss))
  faults_here = ap (λ fs. fault_from object fs (drop object uss)) (front files object f file) ∙ ap (λ xs. fault_from object (f ∷ drop (object + 1) files) xs) (front uss object us held)

pub added_more : (files : List Parsed) (uss : List (List CuBoundary)) (ps : List Placement) (object first : ℕ) (old new : List AddressEntry) (f : Parsed) (us : List CuBoundary) (count : ℕ) → ArePlacedIn (file_bytes files) ps → object < length files → f ≡ get_or files object f → slice_get uss object ≡ Some us → count ≡ length us → new ≡ old ++ entries_of (class_in f.bytes) f first us (of_object object ps) → unit_relocation_fault (class_in f.bytes) f.is_dynamic f.bytes us ≡ None → Added files uss ps object first old → Added files uss ps (object + 1) (first + count) new
added_more files uss ps object first old new f us count placed l is held counted more sound before = record {
  made =
      more
      ∙ ap (λ es. es ++ entries_of (class_in f.bytes) f first us (of_object object ps)) before.made
      ∙ ap (λ n. addresses files uss (below object ps) ++ entries_of (class_in f.bytes) f n us (of_object object ps)) before.units
      ∙ ap (λ es. addresses files uss (below object ps) ++ es) (sym (own_addresses files uss object f us (file_here files object f l is) held ps))
      ∙ sym (addresses-append files uss (below object ps) (of_object object ps))
      ∙ ap (addresses files uss) (sym (below_next object ps (objects_do_not_fall ps placed.in_order)));
  units = omega (arith, before.units, counted, units_next uss object us held);
  sound =
      before.sound
      ∙ faults_here files uss object f us (file_here files object f l is) held
      ∙ ap (λ x. option_or (option_map (λ e. (object, e)) x) (fault_from (object + 1) (drop (object + 1) files) (drop (object + 1) uss))) sound;
}

pub first_fault : (files : List Parsed) (uss : List (List CuBoundary)) (ps : List Placement) (object first : ℕ) (entries : List AddressEntry) (f : Parsed) (us : List CuBoundary) (e : GdbError) → object < length files → f ≡ get_or files object f → slice_get uss object ≡ Some us → IsEntriesCause object (unit_relocation_fault (class_in f.bytes) f.is_dynamic f.bytes us) e → Added files uss ps object first entries → IsAddressCause (first_relocation_fault files uss) e
first_fault files uss ps object first entries f us (BadElf i kind) l is held cause before =
    before.sound
    ∙ faults_here files uss object f us (file_here files object f l is) held
    ∙ ap (λ x. option_or (option_map (λ e. (object, e)) x) (fault_from (object + 1) (drop (object + 1) files) (drop (object + 1) uss))) cause.1
    ∙ ap (λ n. Some (n, kind)) (sym cause.0)
first_fault files uss ps object first entries f us (CompressedSection i s) l is held cause before = cause
first_fault files uss ps object first entries f us (BadUnit i offset kind) l is held cause before = cause
first_fault files uss ps object first entries f us (BadPubnames i s) l is held cause before = cause
first_fault files uss ps object first entries f us (TooManyUnits n) l is held cause before = cause
first_fault files uss ps object first entries f us (IndexTooLarge n) l is held cause before = cause
first_fault files uss ps object first entries f us NoMemory l is held cause before = tt

pub added_all : (files : List Parsed) (uss : List (List CuBoundary)) (ps : List Placement) (object first : ℕ) (entries : List AddressEntry) → ArePlacedIn (file_bytes files) ps → length files ≤ object → Added files uss ps object first entries → entries ≡ addresses files uss ps
added_all files uss ps object first entries placed past added = added.made ∙ ap (addresses files uss) (below_all files ps object placed past)

pub few_addresses : (files : List Parsed) (uss : List (List CuBoundary)) (ps : List Placement) → length (addresses files uss ps) ≤ length (placements_that_count (file_bytes files) uss ps)
few_addresses files uss ps = omega (arith, length-map (filter (λ p. ltb 0 p.address) (placements_that_count (file_bytes files) uss ps)) (address_entry files uss), passes_few (λ (p : Placement). ltb 0 p.address) (placements_that_count (file_bytes files) uss ps))

pub own_fit : (object : ℕ) (ps : List Placement) → All (λ p. p.address + p.size < 2 ^ 64) ps → All (λ p. p.address + p.size < 2 ^ 64) (of_object object ps)
own_fit object ps fit = All-filter (λ p. eqb p.object object) (λ p. p.address + p.size < 2 ^ 64) ps fit

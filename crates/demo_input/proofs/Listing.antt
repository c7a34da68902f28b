-- What the objects of a number hold, one after another, and how large their index is.
use Rattle.std.proofs.Common.{◌≡◌, ℕ, zero, suc, ◌+◌, ◌*◌, ◌/◌, ◌^◌, ◌<◌, ◌≤◌, Bool, true, false, cond, eqb, not, List, [], ◌∷◌, length, map, filter, None, refl, sym, ap, subst, ◌∙◌, arith}
use Rattle.std.specs.Prelude.{codes, slice_get}
use Rattle.std.specs.List.{All, AllByRecursion, flat_map, sum_by, range_with_len}
use Rattle.std.specs.Str.{bytes_eq}
use Rattle.std.proofs.lemmas.List.{length-map}
use Rattle.std.proofs.lemmas.List.Elements.{All-nil, All-cons, All-head, All-tail, All-filter}
use Rattle.std.proofs.lemmas.List.FromFn.{length-map-range_with_len}
use Rattle.std.proofs.lemmas.List.Sums.{length-filter, count_by-le-length, sum_by-le}
use Rattle.elf_format.specs.Class.{class64}
use Rattle.elf_format.specs.Section.{sections}
use Rattle.gdb_index_format.specs.declared.unit.CuBoundary.{CuBoundary}
use Rattle.gdb_index_format.specs.Addresses.{relocation_fault}
use Rattle.gdb_index_format.specs.Hash.{element_of}
use Rattle.gdb_index_format.specs.Objects.{class_in, first_compressed, IsObjectOf, AreObjectsOf}
use Rattle.gdb_index_format.specs.Placed.{counts_in, placed}
use Rattle.gdb_index_format.specs.Published.{Object, Pair, end_to_end, units_in_lists, units_of_all, unit_lists, published, published_from, elements_in_order, firsts, first_names}
use Rattle.gdb_index_format.specs.Size.{Counts, IsSize, size_with, counts_of}
use Rattle.gdb_index_format.specs.Slots.{IsSlotCount}
use Rattle.gdb_index_format.specs.Version.{header_len, shortcut_len}
use Rattle.gdb_index_format.proofs.Sizing.{sizes_are_one_lem}
use Rattle.demo_input.specs.Object.{numbered_name, numbered_object, numbered_holding, numbered_pairs, numbered_placement, common_flag, last_digit}
use Rattle.demo_input.specs.Generated.{demo_placements}
use Rattle.demo_input.proofs.Template.{object_class, object_len, object_sections, object_plain, object_relocations}
use Rattle.demo_input.proofs.Holding.{object_holds}

-- ---- one object

pub numbered_len : (k : ℕ) → length (numbered_object k) ≡ 501
unfolding numbered_object
numbered_len k = object_len (last_digit (k / 100)) (last_digit (k / 10)) (last_digit k) (common_flag k)

pub numbered_class : (k : ℕ) → class_in (numbered_object k) ≡ class64
unfolding numbered_object
numbered_class k = object_class (last_digit (k / 100)) (last_digit (k / 10)) (last_digit k) (common_flag k)

pub numbered_sections : (k : ℕ) → length (sections (class_in (numbered_object k)) (numbered_object k)) ≡ 5
unfolding numbered_object
numbered_sections k =
    ap (λ c. length (sections c (numbered_object k))) (numbered_class k) ∙ object_sections (last_digit (k / 100)) (last_digit (k / 10)) (last_digit k) (common_flag k)

numbered_plain : (k : ℕ) → first_compressed (class_in (numbered_object k)) (numbered_object k) ≡ None
unfolding numbered_object
numbered_plain k =
    ap (λ c. first_compressed c (numbered_object k)) (numbered_class k) ∙ object_plain (last_digit (k / 100)) (last_digit (k / 10)) (last_digit k) (common_flag k)

pub numbered_relocations : (k : ℕ) → relocation_fault (class_in (numbered_object k)) false (numbered_object k) ≡ None
unfolding numbered_object
numbered_relocations k =
    ap (λ c. relocation_fault c false (numbered_object k)) (numbered_class k) ∙ object_relocations (last_digit (k / 100)) (last_digit (k / 10)) (last_digit k) (common_flag k)

numbered_holds : (k : ℕ) → IsObjectOf (class_in (numbered_object k)) (numbered_object k) (numbered_holding k)
unfolding numbered_object
numbered_holds k =
    subst (λ c. IsObjectOf c (numbered_object k) (numbered_holding k)) (sym (numbered_class k))
    (object_holds (last_digit (k / 100)) (last_digit (k / 10)) (last_digit k) (common_flag k) (omega arith) (omega arith) (omega arith))

-- ---- all of them

pub objects_hold : (a n : ℕ) → AreObjectsOf (map numbered_object (range_with_len a n)) (map numbered_holding (range_with_len a n))
objects_hold a zero = tt
objects_hold a (suc n) = (numbered_holds a, objects_hold (a + 1) n)

pub objects_are_plain : (a n : ℕ) → AllByRecursion (λ file. first_compressed (class_in file) file ≡ None) (map numbered_object (range_with_len a n))
objects_are_plain a zero = tt
objects_are_plain a (suc n) = (numbered_plain a, objects_are_plain (a + 1) n)

length-end_to_end : (at : ℕ) (us : List CuBoundary) → length (end_to_end at us) ≡ length us
length-end_to_end at [] = refl
length-end_to_end at (u ∷ us) = ap suc (length-end_to_end (at + u.length) us)

length_units : (a n : ℕ) → length (units_in_lists (unit_lists (map numbered_holding (range_with_len a n)))) ≡ n
length_units a zero = refl
length_units a (suc n) = ap suc (length_units (a + 1) n)

pub one_unit_each : (n : ℕ) → length (units_of_all (map numbered_holding (range_with_len 0 n))) ≡ n
one_unit_each n = length-end_to_end 0 (units_in_lists (unit_lists (map numbered_holding (range_with_len 0 n)))) ∙ length_units 0 n

two_names_each : (first a n : ℕ) → length (published_from first (map numbered_holding (range_with_len a n))) ≡ 2 * n
two_names_each first a zero = omega arith
two_names_each first a (suc n) =
    let rest : length (published_from (first + 1) (map numbered_holding (range_with_len (a + 1) n))) ≡ 2 * n = two_names_each (first + 1) (a + 1) n in
    omega arith

pub published_are : (a n : ℕ) → published_from a (map numbered_holding (range_with_len a n)) ≡ flat_map numbered_pairs (range_with_len a n)
published_are a zero = refl
published_are a (suc n) =
    let own : List ℕ = numbered_name a in
    let rest : List Pair = published_from (a + 1) (map numbered_holding (range_with_len (a + 1) n)) in
    let here : a + 0 ≡ a = omega arith in
    ap (λ (i : ℕ). record { name = own; word = element_of i 48 } ∷ record { name = codes "common"; word = element_of i (common_flag a) } ∷ rest) here
    ∙ ap (λ (l : List Pair). record { name = own; word = element_of a 48 } ∷ record { name = codes "common"; word = element_of a (common_flag a) } ∷ l) (published_are (a + 1) n)

-- each has `common` once
pub common_each : (first a n : ℕ) → length (elements_in_order (codes "common") (published_from first (map numbered_holding (range_with_len a n)))) ≡ n
common_each first a zero = refl
common_each first a (suc n) = ap suc (common_each (first + 1) (a + 1) n)

IsShort : List ℕ → Type 0
IsShort name = length name ≤ 6

names_are_short : (first a n : ℕ) → All IsShort (map (λ p. p.name) (published_from first (map numbered_holding (range_with_len a n))))
unfolding IsShort
names_are_short first a zero = All-nil IsShort
names_are_short first a (suc n) =
    let rest : List (List ℕ) = map (λ p. p.name) (published_from (first + 1) (map numbered_holding (range_with_len (a + 1) n))) in
    let own : List ℕ = numbered_name a in
    let short : IsShort own = omega arith in
    let common_short : IsShort (codes "common") = omega arith in
    All-cons IsShort own (codes "common" ∷ rest) short (All-cons IsShort (codes "common") rest common_short (names_are_short (first + 1) (a + 1) n))

-- ---- the names, each once

All-firsts : (P : List ℕ → Type 0) (ns : List (List ℕ)) → All P ns → All P (firsts ns)
All-firsts P [] all = All-nil P
All-firsts P (n ∷ ns) all =
    All-cons P n (filter (λ m. not (bytes_eq m n)) (firsts ns)) (All-head P n ns all) (All-filter (λ m. not (bytes_eq m n)) P (firsts ns) (All-firsts P ns (All-tail P n ns all)))

filter_le : {X : Type 0} (p : X → Bool) (xs : List X) → length (filter p xs) ≤ length xs
filter_le p xs = omega (arith, length-filter p xs, count_by-le-length p xs)

firsts_le : (ns : List (List ℕ)) → length (firsts ns) ≤ length ns
firsts_le [] = omega arith
firsts_le (n ∷ ns) = omega (arith, firsts_le ns, filter_le (λ m. not (bytes_eq m n)) (firsts ns))

-- ---- the size

small_slots : (names slots : ℕ) → names ≤ 2000 → IsSlotCount names slots → slots ≤ 4096
small_slots zero slots few none = omega arith
small_slots (suc n) slots few least = least.least 12 (omega arith)

cond_le : (b : Bool) (m n k : ℕ) → m ≤ k → n ≤ k → cond b m n ≤ k
cond_le true m n k p q = p
cond_le false m n k p q = q

header_le : (version : ℕ) → header_len version ≤ 28
unfolding header_len
header_le version = cond_le (eqb version 8) 24 28 28 (omega arith) (omega arith)

shortcut_le : (version : ℕ) → shortcut_len version ≤ 8
unfolding shortcut_len
shortcut_le version = cond_le (eqb version 8) 0 8 8 (omega arith) (omega arith)

-- an index of few units and names is small
small_size : (version size : ℕ) (n : Counts) → n.units ≤ 1000 → n.placed ≤ 1000 → n.names ≤ 2000 → n.words ≤ 2000 → n.name_bytes ≤ 14000 → IsSize version n size → size < 2 ^ 32
small_size version size n units placed names words bytes is =
    let slots : is.slots ≤ 4096 = small_slots n.names is.slots names is.counted in
    let all : size_with version n is.slots ≤ 1000000 = omega (arith, header_le version, shortcut_le version) in
    let either : cond (eqb n.units 0) 0 (size_with version n is.slots) ≤ 1000000 = cond_le (eqb n.units 0) 0 (size_with version n is.slots) 1000000 (omega arith) all in
    let same : size ≡ cond (eqb n.units 0) 0 (size_with version n is.slots) = is.size_is in
    omega arith

-- the index of so many objects, of which so many placements count
pub some_small_size : (version n count : ℕ) → n ≤ 1000 → count ≤ 1000 → (size : ℕ) × IsSize version (counts_of (map numbered_holding (range_with_len 0 n)) count) size × (size < 2 ^ 32)
unfolding IsShort
some_small_size version n count few few_counted =
    let os : List Object = map numbered_holding (range_with_len 0 n) in
    let names : List (List ℕ) = map (λ p. p.name) (published os) in
    let total : length (published os) ≡ 2 * n = two_names_each 0 0 n in
    let all : length names ≡ 2 * n = length-map (published os) (λ p. p.name) ∙ total in
    let distinct : length (first_names (published os)) ≤ 2 * n = omega (arith, firsts_le names) in
    let short : All IsShort (first_names (published os)) = All-firsts IsShort names (names_are_short 0 0 n) in
    let bytes : sum_by (λ x. length x + 1) (first_names (published os)) ≤ length (first_names (published os)) * 7 = sum_by-le (λ x. length x + 1) 7 (first_names (published os)) (λ k d below. omega (arith, short k d below)) in
    let size = sizes_are_one_lem.some_size version (counts_of os count) in
    (size.0, size.1, small_size version size.0 (counts_of os count) (omega (arith, one_unit_each n)) few_counted (omega arith) (omega arith) (omega arith) size.1)

pub few_placed : (files : List (List ℕ)) (uss : List (List CuBoundary)) (n : ℕ) → length (placed files uss (demo_placements n)) ≤ n
few_placed files uss n = omega (arith, filter_le (λ p. counts_in (slice_get files p.object) (slice_get uss p.object) p) (demo_placements n), length-map-range_with_len numbered_placement 0 n)

-- An index passes its tests exactly where none of them fails.
use Rattle.std.proofs.Common.{◌≡◌, ◌≢◌, ℕ, Bool, true, false, ◌+◌, ◌-◌, ◌/◌, ◌%◌, ◌^◌, ◌<◌, cond, eqb, ltb, List, [], ◌∷◌, length, Option, Some, None, Result, Ok, Err, refl, sym, ap, ◌∙◌, arith, inl, inr}
use Rattle.std.specs.Prelude.{not, ◌&&◌, option_map, position, slice_get}
use Rattle.std.specs.List.{All, list_all, position_from}
use Rattle.std.specs.Option.{option_or}
use Rattle.std.proofs.lemmas.Bool.{eqb-true, eq-eqb, ltb-true, ltb-false, lt-ltb, le-ltb, and_from}
use Rattle.std.proofs.lemmas.List.Elements.{All-nil, All-cons, All-head, All-tail}
use Rattle.elf_format.specs.Bytes.{le, u32_at}
use Rattle.elf_format.proofs.SearchLemmas.{position_is_from}
use Rattle.gdb_index_format.specs.declared.bad_index.BadIndex.{BadIndex}
use Rattle.gdb_index_format.specs.declared.unit.CuBoundary.{CuBoundary}
use Rattle.gdb_index_format.specs.declared.placement.AddressEntry.{AddressEntry}
use Rattle.gdb_index_format.specs.Version.{header_len}
use Rattle.gdb_index_format.specs.Units.{index_units}
use Rattle.gdb_index_format.specs.Probe.{index_fault}
use Rattle.index_browser.specs.declared.error.BrowseError.{BrowseError}
use Rattle.index_browser.specs.declared.error.BrowseError.TheVariants.{Short, Format, TypeUnits, UnitArea, AddressArea, BadVector, Misplaced}
use Rattle.index_browser.specs.Areas.{index_addresses, unit_count}
use Rattle.index_browser.specs.Stored.{StoredSlot, stored, last_slot}
use Rattle.index_browser.specs.Fault.{first_found, short_fault, format_fault, types_fault, units_fault, area_fault, is_element, is_cu_vector, vector_fault, name_fault, slot_fault, stored_fault, misplaced_fault, order_fault, browse_fault}
use Rattle.index_browser.specs.Checked.{IsElement, IsWellStored, PassesTests, IsChecked}
use Rattle.index_browser.specs.Laws.{CheckedHasNoFault}
use Rattle.index_browser.specs.steps.Offsets.{HasFormat}
use Rattle.index_browser.proofs.Headers.{header_len-least}

-- ---- one test after another

both_none : {X : Type 0} (x y : Option X) → option_or x y ≡ None → (x ≡ None) × (y ≡ None)
both_none None y is = (refl, is)
both_none (Some x) y is = absurd cc

from_none : {X : Type 0} (x y : Option X) → x ≡ None → y ≡ None → option_or x y ≡ None
from_none x y p q = ap (λ o. option_or o y) p ∙ q

passes : (t : Bool) (e : BrowseError) → cond t None (Some e) ≡ None → t ≡ true
passes true e is = refl
passes false e is = absurd cc

holds : (t : Bool) (e : BrowseError) → t ≡ true → cond t None (Some e) ≡ None
holds t e is = ap (λ x. cond x None (Some e)) is

first_none : {X Y : Type 0} (f : X → Option Y) (xs : List X) → first_found f xs ≡ None → All (λ x. f x ≡ None) xs
first_none f [] is = All-nil (λ x. f x ≡ None)
first_none f (x ∷ xs) is =
    let (here, later) = both_none (f x) (first_found f xs) is in
    All-cons (λ x. f x ≡ None) x xs here (first_none f xs later)

none_first : {X Y : Type 0} (f : X → Option Y) (xs : List X) → All (λ x. f x ≡ None) xs → first_found f xs ≡ None
none_first f [] all = refl
none_first f (x ∷ xs) all = from_none (f x) (first_found f xs) (All-head (λ x. f x ≡ None) x xs all) (none_first f xs (All-tail (λ x. f x ≡ None) x xs all))

-- ---- the areas

not_met : (t : Bool) (s : ℕ) (r : Option ℕ) → cond t (Some s) r ≡ None → (t ≡ false) × (r ≡ None)
not_met true s r is = absurd cc
not_met false s r is = (refl, is)

abbrev HasUnit : ℕ → AddressEntry → Type 0
HasUnit units a = a.unit < units

abbrev lacks_unit : ℕ → AddressEntry → Bool
lacks_unit units a = not (ltb a.unit units)

turned : (t : Bool) → not t ≡ false → t ≡ true
turned true is = refl
turned false is = absurd cc

no_position : (units s : ℕ) (xs : List AddressEntry) → position_from (lacks_unit units) s xs ≡ None → All (HasUnit units) xs
no_position units s [] is = All-nil (HasUnit units)
no_position units s (x ∷ xs) is =
    let (here, later) = not_met (lacks_unit units x) s (position_from (lacks_unit units) (s + 1) xs) is in
    All-cons (HasUnit units) x xs (ltb-true _ _ (turned (ltb x.unit units) here)) (no_position units (s + 1) xs later)

all_have : (units s : ℕ) (xs : List AddressEntry) → All (HasUnit units) xs → position_from (lacks_unit units) s xs ≡ None
all_have units s [] all = refl
all_have units s (x ∷ xs) all =
    ap (λ t. cond (not t) (Some s) (position_from (lacks_unit units) (s + 1) xs)) (lt-ltb _ _ (All-head (HasUnit units) x xs all)) ∙ all_have units (s + 1) xs (All-tail (HasUnit units) x xs all)

mapped_none : {X : Type 0} (f : X → BrowseError) (o : Option X) → option_map f o ≡ None → o ≡ None
mapped_none f None is = refl
mapped_none f (Some x) is = absurd cc

area_none : (t : Bool) (o : Option ℕ) (e : BrowseError) → cond t (option_map (λ k. AddressArea k) o) (Some e) ≡ None → (t ≡ true) × (o ≡ None)
area_none true o e is = (refl, mapped_none (λ k. AddressArea k) o is)
area_none false o e is = absurd cc

-- ---- a slot

both : (x y : Bool) → (x && y) ≡ true → (x ≡ true) × (y ≡ true)
both true true is = (refl, refl)
both true false is = absurd cc
both false y is = absurd cc

elements_pass : (units : ℕ) (ws : List ℕ) → list_all (is_element units) ws ≡ true → All (IsElement units) ws
elements_pass units [] is = All-nil (IsElement units)
elements_pass units (w ∷ ws) is =
    let (here, later) = both (is_element units w) (list_all (is_element units) ws) is in
    let (reserved, unit) = both (eqb (w / 2 ^ 24 % 16) 0) (ltb (w % 2 ^ 24) units) here in
    All-cons (IsElement units) w ws (record { reserved = eqb-true _ _ reserved; unit = ltb-true _ _ unit }) (elements_pass units ws later)

elements_hold : (units : ℕ) (ws : List ℕ) → All (IsElement units) ws → list_all (is_element units) ws ≡ true
elements_hold units [] all = refl
elements_hold units (w ∷ ws) all =
    let here = All-head (IsElement units) w ws all in
    and_from (is_element units w) (list_all (is_element units) ws) (and_from (eqb (w / 2 ^ 24 % 16) 0) (ltb (w % 2 ^ 24) units) (eq-eqb _ _ here.reserved) (lt-ltb _ _ here.unit)) (elements_hold units ws (All-tail (IsElement units) w ws all))

some_element : (ws : List ℕ) → ltb 0 (length ws) ≡ true → ws ≢ []
some_element ws is none = let l : 0 < length ws = ltb-true 0 (length ws) is in omega (arith, l, ap length none)

has_element : (ws : List ℕ) → ws ≢ [] → ltb 0 (length ws) ≡ true
has_element [] some = absurd (some refl)
has_element (w ∷ ws) some = lt-ltb 0 (length (w ∷ ws)) (omega arith)

-- what a slot without a fault holds
record Holds (units : ℕ) (name : Option (List ℕ)) (vector : Result (Option (List ℕ)) BadIndex) : Type 0 where
  chars : List ℕ
  elements : List ℕ
  named : name ≡ Some chars
  read : vector ≡ Ok (Some elements)
  pass : is_cu_vector units elements ≡ true

holds_vector : (units slot : ℕ) (chars : List ℕ) (vector : Result (Option (List ℕ)) BadIndex) → vector_fault units slot vector ≡ None → Holds units (Some chars) vector
holds_vector units slot chars (Err fault) is = absurd cc
holds_vector units slot chars (Ok None) is = absurd cc
holds_vector units slot chars (Ok (Some elements)) is = record { chars = chars; elements = elements; named = refl; read = refl; pass = passes (is_cu_vector units elements) (BadVector slot) is }

holds_name : (units slot : ℕ) (vector : Result (Option (List ℕ)) BadIndex) (name : Option (List ℕ)) → name_fault units slot vector name ≡ None → Holds units name vector
holds_name units slot vector None is = absurd cc
holds_name units slot vector (Some chars) is = holds_vector units slot chars vector is

placed_there : (b : List ℕ) (slot : ℕ) (name : Option (List ℕ)) (chars : List ℕ) → name ≡ Some chars → misplaced_fault b slot name ≡ None → last_slot b chars ≡ slot
placed_there b slot name chars named is = eqb-true _ _ (passes (eqb (last_slot b chars) slot) (Misplaced slot) (sym (ap (misplaced_fault b slot) named) ∙ is))

abbrev is_placed : List ℕ → StoredSlot → Option BrowseError
is_placed b e = misplaced_fault b e.slot e.name

well_stored : (b : List ℕ) (e : StoredSlot) → slot_fault (unit_count b) e ≡ None → is_placed b e ≡ None → IsWellStored b e
well_stored b e sound placed =
    let h = holds_name (unit_count b) e.slot e.vector e.name sound in
    let (some, pass) = both (ltb 0 (length h.elements)) (list_all (is_element (unit_count b)) h.elements) h.pass in
    record {
      name = h.chars;
      elements = h.elements;
      named = h.named;
      vector = h.read;
      some = some_element h.elements some;
      well_formed = elements_pass (unit_count b) h.elements pass;
      found_here = placed_there b e.slot e.name h.chars h.named placed;
    }

stored_well : (b : List ℕ) (e : StoredSlot) → IsWellStored b e → slot_fault (unit_count b) e ≡ None
stored_well b e w =
    ap (name_fault (unit_count b) e.slot e.vector) w.named ∙ ap (vector_fault (unit_count b) e.slot) w.vector
    ∙ holds (is_cu_vector (unit_count b) w.elements) (BadVector e.slot) (and_from (ltb 0 (length w.elements)) (list_all (is_element (unit_count b)) w.elements) (has_element w.elements w.some) (elements_hold (unit_count b) w.elements w.well_formed))

placed_well : (b : List ℕ) (e : StoredSlot) → IsWellStored b e → is_placed b e ≡ None
placed_well b e w = ap (misplaced_fault b e.slot) w.named ∙ holds (eqb (last_slot b w.name) e.slot) (Misplaced e.slot) (eq-eqb _ _ w.found_here)

-- ---- all tests

abbrev chain : List ℕ → Option BrowseError
chain b = option_or (short_fault b) (option_or (format_fault b) (option_or (types_fault b) (option_or (units_fault b) (option_or (area_fault b) (option_or (stored_fault b) (order_fault b))))))

not_short : (t : Bool) (e : BrowseError) → cond t (Some e) None ≡ None → t ≡ false
not_short true e is = absurd cc
not_short false e is = refl

passes_all : (b : List ℕ) → chain b ≡ None → PassesTests b
unfolding short_fault format_fault types_fault units_fault area_fault stored_fault order_fault
passes_all b is =
    let (short, is1) = both_none (short_fault b) _ is in
    let (format, is2) = both_none (format_fault b) _ is1 in
    let (types, is3) = both_none (types_fault b) _ is2 in
    let (units, is4) = both_none (units_fault b) _ is3 in
    let (area, is5) = both_none (area_fault b) _ is4 in
    let (slots, places) = both_none (stored_fault b) (order_fault b) is5 in
    let (whole, none) = area_none (eqb ((u32_at b 16 - u32_at b 12) % 20) 0) (position (lacks_unit (unit_count b)) (index_addresses b)) (AddressArea ((u32_at b 16 - u32_at b 12) / 20)) area in
    let sound = first_none (slot_fault (unit_count b)) (stored b) slots in
    let found = first_none (is_placed b) (stored b) places in
    record {
      long = ltb-false _ _ (not_short (ltb (length b) (header_len (u32_at b 0))) Short short);
      format = mapped_none (λ fault. Format fault) (index_fault b) format;
      no_types = eqb-true _ _ (passes (eqb (u32_at b 8) (u32_at b 12)) TypeUnits types);
      whole_units = eqb-true _ _ (passes (eqb ((u32_at b 8 - u32_at b 4) % 16) 0) UnitArea units);
      whole_addresses = eqb-true _ _ whole;
      units_exist = no_position (unit_count b) 0 (index_addresses b) (sym (position_is_from (lacks_unit (unit_count b)) (index_addresses b)) ∙ none);
      slots = λ k d l. well_stored b _ (sound k d l) (found k d l);
    }

all_pass : (b : List ℕ) → PassesTests b → chain b ≡ None
unfolding short_fault format_fault types_fault units_fault area_fault stored_fault order_fault
all_pass b p =
    from_none (short_fault b) _ (ap (λ t. cond t (Some Short) None) (le-ltb _ _ p.long))
    (from_none (format_fault b) _ (ap (λ (o : Option BadIndex). option_map (λ fault. Format fault) o) p.format)
    (from_none (types_fault b) _ (holds (eqb (u32_at b 8) (u32_at b 12)) TypeUnits (eq-eqb _ _ p.no_types))
    (from_none (units_fault b) _ (holds (eqb ((u32_at b 8 - u32_at b 4) % 16) 0) UnitArea (eq-eqb _ _ p.whole_units))
    (from_none (area_fault b) _
    (ap (λ t. cond t (option_map (λ k. AddressArea k) (position (lacks_unit (unit_count b)) (index_addresses b))) (Some (AddressArea ((u32_at b 16 - u32_at b 12) / 20)))) (eq-eqb _ _ p.whole_addresses)
    ∙ ap (λ (o : Option ℕ). option_map (λ k. AddressArea k) o) (position_is_from (lacks_unit (unit_count b)) (index_addresses b) ∙ all_have (unit_count b) 0 (index_addresses b) p.units_exist))
    (from_none (stored_fault b) (order_fault b) (none_first (slot_fault (unit_count b)) (stored b) (λ k d l. stored_well b _ (p.slots k d l))) (none_first (is_placed b) (stored b) (λ k d l. placed_well b _ (p.slots k d l))))))))

chain_is : (b : List ℕ) → b ≢ [] → browse_fault b ≡ chain b
unfolding browse_fault
chain_is [] some = absurd (some refl)
chain_is (x ∷ xs) some = refl

no_bytes : (b : List ℕ) → b ≡ [] → browse_fault b ≡ None
unfolding browse_fault
no_bytes b none = ap browse_fault none

-- bytes that pass are not empty
has_bytes : (b : List ℕ) → PassesTests b → b ≢ []
has_bytes b p none = omega (arith, header_len-least (u32_at b 0), p.long, ap length none)

pub checked_has_no_fault_lem : CheckedHasNoFault
checked_has_no_fault_lem [] = (λ c. no_bytes [] refl, λ e. inl refl)
checked_has_no_fault_lem (x ∷ xs) = (
  λ c. elim c [
    | inl none ↦ no_bytes (x ∷ xs) none
    | inr p ↦ chain_is (x ∷ xs) (has_bytes (x ∷ xs) p) ∙ all_pass (x ∷ xs) p
  ],
  λ e. inr (passes_all (x ∷ xs) (sym (chain_is (x ∷ xs) (λ none. cc)) ∙ e)),
)

-- ---- the answer of the check

pub refused : (b : List ℕ) (fault : BrowseError) → Some fault ≡ browse_fault b → (false ≡ true → IsChecked b) × (IsChecked b → false ≡ true)
refused b fault is = (λ e. absurd cc, λ checked. let none : Some fault ≡ None = is ∙ (checked_has_no_fault_lem b).0 checked in absurd cc)

pub accepted : (b : List ℕ) → None ≡ browse_fault b → (true ≡ true → IsChecked b) × (IsChecked b → true ≡ true)
accepted b is = (λ e. (checked_has_no_fault_lem b).1 (sym is), λ checked. refl)

-- ---- the parts of an index that passed

pub tests_of : (b : List ℕ) → browse_fault b ≡ None → b ≢ [] → PassesTests b
tests_of b none some = elim ((checked_has_no_fault_lem b).1 none) [
  | inl empty ↦ absurd (some empty)
  | inr p ↦ p
]

pub format_of : (b : List ℕ) → browse_fault b ≡ None → b ≢ [] → HasFormat b
format_of b none some = let p = tests_of b none some in record { long = p.long; format = p.format }

pub no_units : (b : List ℕ) → b ≡ [] → index_units b ≡ []
unfolding index_units le header_len
no_units b none = ap index_units none

pub no_addresses : (b : List ℕ) → b ≡ [] → index_addresses b ≡ []
unfolding index_addresses le header_len
no_addresses b none = ap index_addresses none

pub some_bytes : (b : List ℕ) → false ≡ eqb (length b) 0 → b ≢ []
some_bytes b is none = let no : eqb (length b) 0 ≡ true = ap (λ xs. eqb (length xs) 0) none in absurd cc

pub units_of_none : (b : List ℕ) → b ≡ [] → 0 ≡ length (index_units b)
units_of_none b none = ap (λ (us : List CuBoundary). length us) (sym (no_units b none))

pub unit_of_none : (b : List ℕ) (k : ℕ) → b ≡ [] → None ≡ slice_get (index_units b) k
unit_of_none b k none = ap (λ (us : List CuBoundary). slice_get us k) (sym (no_units b none))

pub addresses_of_none : (b : List ℕ) → b ≡ [] → 0 ≡ length (index_addresses b)
addresses_of_none b none = ap (λ (xs : List AddressEntry). length xs) (sym (no_addresses b none))

pub address_of_none : (b : List ℕ) (k : ℕ) → b ≡ [] → None ≡ slice_get (index_addresses b) k
address_of_none b k none = ap (λ (xs : List AddressEntry). slice_get xs k) (sym (no_addresses b none))

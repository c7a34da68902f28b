-- Going over the numbers below a bound, from the front: what is left to go over decides.
use Rattle.std.proofs.Common.{◌≡◌, ℕ, suc, Bool, true, false, ◌+◌, ◌-◌, ◌*◌, ◌<◌, ◌≤◌, cond, List, [], ◌∷◌, length, drop, map, Option, Some, None, refl, sym, ap, ◌∙◌, arith}
use Rattle.std.specs.Prelude.{◌&&◌, not, nat_lt, position, slice_get}
use Rattle.std.specs.List.{range_with_len, position_from, list_all, filter_map, cons_option}
use Rattle.std.specs.Option.{option_or, option_and_then}
use Rattle.std.proofs.lemmas.List.{drop_more}
use Rattle.std.proofs.lemmas.Option.{slice_get_within, get_or_from_slice_get}
use Rattle.elf_format.proofs.SearchLemmas.{position_is_from}
use Rattle.gdb_index_format.specs.Probe.{slot_count}
use Rattle.gdb_index_format.specs.declared.placement.AddressEntry.{AddressEntry}
use Rattle.index_browser.specs.declared.areas.Areas.{Areas}
use Rattle.index_browser.specs.declared.error.BrowseError.{BrowseError}
use Rattle.index_browser.specs.Areas.{index_addresses}
use Rattle.index_browser.specs.Stored.{StoredSlot, stored_in}
use Rattle.index_browser.specs.Fault.{first_found, is_element}
use Rattle.index_browser.specs.steps.Offsets.{HasFormat, AreAreasOf, address_from}
use Rattle.index_browser.proofs.AreaLists.{address_number, addresses_are, address_count_is}

pub next_number : (s n : ℕ) → s < n → range_with_len s (n - s) ≡ s ∷ range_with_len (s + 1) (n - (s + 1))
next_number s n below = ap (range_with_len s) more where
  more : n - s ≡ suc (n - (s + 1))
  more = omega (arith, below)

pub no_number : (s n : ℕ) → n ≤ s → range_with_len s (n - s) ≡ []
no_number s n past = ap (range_with_len s) none where
  none : n - s ≡ 0
  none = omega (arith, past)

-- ---- the first number that passes a test

module _ {Y : Type 0} (p : Y → Bool) (g : ℕ → Y) (s n : ℕ) (x : Option ℕ) (left : position_from p s (map g (range_with_len s (n - s))) ≡ x) where
  next_position : s < n → cond (p (g s)) (Some s) (position_from p (s + 1) (map g (range_with_len (s + 1) (n - (s + 1))))) ≡ x
  next_position below = sym (ap (λ ks. position_from p s (map g ks)) (next_number s n below)) ∙ left

  pub position_kept : s < n → p (g s) ≡ false → position_from p (s + 1) (map g (range_with_len (s + 1) (n - (s + 1)))) ≡ x
  position_kept below fails = sym (ap (λ t. cond t (Some s) (position_from p (s + 1) (map g (range_with_len (s + 1) (n - (s + 1)))))) fails) ∙ next_position below

  pub position_found : s < n → p (g s) ≡ true → Some s ≡ x
  position_found below passes = sym (ap (λ t. cond t (Some s) (position_from p (s + 1) (map g (range_with_len (s + 1) (n - (s + 1)))))) passes) ∙ next_position below

  pub position_over : n ≤ s → None ≡ x
  position_over past = sym (ap (λ ks. position_from p s (map g ks)) (no_number s n past)) ∙ left

-- ---- whether all elements pass a test

at_rest : (p : ℕ → Bool) (ws : List ℕ) (k w : ℕ) → slice_get ws k ≡ Some w → list_all p (drop k ws) ≡ (p w && list_all p (drop (k + 1) ws))
at_rest p ws k w is =
    ap (list_all p) (drop_more ws k w (slice_get_within ws k w is)) ∙ ap (λ v. p v && list_all p (drop (k + 1) ws)) (get_or_from_slice_get ws k w w is)

-- over the elements of a CU vector, from one on
abbrev pub TestsElements : List ℕ → ℕ → ℕ → Type 0
TestsElements ws units k = list_all (is_element units) (drop k ws) ≡ list_all (is_element units) ws

module _ (ws : List ℕ) (units k w : ℕ) (left : TestsElements ws units k) (is : slice_get ws k ≡ Some w) where
  pub element_kept : is_element units w ≡ true → TestsElements ws units (k + 1)
  element_kept passes = sym (ap (λ t. t && list_all (is_element units) (drop (k + 1) ws)) passes) ∙ sym (at_rest (is_element units) ws k w is) ∙ left

  pub element_fails : is_element units w ≡ false → false ≡ list_all (is_element units) ws
  element_fails fails = sym (ap (λ t. t && list_all (is_element units) (drop (k + 1) ws)) fails) ∙ sym (at_rest (is_element units) ws k w is) ∙ left

-- ---- the first taken slot with a fault

module _ {X Y : Type 0} (f : X → Option Y) (h : ℕ → Option X) (s n : ℕ) (x : Option Y) (left : first_found f (filter_map h (range_with_len s (n - s))) ≡ x) where
  head_first : (o : Option X) (xs : List X) → first_found f (cons_option o xs) ≡ option_or (option_and_then f o) (first_found f xs)
  head_first None xs = refl
  head_first (Some y) xs = refl

  next_first : s < n → option_or (option_and_then f (h s)) (first_found f (filter_map h (range_with_len (s + 1) (n - (s + 1))))) ≡ x
  next_first below = sym (head_first (h s) (filter_map h (range_with_len (s + 1) (n - (s + 1))))) ∙ sym (ap (λ ks. first_found f (filter_map h ks)) (next_number s n below)) ∙ left

  pub first_kept : s < n → None ≡ option_and_then f (h s) → first_found f (filter_map h (range_with_len (s + 1) (n - (s + 1)))) ≡ x
  first_kept below none = ap (λ o. option_or o (first_found f (filter_map h (range_with_len (s + 1) (n - (s + 1)))))) none ∙ next_first below

  pub first_met : (y : Y) → s < n → Some y ≡ option_and_then f (h s) → Some y ≡ x
  first_met y below some = ap (λ o. option_or o (first_found f (filter_map h (range_with_len (s + 1) (n - (s + 1)))))) some ∙ next_first below

  pub first_over : n ≤ s → None ≡ x
  first_over past = sym (ap (λ ks. first_found f (filter_map h ks)) (no_number s n past)) ∙ left

or_nothing : {Y : Type 0} (o : Option Y) → option_or o None ≡ o
or_nothing None = refl
or_nothing (Some y) = refl

or_later : {Y : Type 0} (a b c : Option Y) → option_or (option_or a b) c ≡ option_or a (option_or b c)
or_later None b c = refl
or_later (Some y) b c = refl

-- what was found so far, and what the rest has
module _ {X Y : Type 0} (f : X → Option Y) (h : ℕ → Option X) (s n : ℕ) (x found : Option Y) (left : option_or found (first_found f (filter_map h (range_with_len s (n - s)))) ≡ x) where
  pub found_more : (more : Option Y) → s < n → more ≡ option_or found (option_and_then f (h s)) → option_or more (first_found f (filter_map h (range_with_len (s + 1) (n - (s + 1))))) ≡ x
  found_more more below is =
      ap (λ o. option_or o (first_found f (filter_map h (range_with_len (s + 1) (n - (s + 1)))))) is
      ∙ or_later found (option_and_then f (h s)) (first_found f (filter_map h (range_with_len (s + 1) (n - (s + 1)))))
      ∙ ap (option_or found) (next_first f h s n (first_found f (filter_map h (range_with_len s (n - s)))) refl below)
      ∙ left

  pub found_all : n ≤ s → found ≡ x
  found_all past = sym (or_nothing found) ∙ sym (ap (λ ks. option_or found (first_found f (filter_map h ks))) (no_number s n past)) ∙ left

-- ---- the walks of the code

abbrev pub without_unit : ℕ → AddressEntry → Bool
without_unit units a = not (nat_lt a.unit units)

-- over the address entries from one on
abbrev pub SearchesEntries : List ℕ → Areas → ℕ → ℕ → Type 0
SearchesEntries b p units s =
    position_from (without_unit units) s (map (λ k. address_from b (p.addresses + 20 * k)) (range_with_len s (length (index_addresses b) - s))) ≡ position (without_unit units) (index_addresses b)

-- over the slots
abbrev pub TestsSlots : List ℕ → (StoredSlot → Option BrowseError) → ℕ → Type 0
TestsSlots b f s = first_found f (filter_map (stored_in b) (range_with_len s (slot_count b - s))) ≡ first_found f (filter_map (stored_in b) (range_with_len 0 (slot_count b)))

whole : (n : ℕ) → n - 0 ≡ n
whole n = omega arith

pub entries_begin : (b : List ℕ) (p : Areas) (units : ℕ) → HasFormat b → AreAreasOf b p → SearchesEntries b p units 0
entries_begin b p units h parts =
    let t = without_unit units in
    ap (λ n. position_from t 0 (map (λ k. address_from b (p.addresses + 20 * k)) (range_with_len 0 n))) (whole (length (index_addresses b)) ∙ address_count_is b h)
    ∙ ap (λ a. position_from t 0 (map (λ k. address_from b (a + 20 * k)) (range_with_len 0 (address_number b)))) parts.addresses
    ∙ ap (λ (xs : List AddressEntry). position_from t 0 xs) (sym (addresses_are b h))
    ∙ sym (position_is_from t (index_addresses b))

pub slots_begin : (b : List ℕ) (f : StoredSlot → Option BrowseError) → TestsSlots b f 0
slots_begin b f = ap (λ n. first_found f (filter_map (stored_in b) (range_with_len 0 n))) (whole (slot_count b))

-- the first found so far, and over the slots from one on
abbrev pub FindsSlots : List ℕ → (StoredSlot → Option BrowseError) → Option BrowseError → ℕ → Type 0
FindsSlots b f found s = option_or found (first_found f (filter_map (stored_in b) (range_with_len s (slot_count b - s)))) ≡ first_found f (filter_map (stored_in b) (range_with_len 0 (slot_count b)))

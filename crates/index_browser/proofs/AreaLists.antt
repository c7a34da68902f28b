-- The entries of an area, as they are read one by one.
use Rattle.std.proofs.Common.{◌≡◌, ℕ, zero, suc, ◌+◌, ◌-◌, ◌*◌, ◌/◌, ◌<◌, ◌≤◌, Bool, true, false, cond, ltb, List, [], ◌∷◌, length, take, drop, map, Some, refl, sym, ap, subst, ◌∙◌, arith}
use Rattle.std.specs.Prelude.{not, ◌||◌, slice_get, slice_range}
use Rattle.std.specs.List.{range_with_len}
use Rattle.std.proofs.lemmas.Bool.{le-ltb}
use Rattle.std.proofs.lemmas.List.{drop-drop, length-take, length-drop}
use Rattle.std.proofs.lemmas.List.FromFn.{length-map-range_with_len, get_or-map-range_with_len}
use Rattle.std.proofs.lemmas.Option.{slice_get-get_or}
use Rattle.elf_format.specs.Bytes.{le, u32_at, u64_at, records, whole_records}
use Rattle.elf_format.proofs.NumberLemmas.{number_in_part}
use Rattle.gdb_index_format.specs.declared.unit.CuBoundary.{CuBoundary}
use Rattle.gdb_index_format.specs.declared.placement.AddressEntry.{AddressEntry}
use Rattle.gdb_index_format.specs.Version.{is_known, header_len}
use Rattle.gdb_index_format.specs.Units.{unit_in, index_units}
use Rattle.index_browser.specs.Areas.{address_in, index_addresses, unit_count}
use Rattle.index_browser.specs.steps.Offsets.{HasFormat, AreAreasOf, unit_from, address_from}
use Rattle.index_browser.specs.declared.areas.Areas.{Areas}
use Rattle.index_browser.proofs.Headers.{ordered}

-- ---- records, by the offsets at which they begin

further : (size a : ℕ) (bytes : List ℕ) → drop size (drop (size * a) bytes) ≡ drop (size * (a + 1)) bytes
further size a bytes = drop-drop size (size * a) bytes ∙ ap (λ n. drop n bytes) (omega arith)

records_from : {Y : Type 0} (f : List ℕ → Y) (g : ℕ → Y) (size n a : ℕ) (bytes : List ℕ) → ((k : ℕ) → a ≤ k → k < a + n → f (take size (drop (size * k) bytes)) ≡ g k) → map f (records size n (drop (size * a) bytes)) ≡ map g (range_with_len a n)
records_from f g size zero a bytes each = refl
records_from f g size (suc n) a bytes each =
    ap (λ x. x ∷ map f (records size n (drop size (drop (size * a) bytes)))) (each a (omega arith) (omega arith))
    ∙ ap (λ x. g a ∷ map f (records size n x)) (further size a bytes)
    ∙ ap (λ xs. g a ∷ xs) (records_from f g size n (a + 1) bytes (λ k low high. each k (omega (arith, low)) (omega (arith, high))))

records_are : {Y : Type 0} (f : List ℕ → Y) (g : ℕ → Y) (size n : ℕ) (bytes : List ℕ) → ((k : ℕ) → k < n → f (take size (drop (size * k) bytes)) ≡ g k) → map f (records size n bytes) ≡ map g (range_with_len 0 n)
records_are f g size n bytes each =
    ap (λ k. map f (records size n (drop k bytes))) start ∙ records_from f g size n 0 bytes (λ k low high. each k (omega (arith, high))) where
      start : 0 ≡ size * 0
      start = omega arith

-- a number in an entry of a part
number_in_entry : (b : List ℕ) (from len size k at width : ℕ) → at + width ≤ size → size * k + size ≤ len → le (take size (drop (size * k) (take len (drop from b)))) at width ≡ le b (from + size * k + at) width
number_in_entry b from len size k at width fits within =
    number_in_part (take len (drop from b)) (size * k) size at width fits
    ∙ number_in_part b from len (size * k + at) width (omega (arith, fits, within))
    ∙ ap (λ n. le b n width) (omega arith)

whole_entries : (n size k : ℕ) → 0 < size → k < n / size → size * k + size ≤ n
whole_entries n size k some below = grind (arith, some, below)

chosen : {Y : Type 0} (x y : Bool) (us : List Y) → x ≡ true → y ≡ false → cond (not x || y) [] us ≡ us
chosen true false us p q = refl
chosen true true us p q = absurd cc
chosen false y us p q = absurd cc

-- ---- units

abbrev pub unit_number : List ℕ → ℕ
unit_number b = (u32_at b 8 - u32_at b 4) / 16

sixteen : (n k : ℕ) → k < n / 16 → 16 * k + 16 ≤ n
sixteen n k below = omega (arith, below)

same_unit : (u v : CuBoundary) → u.offset ≡ v.offset → u.length ≡ v.length → u ≡ v
same_unit u v p q = grind arith

pub units_are : (b : List ℕ) → HasFormat b → index_units b ≡ map (λ k. unit_from b (u32_at b 4 + 16 * k)) (range_with_len 0 (unit_number b))
unfolding index_units
units_are b h =
    let o = ordered b h.format in
    let part = slice_range b (u32_at b 4) (u32_at b 8) in
    let len : length part ≡ u32_at b 8 - u32_at b 4 = omega (arith, length-take (u32_at b 8 - u32_at b 4) (drop (u32_at b 4) b), length-drop (u32_at b 4) b, o.first, o.second, o.third, o.fourth, o.fifth, o.ends) in
    chosen (is_known (u32_at b 0)) (ltb (length b) (header_len (u32_at b 0))) (map unit_in (whole_records 16 part)) o.known (le-ltb _ _ h.long)
    ∙ ap (λ n. map unit_in (records 16 (n / 16) part)) len
    ∙ records_are unit_in (λ k. unit_from b (u32_at b 4 + 16 * k)) 16 (unit_number b) part
    (λ k below. same_unit (unit_in (take 16 (drop (16 * k) part))) (unit_from b (u32_at b 4 + 16 * k))
    (number_in_entry b (u32_at b 4) (u32_at b 8 - u32_at b 4) 16 k 0 8 (omega arith) (sixteen _ k below) ∙ ap (u64_at b) (omega arith))
    (number_in_entry b (u32_at b 4) (u32_at b 8 - u32_at b 4) 16 k 8 8 (omega arith) (sixteen _ k below)))

pub unit_count_is : (b : List ℕ) → HasFormat b → unit_count b ≡ unit_number b
unit_count_is b h = ap (λ (us : List CuBoundary). length us) (units_are b h) ∙ length-map-range_with_len (λ k. unit_from b (u32_at b 4 + 16 * k)) 0 (unit_number b)

-- ---- address entries

abbrev pub address_number : List ℕ → ℕ
address_number b = (u32_at b 16 - u32_at b 12) / 20

twenty : (n k : ℕ) → k < n / 20 → 20 * k + 20 ≤ n
twenty n k below = omega (arith, below)

pub same_entry : (u v : AddressEntry) → u.low ≡ v.low → u.high ≡ v.high → u.unit ≡ v.unit → u ≡ v
same_entry u v p q r = grind arith

pub addresses_are : (b : List ℕ) → HasFormat b → index_addresses b ≡ map (λ k. address_from b (u32_at b 12 + 20 * k)) (range_with_len 0 (address_number b))
unfolding index_addresses
addresses_are b h =
    let o = ordered b h.format in
    let n = u32_at b 16 - u32_at b 12 in
    let part = slice_range b (u32_at b 12) (u32_at b 16) in
    let len : length part ≡ n = omega (arith, length-take n (drop (u32_at b 12) b), length-drop (u32_at b 12) b, o.first, o.second, o.third, o.fourth, o.fifth, o.ends) in
    chosen (is_known (u32_at b 0)) (ltb (length b) (header_len (u32_at b 0))) (map address_in (whole_records 20 part)) o.known (le-ltb _ _ h.long)
    ∙ ap (λ n. map address_in (records 20 (n / 20) part)) len
    ∙ records_are address_in (λ k. address_from b (u32_at b 12 + 20 * k)) 20 (address_number b) part
    (λ k below. same_entry (address_in (take 20 (drop (20 * k) part))) (address_from b (u32_at b 12 + 20 * k))
    (number_in_entry b (u32_at b 12) n 20 k 0 8 (omega arith) (twenty _ k below) ∙ ap (u64_at b) (omega arith))
    (number_in_entry b (u32_at b 12) n 20 k 8 8 (omega arith) (twenty _ k below))
    (number_in_entry b (u32_at b 12) n 20 k 16 4 (omega arith) (twenty _ k below)))

pub address_count_is : (b : List ℕ) → HasFormat b → length (index_addresses b) ≡ address_number b
address_count_is b h = ap (λ (xs : List AddressEntry). length xs) (addresses_are b h) ∙ length-map-range_with_len (λ k. address_from b (u32_at b 12 + 20 * k)) 0 (address_number b)

-- ---- one entry of such a list

pub entry_is : {Y : Type 0} (all : List Y) (g : ℕ → Y) (n k : ℕ) → all ≡ map g (range_with_len 0 n) → k < n → Some (g k) ≡ slice_get all k
entry_is all g n k is below =
    let l : k < length (map g (range_with_len 0 n)) = omega (arith, below, length-map-range_with_len g 0 n) in
    sym (ap (λ xs. slice_get xs k) is ∙ slice_get-get_or (map g (range_with_len 0 n)) k (g k) l ∙ ap (λ x. Some x) (get_or-map-range_with_len g 0 n k k (g k) below (omega arith)))

-- ---- the code's counts and offsets

pub units_counted : (b : List ℕ) (a : Areas) → HasFormat b → AreAreasOf b a → (a.types - a.units) / 16 ≡ unit_count b
units_counted b a h areas = ap (λ n. (n - a.units) / 16) areas.types ∙ ap (λ n. (u32_at b 8 - n) / 16) areas.units ∙ sym (unit_count_is b h)

pub addresses_counted : (b : List ℕ) (a : Areas) → HasFormat b → AreAreasOf b a → (a.end - a.addresses) / 20 ≡ length (index_addresses b)
addresses_counted b a h areas = ap (λ n. (n - a.addresses) / 20) areas.end ∙ ap (λ n. (u32_at b 16 - n) / 20) areas.addresses ∙ sym (address_count_is b h)

pub unit_within : (b : List ℕ) (a : Areas) (k : ℕ) → HasFormat b → AreAreasOf b a → k < unit_count b → a.units + 16 * k + 16 ≤ a.types
unit_within b a k h areas below = omega (arith, sixteen (a.types - a.units) k (subst (λ n. k < n) (sym (units_counted b a h areas)) below), areas.first)

pub address_within : (b : List ℕ) (a : Areas) (k : ℕ) → HasFormat b → AreAreasOf b a → k < length (index_addresses b) → a.addresses + 20 * k + 20 ≤ a.end
address_within b a k h areas below = omega (arith, twenty (a.end - a.addresses) k (subst (λ n. k < n) (sym (addresses_counted b a h areas)) below), areas.third)

pub unit_is : (b : List ℕ) (a : Areas) (k : ℕ) → HasFormat b → AreAreasOf b a → k < unit_count b → Some (unit_from b (a.units + 16 * k)) ≡ slice_get (index_units b) k
unit_is b a k h areas below =
    ap (λ n. Some (unit_from b (n + 16 * k))) areas.units
    ∙ entry_is (index_units b) (λ j. unit_from b (u32_at b 4 + 16 * j)) (unit_number b) k (units_are b h) (subst (λ n. k < n) (unit_count_is b h) below)

pub address_is : (b : List ℕ) (a : Areas) (k : ℕ) → HasFormat b → AreAreasOf b a → k < length (index_addresses b) → Some (address_from b (a.addresses + 20 * k)) ≡ slice_get (index_addresses b) k
address_is b a k h areas below =
    ap (λ n. Some (address_from b (n + 20 * k))) areas.addresses
    ∙ entry_is (index_addresses b) (λ j. address_from b (u32_at b 12 + 20 * j)) (address_number b) k (addresses_are b h) (subst (λ n. k < n) (address_count_is b h) below)

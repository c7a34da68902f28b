-- What stands where in an index that is laid out: the header's offsets, the units of its address entries, and what each slot
-- holds.
use Rattle.std.proofs.Common.{◌≡◌, ◌⊎◌, ℕ, zero, suc, ◌+◌, ◌*◌, ◌^◌, ◌<◌, ◌≤◌, true, cond, eqb, List, [], ◌∷◌, ◌++◌, length, take, get_or, Some, None, Ok, refl, sym, ap, subst, ◌∙◌, arith, inl, inr}
use Rattle.std.specs.Prelude.{replicate}
use Rattle.std.specs.List.{Contains, flat_map, sum_by}
use Rattle.std.specs.Int.{w32, w64, to_le_bytes, IsPowerOfTwo}
use Rattle.std.proofs.lemmas.Bool.{and_left, and_from, eq-eqb, ne_eqb}
use Rattle.std.proofs.lemmas.List.{length-append, append-nil, length-replicate, length-take-le}
use Rattle.std.proofs.lemmas.List.Sums.{sum_by-cons}
use Rattle.elf_format.specs.Bytes.{u32_at, string_at}
use Rattle.gdb_index_format.specs.declared.placement.AddressEntry.{AddressEntry}
use Rattle.gdb_index_format.specs.Hash.{name_hash}
use Rattle.gdb_index_format.specs.Named.{Named}
use Rattle.gdb_index_format.specs.Version.{is_known, header_len, shortcut_fields, shortcut_len}
use Rattle.gdb_index_format.specs.Slots.{IsSlotCount}
use Rattle.gdb_index_format.specs.Probe.{table_at, pool_at, slot_count, vector_at}
use Rattle.gdb_index.specs.Scan.{Scan, IsWellFormedScan}
use Rattle.gdb_index.specs.Table.{Slot, free_slot, table_bytes}
use Rattle.gdb_index.specs.Pool.{vectors_len, vector_offset, name_offset}
use Rattle.gdb_index.specs.Layout.{u32s_bytes, unit_bytes, address_bytes, vector_bytes, name_bytes, addresses_offset, hash_table_offset, shortcuts_offset, pool_offset, header_numbers, IsLayoutOf}
use Rattle.gdb_index.proofs.Standing.{StandsAt, StandsAt-left, StandsAt-right, StandsAt-within, StandsAt-item, u32_at-words, u32_at-stands, vector_at-stands, string_at-stands}
use Rattle.gdb_index.proofs.SlotLists.{length-table, slot_stands}
use Rattle.gdb_index.proofs.Filling.{slots_fit, name_offset-pos, slot_below}
use Rattle.gdb_index.proofs.Lengths.{length-u32s, length-units, length-addresses, length-vectors, length-names, sum_of_vectors, sum_of_names}
use Rattle.gdb_index.proofs.Versions.{known_is_small, pool_field_is, fifth_offset, count_of_header, length-header, last_offset}
use Rattle.gdb_index.proofs.Sounding.{IsHeader, pool_is, is_sound}
use Rattle.index_browser.specs.declared.slots.Taken.{Taken}
use Rattle.index_browser.specs.steps.Offsets.{HasFormat}
use Rattle.index_browser.specs.steps.Taken.{taken_in}

-- ---- the parts

pub record Parts (v : ℕ) (b : List ℕ) (s : Scan) (xs : List AddressEntry) (slots : ℕ) (table : List Slot) : Type 0 where
  pub head : StandsAt b 0 (u32s_bytes (header_numbers v (length s.units) (length xs) slots))
  pub entries : StandsAt b (addresses_offset v (length s.units)) (flat_map address_bytes xs)
  pub slots_stand : StandsAt b (hash_table_offset v (length s.units) (length xs)) (table_bytes table)
  pub vectors : StandsAt b (pool_offset v (length s.units) (length xs) slots) (flat_map vector_bytes s.names)
  pub names : StandsAt b (pool_offset v (length s.units) (length xs) slots + vectors_len s.names) (flat_map name_bytes s.names)

pub parts_of : (v : ℕ) (b : List ℕ) (s : Scan) (xs : List AddressEntry) (i : IsLayoutOf v s xs b) → Parts v b s xs i.slots i.table
parts_of v b s xs i =
    let h = u32s_bytes (header_numbers v (length s.units) (length xs) i.slots) in
    let u = flat_map unit_bytes s.units in
    let a = flat_map address_bytes xs in
    let t = table_bytes i.table in
    let z : List ℕ = replicate (shortcut_len v) 0 in
    let w = flat_map vector_bytes s.names in
    let n = flat_map name_bytes s.names in
    let r : List ℕ = replicate i.saved 0 in
    let lh : length h ≡ header_len v = length-header v (length s.units) (length xs) i.slots in
    let lu = length-units s.units in
    let la = length-addresses xs in
    let lv = length-vectors s.names in
    let whole : StandsAt b 0 (h ++ u ++ a ++ t ++ z ++ w ++ n ++ r) = record { front = []; back = []; offset = refl; parts = i.bytes_are ∙ sym (append-nil _) } in
    let s7 : StandsAt b 0 (h ++ u ++ a ++ t ++ z ++ w ++ n) = StandsAt-left b 0 (h ++ u ++ a ++ t ++ z ++ w ++ n) r whole in
    let s6 : StandsAt b 0 (h ++ u ++ a ++ t ++ z ++ w) = StandsAt-left b 0 (h ++ u ++ a ++ t ++ z ++ w) n s7 in
    let s5 : StandsAt b 0 (h ++ u ++ a ++ t ++ z) = StandsAt-left b 0 (h ++ u ++ a ++ t ++ z) w s6 in
    let s4 : StandsAt b 0 (h ++ u ++ a ++ t) = StandsAt-left b 0 (h ++ u ++ a ++ t) z s5 in
    let s3 : StandsAt b 0 (h ++ u ++ a) = StandsAt-left b 0 (h ++ u ++ a) t s4 in
    let s2 : StandsAt b 0 (h ++ u) = StandsAt-left b 0 (h ++ u) a s3 in
    let l2 = length-append h u in
    let l3 = length-append (h ++ u) a in
    let l4 = length-append (h ++ u ++ a) t in
    let l5 = length-append (h ++ u ++ a ++ t) z in
    let l6 = length-append (h ++ u ++ a ++ t ++ z) w in
    let lt : length t ≡ 8 * i.slots = length-table i.table ∙ ap (λ k. 8 * k) i.filled.len in
    let lz = length-replicate {A = ℕ} (shortcut_len v) 0 in
    record {
      head = StandsAt-left b 0 h u s2;
      entries = subst (λ k. StandsAt b k a) (omega (arith, lh, lu, l2)) (StandsAt-right b 0 (h ++ u) a s3);
      slots_stand = subst (λ k. StandsAt b k t) (omega (arith, lh, lu, la, l2, l3)) (StandsAt-right b 0 (h ++ u ++ a) t s4);
      vectors = subst (λ k. StandsAt b k w) (omega (arith, lh, lu, la, lt, lz, l2, l3, l4, l5)) (StandsAt-right b 0 (h ++ u ++ a ++ t ++ z) w s6);
      names = subst (λ k. StandsAt b k n) (omega (arith, lh, lu, la, lt, lz, lv, l2, l3, l4, l5, l6)) (StandsAt-right b 0 (h ++ u ++ a ++ t ++ z ++ w) n s7);
    }

-- ---- the header

header_word : (v : ℕ) (b : List ℕ) (s : Scan) (xs : List AddressEntry) (slots : ℕ) (table : List Slot) (p : Parts v b s xs slots table) (k n : ℕ) → k < length (header_numbers v (length s.units) (length xs) slots) → get_or (header_numbers v (length s.units) (length xs) slots) k 0 ≡ n → n < 2 ^ 32 → u32_at b (0 + 4 * k) ≡ n
header_word v b s xs slots table p k n l is fits =
    u32_at-words b 0 (header_numbers v (length s.units) (length xs) slots) k 0 l (omega (arith, is, fits)) p.head ∙ is

abbrev pub Header : ℕ → List ℕ → Scan → List AddressEntry → ℕ → Type 0
Header v b s xs slots = IsHeader v b (header_len v) (addresses_offset v (length s.units)) (addresses_offset v (length s.units)) (hash_table_offset v (length s.units) (length xs)) (shortcuts_offset v (length s.units) (length xs) slots) (pool_offset v (length s.units) (length xs) slots)

pub header_is : (v : ℕ) (b : List ℕ) (s : Scan) (xs : List AddressEntry) (slots : ℕ) (table : List Slot) → is_known v ≡ true → length b < 2 ^ 32 → Parts v b s xs slots table → Header v b s xs slots
header_is v b s xs slots table known small p =
    let pool = pool_offset v (length s.units) (length xs) slots in
    let shortcuts = shortcuts_offset v (length s.units) (length xs) slots in
    let ends : pool ≤ length b = omega (arith, StandsAt-within b pool (flat_map vector_bytes s.names) p.vectors) in
    let six : 6 ≤ length (header_numbers v (length s.units) (length xs) slots) = omega (arith, count_of_header v (length s.units) (length xs) slots) in
    let last : u32_at b (0 + 4 * (5 + length (shortcut_fields v shortcuts))) ≡ pool =
    header_word v b s xs slots table p (5 + length (shortcut_fields v shortcuts)) pool (omega (arith, count_of_header v (length s.units) (length xs) slots)) (last_offset v (length s.units) (length xs) slots) (omega (arith, ends, small)) in
    record {
      version = header_word v b s xs slots table p 0 v (omega (arith, six)) refl (known_is_small v known);
      known = known;
      o1 = header_word v b s xs slots table p 1 (header_len v) (omega (arith, six)) refl (omega (arith, ends, small));
      o2 = header_word v b s xs slots table p 2 (addresses_offset v (length s.units)) (omega (arith, six)) refl (omega (arith, ends, small));
      o3 = header_word v b s xs slots table p 3 (addresses_offset v (length s.units)) (omega (arith, six)) refl (omega (arith, ends, small));
      o4 = header_word v b s xs slots table p 4 (hash_table_offset v (length s.units) (length xs)) (omega (arith, six)) refl (omega (arith, ends, small));
      o5 = header_word v b s xs slots table p 5 shortcuts (omega (arith, six)) (fifth_offset v shortcuts pool refl) (omega (arith, ends, small));
      o6 = ap (u32_at b) (omega (arith, pool_field_is v shortcuts)) ∙ last;
      begins = omega arith;
      first = omega arith;
      second = omega arith;
      third = omega arith;
      fourth = omega arith;
      fifth = omega arith;
      ends = ends;
    }

power_or_none : (n slots : ℕ) → IsSlotCount n slots → (slots ≡ 0) ⊎ IsPowerOfTwo slots
power_or_none zero slots c = inl c
power_or_none (suc n) slots c = inr c.power_of_two

-- ---- what is read

-- the offsets that a slot has for name k
abbrev pub taken_for : List ℕ → List Named → ℕ → Taken
taken_for b ns k = record { name = pool_at b + name_offset ns k; vector = pool_at b + vector_offset ns k }

-- the header's offsets, the address entries' units, and what the slots hold
pub record Laid (b : List ℕ) (s : Scan) (xs : List AddressEntry) (used : List ℕ) : Type 0 where
  pub format : HasFormat b
  pub types : u32_at b 8 ≡ u32_at b 12
  pub units : u32_at b 8 ≡ u32_at b 4 + 16 * length s.units
  pub area : u32_at b 16 ≡ u32_at b 12 + 20 * length xs
  pub entries : (k : ℕ) (d : AddressEntry) → k < length xs → (get_or xs k d).unit < 2 ^ 32 → u32_at b (u32_at b 12 + 20 * k + 16) ≡ (get_or xs k d).unit
  pub count : length used ≡ length s.names
  pub below : (k : ℕ) → k < length s.names → get_or used k 0 < slot_count b
  pub holds : (k : ℕ) → k < length s.names → taken_in b (get_or used k 0) ≡ Some (taken_for b s.names k)
  pub free : (t : ℕ) → t < slot_count b → (Contains used t → ⊥) → taken_in b t ≡ None
  pub names : (k : ℕ) (d : Named) → k < length s.names → string_at b (pool_at b + name_offset s.names k) ≡ Some (get_or s.names k d).name
  pub vectors : (k : ℕ) (d : Named) → k < length s.names → vector_at b (pool_at b + vector_offset s.names k) ≡ Ok (Some (get_or s.names k d).words)

pub sum_entries : (xs : List AddressEntry) → sum_by (λ a. length (address_bytes a)) xs ≡ 20 * length xs
sum_entries [] = refl
sum_entries (x ∷ xs) = omega (arith, sum_by-cons (λ (a : AddressEntry). length (address_bytes a)) x xs, sum_entries xs)

entry_unit : (b : List ℕ) (at : ℕ) (xs : List AddressEntry) (k : ℕ) (d : AddressEntry) → k < length xs → (get_or xs k d).unit < 2 ^ 32 → StandsAt b at (flat_map address_bytes xs) → u32_at b (at + 20 * k + 16) ≡ (get_or xs k d).unit
entry_unit b at xs k d l fits stands =
    let x = get_or xs k d in
    let item : StandsAt b (at + sum_by (λ a. length (address_bytes a)) (take k xs)) (address_bytes x) = StandsAt-item address_bytes b at xs k d l stands in
    let unit = StandsAt-right b (at + sum_by (λ a. length (address_bytes a)) (take k xs)) (to_le_bytes w64 x.low ++ to_le_bytes w64 x.high) (to_le_bytes w32 x.unit) item in
    ap (u32_at b) (omega (arith, sum_entries (take k xs), length-take-le k xs (omega (arith, l)))) ∙ u32_at-stands b _ x.unit fits unit

slot_free : (b : List ℕ) (s : ℕ) → u32_at b (table_at b + 8 * s) ≡ 0 → u32_at b (table_at b + 8 * s + 4) ≡ 0 → taken_in b s ≡ None
unfolding taken_in
slot_free b s first second =
    ap (λ t. cond t None (Some (record { name = pool_at b + u32_at b (table_at b + 8 * s); vector = pool_at b + u32_at b (table_at b + 8 * s + 4) })))
    (and_from (eqb (u32_at b (table_at b + 8 * s)) 0) (eqb (u32_at b (table_at b + 8 * s + 4)) 0) (eq-eqb _ _ first) (eq-eqb _ _ second))

slot_taken : (b : List ℕ) (s x y : ℕ) → 0 < x → u32_at b (table_at b + 8 * s) ≡ x → u32_at b (table_at b + 8 * s + 4) ≡ y → taken_in b s ≡ Some (record { name = pool_at b + x; vector = pool_at b + y })
unfolding taken_in
slot_taken b s x y some first second =
    ap (λ t. cond t None (Some (record { name = pool_at b + u32_at b (table_at b + 8 * s); vector = pool_at b + u32_at b (table_at b + 8 * s + 4) })))
    (and_left (eqb (u32_at b (table_at b + 8 * s)) 0) (eqb (u32_at b (table_at b + 8 * s + 4)) 0) (ne_eqb _ _ (λ e. omega (arith, some, first))))
    ∙ ap (λ n. Some (record { name = pool_at b + n; vector = pool_at b + u32_at b (table_at b + 8 * s + 4) })) first
    ∙ ap (λ n. Some (record { name = pool_at b + x; vector = pool_at b + n })) second

vector_within : (b : List ℕ) (at : ℕ) (ns : List Named) (k : ℕ) (d : Named) → k < length ns → StandsAt b at (flat_map vector_bytes ns) → length (get_or ns k d).words < length b
vector_within b at ns k d l s = omega (arith, StandsAt-within b _ (vector_bytes (get_or ns k d)) (StandsAt-item vector_bytes b at ns k d l s), length-u32s (length (get_or ns k d).words ∷ (get_or ns k d).words))

pub laid : (v : ℕ) (b : List ℕ) (s : Scan) (xs : List AddressEntry) → is_known v ≡ true → length b < 2 ^ 32 → IsWellFormedScan s → (i : IsLayoutOf v s xs b) → Laid b s xs i.filled.used_slots
unfolding table_at slot_count
laid v b s xs known small good i =
    let ns = s.names in
    let p = parts_of v b s xs i in
    let h = header_is v b s xs i.slots i.table known small p in
    let pool = pool_offset v (length s.units) (length xs) i.slots in
    let at = hash_table_offset v (length s.units) (length xs) in
    let pool_at_is : pool_at b ≡ pool = pool_is v b _ _ _ _ _ pool h in
    let counted : slot_count b ≡ i.slots = omega (arith, h.o4, h.o5) in
    let fit = slots_fit i.table i.slots ns i.filled (omega (arith, small, StandsAt-within b (pool + vectors_len ns) (flat_map name_bytes ns) p.names, length-names ns)) in
    let read : (t : ℕ) → t < i.slots → (u32_at b (table_at b + 8 * t) ≡ (get_or i.table t free_slot).name) × (u32_at b (table_at b + 8 * t + 4) ≡ (get_or i.table t free_slot).vector) =
    λ t l.
    let within : t < length i.table = omega (arith, l, i.filled.len) in
    let held = slot_stands b at i.table t free_slot within (fit t free_slot within) p.slots_stand in
    (ap (λ n. u32_at b (n + 8 * t)) h.o4 ∙ held.0, ap (λ n. u32_at b (n + 8 * t + 4)) h.o4 ∙ held.1) in
    let used : (k : ℕ) → k < length ns → get_or i.filled.used_slots k 0 < i.slots =
    λ k l.
    let d : Named = record { name = []; words = [] } in
    let q = i.filled.placed k d l in
    subst (λ x. x < i.slots) q.is (slot_below i.slots (name_hash (get_or ns k d).name) q.step (omega (arith, q.below))) in
    record {
      format = record {
        long = omega (arith, ap header_len h.version, h.begins, h.first, h.second, h.third, h.fourth, h.fifth, h.ends);
        format = is_sound v b (header_len v) (addresses_offset v (length s.units)) (addresses_offset v (length s.units)) at (shortcuts_offset v (length s.units) (length xs) i.slots) pool i.slots h refl (power_or_none (length ns) i.slots i.counted);
      };
      types = h.o2 ∙ sym h.o3;
      units = omega (arith, h.o1, h.o2);
      area = omega (arith, h.o3, h.o4);
      entries = λ k d l fits. ap (λ n. u32_at b (n + 20 * k + 16)) h.o3 ∙ entry_unit b (addresses_offset v (length s.units)) xs k d l fits p.entries;
      count = i.filled.count;
      below = λ k l. omega (arith, counted, used k l);
      holds = λ k l.
          let d : Named = record { name = []; words = [] } in
          let t = get_or i.filled.used_slots k 0 in
          let r = read t (used k l) in
          let stands = i.filled.stands k l in
          slot_taken b t (name_offset ns k) (vector_offset ns k) (name_offset-pos ns k d l) (r.0 ∙ ap (λ (x : Slot). x.name) stands) (r.1 ∙ ap (λ (x : Slot). x.vector) stands);
      free = λ t l lacks.
          let r = read t (omega (arith, l, counted)) in
          let none = i.filled.free t (omega (arith, l, counted)) lacks in
          slot_free b t (r.0 ∙ ap (λ (x : Slot). x.name) none) (r.1 ∙ ap (λ (x : Slot). x.vector) none);
      names = λ k d l.
          ap (string_at b) (ap (λ n. n + name_offset ns k) pool_at_is ∙ omega (arith, sum_of_names (take k ns)))
          ∙ string_at-stands b (pool + vectors_len ns + sum_by (λ n. length (name_bytes n)) (take k ns)) (get_or ns k d).name (good.names k d l).named.no_zero (StandsAt-item name_bytes b _ ns k d l p.names);
      vectors = λ k d l.
          ap (vector_at b) (ap (λ n. n + vector_offset ns k) pool_at_is ∙ omega (arith, sum_of_vectors (take k ns)))
          ∙ vector_at-stands b (pool + sum_by (λ n. length (vector_bytes n)) (take k ns)) (get_or ns k d).words
          (omega (arith, small, vector_within b pool ns k d l p.vectors)) (good.names k d l).fit (StandsAt-item vector_bytes b _ ns k d l p.vectors);
    }

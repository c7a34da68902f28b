-- An index that is spelled part by part lists its units, and the probe answers for its names.
use Rattle.std.proofs.Common.{◌≡◌, ◌⊎◌, ℕ, zero, suc, ◌+◌, ◌*◌, ◌^◌, ◌<◌, ◌≤◌, true, List, [], ◌∷◌, ◌++◌, length, take, get_or, None, Ok, refl, sym, ap, subst, ◌∙◌, arith, inl, inr}
use Rattle.std.specs.Prelude.{replicate}
use Rattle.std.specs.List.{flat_map, sum_by}
use Rattle.std.specs.Int.{IsPowerOfTwo}
use Rattle.std.proofs.lemmas.Bool.{cases_lt}
use Rattle.std.proofs.lemmas.List.{length-append, append-nil, length-replicate}
use Rattle.elf_format.specs.Bytes.{u32_at, string_at}
use Rattle.gdb_index_format.specs.declared.placement.AddressEntry.{AddressEntry}
use Rattle.gdb_index_format.specs.Named.{Named}
use Rattle.gdb_index_format.specs.Version.{is_known, header_len, shortcut_fields, shortcut_len}
use Rattle.gdb_index_format.specs.Units.{index_units}
use Rattle.gdb_index_format.specs.Slots.{IsSlotCount}
use Rattle.gdb_index_format.specs.Probe.{Probed, probe_from, index_fault, table_at, pool_at, slot_count, step_at, probe, vector_at}
use Rattle.gdb_index.specs.Scan.{Scan, IsWellFormedScan}
use Rattle.gdb_index.specs.Table.{Slot, free_slot, table_bytes}
use Rattle.gdb_index.specs.Pool.{vectors_len, names_len, vector_offset, name_offset}
use Rattle.gdb_index.specs.Filled.{IsFilled}
use Rattle.gdb_index.specs.Layout.{u32s_bytes, unit_bytes, address_bytes, vector_bytes, name_bytes, AreUnits, addresses_offset, hash_table_offset, shortcuts_offset, pool_offset, header_numbers, IsLayoutOf}
use Rattle.gdb_index.specs.Answers.{AnswersFor}
use Rattle.gdb_index.proofs.Standing.{StandsAt, StandsAt-left, StandsAt-right, StandsAt-within, StandsAt-item, u32_at-words, vector_at-stands, string_at-stands}
use Rattle.gdb_index.proofs.SlotLists.{length-table, slot_stands}
use Rattle.gdb_index.proofs.Filling.{slots_fit}
use Rattle.gdb_index.proofs.Lengths.{length-u32s, length-units, length-addresses, length-vectors, length-names, sum_of_vectors, sum_of_names}
use Rattle.gdb_index.proofs.Versions.{known_is_small, pool_field_is, fifth_offset, count_of_header, length-header, last_offset}
use Rattle.gdb_index.proofs.UnitsRead.{index_units_are}
use Rattle.gdb_index.proofs.Sounding.{IsHeader, pool_is, is_sound}
use Rattle.gdb_index.proofs.Holding.{HoldsNames, FindsNothing, Answered}
use Rattle.gdb_index.proofs.Finding.{answers_for, probe_is}
use Rattle.gdb_index.proofs.Answering.{answers_every}

-- ---- where the parts stand

record Parts (v : ℕ) (b : List ℕ) (s : Scan) (addresses : List AddressEntry) (slots : ℕ) (table : List Slot) : Type 0 where
  head : StandsAt b 0 (u32s_bytes (header_numbers v (length s.units) (length addresses) slots))
  units : StandsAt b (header_len v) (flat_map unit_bytes s.units)
  slots_stand : StandsAt b (hash_table_offset v (length s.units) (length addresses)) (table_bytes table)
  vectors : StandsAt b (pool_offset v (length s.units) (length addresses) slots) (flat_map vector_bytes s.names)
  names : StandsAt b (pool_offset v (length s.units) (length addresses) slots + vectors_len s.names) (flat_map name_bytes s.names)

parts_of : (v : ℕ) (b : List ℕ) (s : Scan) (xs : List AddressEntry) (i : IsLayoutOf v s xs b) → Parts v b s xs i.slots i.table
parts_of v b s xs i =
    let h = u32s_bytes (header_numbers v (length s.units) (length xs) i.slots) in
    let u = flat_map unit_bytes s.units in
    let a = flat_map address_bytes xs in
    let t = table_bytes i.table in
    let z : List ℕ = replicate (shortcut_len v) 0 in
    let w = flat_map vector_bytes s.names in
    let n = flat_map name_bytes s.names in
    let r : List ℕ = replicate i.saved 0 in
    let lh : length h ≡ header_len v = length-header v (length s.units) (length xs) i.slots in
    let lu = length-units s.units in
    let la = length-addresses xs in
    let lv = length-vectors s.names in
    let whole : StandsAt b 0 (h ++ u ++ a ++ t ++ z ++ w ++ n ++ r) = record { front = []; back = []; offset = refl; parts = i.bytes_are ∙ sym (append-nil _) } in
    let s7 : StandsAt b 0 (h ++ u ++ a ++ t ++ z ++ w ++ n) = StandsAt-left b 0 (h ++ u ++ a ++ t ++ z ++ w ++ n) r whole in
    let s6 : StandsAt b 0 (h ++ u ++ a ++ t ++ z ++ w) = StandsAt-left b 0 (h ++ u ++ a ++ t ++ z ++ w) n s7 in
    let s5 : StandsAt b 0 (h ++ u ++ a ++ t ++ z) = StandsAt-left b 0 (h ++ u ++ a ++ t ++ z) w s6 in
    let s4 : StandsAt b 0 (h ++ u ++ a ++ t) = StandsAt-left b 0 (h ++ u ++ a ++ t) z s5 in
    let s3 : StandsAt b 0 (h ++ u ++ a) = StandsAt-left b 0 (h ++ u ++ a) t s4 in
    let s2 : StandsAt b 0 (h ++ u) = StandsAt-left b 0 (h ++ u) a s3 in
    let l2 = length-append h u in
    let l3 = length-append (h ++ u) a in
    let l4 = length-append (h ++ u ++ a) t in
    let l5 = length-append (h ++ u ++ a ++ t) z in
    let l6 = length-append (h ++ u ++ a ++ t ++ z) w in
    let lt : length t ≡ 8 * i.slots = length-table i.table ∙ ap (λ k. 8 * k) i.filled.len in
    let lz = length-replicate {A = ℕ} (shortcut_len v) 0 in
    record {
      head = StandsAt-left b 0 h u s2;
      units = subst (λ k. StandsAt b k u) (omega (arith, lh)) (StandsAt-right b 0 h u s2);
      slots_stand = subst (λ k. StandsAt b k t) (omega (arith, lh, lu, la, l2, l3)) (StandsAt-right b 0 (h ++ u ++ a) t s4);
      vectors = subst (λ k. StandsAt b k w) (omega (arith, lh, lu, la, lt, lz, l2, l3, l4, l5)) (StandsAt-right b 0 (h ++ u ++ a ++ t ++ z) w s6);
      names = subst (λ k. StandsAt b k n) (omega (arith, lh, lu, la, lt, lz, lv, l2, l3, l4, l5, l6)) (StandsAt-right b 0 (h ++ u ++ a ++ t ++ z ++ w) n s7);
    }

-- ---- what is read of them

header_word : (v : ℕ) (b : List ℕ) (s : Scan) (xs : List AddressEntry) (slots : ℕ) (table : List Slot) (p : Parts v b s xs slots table) (k n : ℕ) → k < length (header_numbers v (length s.units) (length xs) slots) → get_or (header_numbers v (length s.units) (length xs) slots) k 0 ≡ n → n < 2 ^ 32 → u32_at b (0 + 4 * k) ≡ n
header_word v b s xs slots table p k n l is fits =
    u32_at-words b 0 (header_numbers v (length s.units) (length xs) slots) k 0 l (omega (arith, is, fits)) p.head ∙ is

abbrev Header : ℕ → List ℕ → Scan → List AddressEntry → ℕ → Type 0
Header v b s xs slots = IsHeader v b (header_len v) (addresses_offset v (length s.units)) (addresses_offset v (length s.units)) (hash_table_offset v (length s.units) (length xs)) (shortcuts_offset v (length s.units) (length xs) slots) (pool_offset v (length s.units) (length xs) slots)

header_is : (v : ℕ) (b : List ℕ) (s : Scan) (xs : List AddressEntry) (slots : ℕ) (table : List Slot) → is_known v ≡ true → length b < 2 ^ 32 → Parts v b s xs slots table → Header v b s xs slots
header_is v b s xs slots table known small p =
    let pool = pool_offset v (length s.units) (length xs) slots in
    let shortcuts = shortcuts_offset v (length s.units) (length xs) slots in
    let ends : pool ≤ length b = omega (arith, StandsAt-within b pool (flat_map vector_bytes s.names) p.vectors) in
    let six : 6 ≤ length (header_numbers v (length s.units) (length xs) slots) = omega (arith, count_of_header v (length s.units) (length xs) slots) in
    let last : u32_at b (0 + 4 * (5 + length (shortcut_fields v shortcuts))) ≡ pool =
    header_word v b s xs slots table p (5 + length (shortcut_fields v shortcuts)) pool (omega (arith, count_of_header v (length s.units) (length xs) slots)) (last_offset v (length s.units) (length xs) slots) (omega (arith, ends, small)) in
    record {
      version = header_word v b s xs slots table p 0 v (omega (arith, six)) refl (known_is_small v known);
      known = known;
      o1 = header_word v b s xs slots table p 1 (header_len v) (omega (arith, six)) refl (omega (arith, ends, small));
      o2 = header_word v b s xs slots table p 2 (addresses_offset v (length s.units)) (omega (arith, six)) refl (omega (arith, ends, small));
      o3 = header_word v b s xs slots table p 3 (addresses_offset v (length s.units)) (omega (arith, six)) refl (omega (arith, ends, small));
      o4 = header_word v b s xs slots table p 4 (hash_table_offset v (length s.units) (length xs)) (omega (arith, six)) refl (omega (arith, ends, small));
      o5 = header_word v b s xs slots table p 5 shortcuts (omega (arith, six)) (fifth_offset v shortcuts pool refl) (omega (arith, ends, small));
      o6 = ap (u32_at b) (omega (arith, pool_field_is v shortcuts)) ∙ last;
      begins = omega arith;
      first = omega arith;
      second = omega arith;
      third = omega arith;
      fourth = omega arith;
      fifth = omega arith;
      ends = ends;
    }

power_of_count : (n slots : ℕ) → IsSlotCount n slots → 0 < n → IsPowerOfTwo slots
power_of_count zero slots c some = absurd (omega arith)
power_of_count (suc n) slots c some = c.power_of_two

room_of_count : (n slots : ℕ) → IsSlotCount n slots → 0 < n → n < slots
room_of_count zero slots c some = absurd (omega arith)
room_of_count (suc n) slots c some = omega (arith, c.not_below)

power_or_none : (n slots : ℕ) → IsSlotCount n slots → (slots ≡ 0) ⊎ IsPowerOfTwo slots
power_or_none zero slots c = inl c
power_or_none (suc n) slots c = inr c.power_of_two

count_of_none : (n slots : ℕ) → IsSlotCount n slots → n ≡ 0 → slots ≡ 0
count_of_none zero slots c e = c
count_of_none (suc n) slots c e = absurd (omega arith)

-- an index is well formed, and its table has its slots
record Reads (v : ℕ) (b : List ℕ) (s : Scan) (xs : List AddressEntry) (slots : ℕ) : Type 0 where
  is : Header v b s xs slots
  long : header_len (u32_at b 0) ≤ length b
  sound : index_fault b ≡ None
  count : slot_count b ≡ slots

reads : (v : ℕ) (b : List ℕ) (s : Scan) (xs : List AddressEntry) → is_known v ≡ true → length b < 2 ^ 32 → (i : IsLayoutOf v s xs b) → Reads v b s xs i.slots
unfolding slot_count
reads v b s xs known small i =
    let h = header_is v b s xs i.slots i.table known small (parts_of v b s xs i) in
    record {
      is = h;
      long = omega (arith, ap header_len h.version, h.begins, h.first, h.second, h.third, h.fourth, h.fifth, h.ends);
      sound = is_sound v b (header_len v) (addresses_offset v (length s.units)) (addresses_offset v (length s.units)) (hash_table_offset v (length s.units) (length xs)) (shortcuts_offset v (length s.units) (length xs) i.slots) (pool_offset v (length s.units) (length xs) i.slots) i.slots h refl (power_or_none (length s.names) i.slots i.counted);
      count = omega (arith, h.o4, h.o5);
    }

vector_within : (b : List ℕ) (at : ℕ) (ns : List Named) (k : ℕ) (d : Named) → k < length ns → StandsAt b at (flat_map vector_bytes ns) → length (get_or ns k d).words < length b
vector_within b at ns k d l s = omega (arith, StandsAt-within b _ (vector_bytes (get_or ns k d)) (StandsAt-item vector_bytes b at ns k d l s), length-u32s (length (get_or ns k d).words ∷ (get_or ns k d).words))

holds_names : (v : ℕ) (b : List ℕ) (s : Scan) (xs : List AddressEntry) → is_known v ≡ true → length b < 2 ^ 32 → IsWellFormedScan s → 0 < length s.names → (i : IsLayoutOf v s xs b) → HoldsNames b s.names
unfolding table_at
holds_names v b s xs known small good some i =
    let ns = s.names in
    let p = parts_of v b s xs i in
    let r = reads v b s xs known small i in
    let pool = pool_offset v (length s.units) (length xs) i.slots in
    let pool_at_is : pool_at b ≡ pool = pool_is v b _ _ _ _ _ pool r.is in
    let table_is : table_at b ≡ hash_table_offset v (length s.units) (length xs) = r.is.o4 in
    let pool_end : pool + vectors_len ns + names_len ns ≤ length b = omega (arith, length-names_within b (pool + vectors_len ns) ns p.names) in
    let fit = slots_fit i.table i.slots ns i.filled (omega (arith, pool_end)) in
    record {
      header = r.long;
      sound = r.sound;
      power_of_two = subst IsPowerOfTwo (sym r.count) (power_of_count (length ns) i.slots i.counted some);
      room = omega (arith, r.count, room_of_count (length ns) i.slots i.counted some);
      table = i.table;
      filled = subst (λ m. IsFilled i.table m ns) (sym r.count) i.filled;
      slots = λ k l.
          let within : k < length i.table = omega (arith, l, r.count, i.filled.len) in
          let read = slot_stands b (hash_table_offset v (length s.units) (length xs)) i.table k free_slot within (fit k free_slot within) p.slots_stand in
          record { name = ap (λ n. u32_at b (n + 8 * k)) table_is ∙ read.0; vector = ap (λ n. u32_at b (n + 8 * k + 4)) table_is ∙ read.1 };
      names = λ k d l.
          ap (string_at b) (ap (λ n. n + name_offset ns k) pool_at_is ∙ omega (arith, sum_of_names (take k ns)))
          ∙ string_at-stands b (pool + vectors_len ns + sum_by (λ n. length (name_bytes n)) (take k ns)) (get_or ns k d).name (good.names k d l).named.no_zero (StandsAt-item name_bytes b _ ns k d l p.names);
      vectors = λ k d l.
          ap (vector_at b) (ap (λ n. n + vector_offset ns k) pool_at_is ∙ omega (arith, sum_of_vectors (take k ns)))
          ∙ vector_at-stands b (pool + sum_by (λ n. length (vector_bytes n)) (take k ns)) (get_or ns k d).words
          (omega (arith, small, vector_within b pool ns k d l p.vectors)) (good.names k d l).fit (StandsAt-item vector_bytes b _ ns k d l p.vectors);
    } where
      length-names_within : (b : List ℕ) (at : ℕ) (ns : List Named) → StandsAt b at (flat_map name_bytes ns) → at + names_len ns ≤ length b
      length-names_within b at ns stands = omega (arith, StandsAt-within b at (flat_map name_bytes ns) stands, length-names ns)

-- with no names there are no slots, and a probe ends at once
no_slots : (b name : List ℕ) → header_len (u32_at b 0) ≤ length b → index_fault b ≡ None → slot_count b ≡ 0 → probe b name ≡ record { answer = Ok None; steps = 0 }
unfolding probe_from
no_slots b name long sound none = probe_is b name long sound ∙ ap (λ n. probe_from (step_at b name) n 0) none

nothing_in_none : (b name : List ℕ) (ns : List Named) → probe b name ≡ record { answer = Ok None; steps = 0 } → FindsNothing b ns name
nothing_in_none b name ns all = record { answer = ap (λ (x : Probed). x.answer) all; steps = subst (λ n. n ≤ length ns + 1) (sym (ap (λ (x : Probed). x.steps) all)) (omega arith) }

ends_at_once : (v : ℕ) (b : List ℕ) (s : Scan) (xs : List AddressEntry) → is_known v ≡ true → length b < 2 ^ 32 → IsLayoutOf v s xs b → length s.names ≡ 0 → (name : List ℕ) → probe b name ≡ record { answer = Ok None; steps = 0 }
ends_at_once v b s xs known small i none name =
    let r = reads v b s xs known small i in
    no_slots b name r.long r.sound (r.count ∙ count_of_none (length s.names) i.slots i.counted none)

pub answered : (v : ℕ) (b : List ℕ) (s : Scan) (xs : List AddressEntry) → is_known v ≡ true → length b < 2 ^ 32 → IsWellFormedScan s → IsLayoutOf v s xs b → Answered b s.names
answered v b s xs known small good i =
    elim (cases_lt 0 (length s.names)) [
      | inl some ↦ answers_for b s.names (holds_names v b s xs known small good some i) good.distinct
      | inr none ↦ record {
        found = λ k d l. absurd (omega (arith, l, none));
        absent = λ name others. nothing_in_none b name s.names (ends_at_once v b s xs known small i (omega (arith, none)) name);
      }
    ]

pub answers : (v : ℕ) (b : List ℕ) (s : Scan) (xs : List AddressEntry) → is_known v ≡ true → length b < 2 ^ 32 → IsWellFormedScan s → IsLayoutOf v s xs b → AnswersFor b s.names
answers v b s xs known small good i =
    answers_every b s.names (answered v b s xs known small good i) (λ none name. ap (λ (x : Probed). x.steps) (ends_at_once v b s xs known small i (ap length none) name))

pub lists_units : (v : ℕ) (b : List ℕ) (s : Scan) (xs : List AddressEntry) → is_known v ≡ true → length b < 2 ^ 32 → AreUnits s.units → IsLayoutOf v s xs b → index_units b ≡ s.units
lists_units v b s xs known small units i =
    let r = reads v b s xs known small i in
    index_units_are b (header_len v) s.units (ap is_known r.is.version ∙ known) r.long r.is.o1 r.is.o2 units (parts_of v b s xs i).units

-- The laws over the definitions.
use Rattle.std.proofs.Common.{◌≡◌, ℕ, zero, suc, ◌+◌, ◌-◌, ◌*◌, ◌%◌, ◌<◌, ◌≤◌, List, [], ◌∷◌, ◌++◌, length, take, get_or, map, refl, sym, ap, subst, ◌∙◌, arith, inl, inr}
use Rattle.std.specs.Prelude.{replicate}
use Rattle.std.specs.List.{fold, flat_map, Contains}
use Rattle.std.specs.Char.{to_ascii_lowercase}
use Rattle.std.proofs.lemmas.Bool.{cases_lt}
use Rattle.std.proofs.lemmas.List.{length-append, length-replicate, same_lists, take_more, take_all, get_or_default}
use Rattle.gdb_index_format.specs.declared.placement.AddressEntry.{AddressEntry}
use Rattle.gdb_index_format.specs.Hash.{hash_step, name_hash}
use Rattle.gdb_index_format.specs.Slots.{slot_of}
use Rattle.gdb_index_format.specs.Named.{Named}
use Rattle.gdb_index_format.specs.Version.{shortcut_len}
use Rattle.gdb_index_format.proofs.Sizing.{one_slot_count}
use Rattle.gdb_index.specs.Laws.{HashIgnoresCase, SlotsExceedNames, IndexesAreOne}
use Rattle.gdb_index.specs.Scan.{Scan}
use Rattle.gdb_index.specs.Table.{Slot, free_slot, table_bytes}
use Rattle.gdb_index.specs.Filled.{IsFirstUnused, IsFilledTo, IsFilled, slot_for}
use Rattle.gdb_index.specs.Layout.{u32s_bytes, header_numbers, unit_bytes, address_bytes, vector_bytes, name_bytes}
use Rattle.gdb_index.proofs.Filling.{contains_or_lacks}

-- ---- the hash

same_step : (h c d : ℕ) → to_ascii_lowercase c ≡ to_ascii_lowercase d → hash_step h c ≡ hash_step h d
same_step h c d e = ap (λ x. (h * 67 + x + 4294967296 - 113) % 4294967296) e

head_is : (c d : ℕ) (x y : List ℕ) → c ∷ x ≡ d ∷ y → c ≡ d
head_is c d x y e = cc

tail_is : (c d : ℕ) (x y : List ℕ) → c ∷ x ≡ d ∷ y → x ≡ y
tail_is c d x y e = cc

same_fold : (m n : List ℕ) (h : ℕ) → map to_ascii_lowercase m ≡ map to_ascii_lowercase n → fold hash_step h m ≡ fold hash_step h n
same_fold [] [] h e = refl
same_fold [] (d ∷ n) h e = absurd cc
same_fold (c ∷ m) [] h e = absurd cc
same_fold (c ∷ m) (d ∷ n) h e =
    same_fold m n (hash_step h c) (tail_is (to_ascii_lowercase c) (to_ascii_lowercase d) (map to_ascii_lowercase m) (map to_ascii_lowercase n) e)
    ∙ ap (λ k. fold hash_step k n) (same_step h c d (head_is (to_ascii_lowercase c) (to_ascii_lowercase d) (map to_ascii_lowercase m) (map to_ascii_lowercase n) e))

pub hash_ignores_case_lem : HashIgnoresCase
hash_ignores_case_lem m n e = same_fold m n 0 e

-- ---- the slots

pub slots_exceed_names_lem : SlotsExceedNames
slots_exceed_names_lem zero slots some counted = absurd (omega arith)
slots_exceed_names_lem (suc n) slots some counted = (counted.power_of_two, omega (arith, counted.not_below))

-- ---- one table

-- the first unused slot of a probe is one
one_unused : (slots : ℕ) (used : List ℕ) (hash s t : ℕ) → IsFirstUnused slots used hash s → IsFirstUnused slots used hash t → s ≡ t
one_unused slots used hash s t p q =
    elim (cases_lt p.step q.step) [
      | inl before ↦ absurd (p.unused (subst (λ x. Contains used x) p.is (q.others p.step before)))
      | inr not_before ↦ elim (cases_lt q.step p.step) [
        | inl after ↦ absurd (q.unused (subst (λ x. Contains used x) q.is (p.others q.step after)))
        | inr not_after ↦
            let same : p.step ≡ q.step = omega (arith, not_before, not_after) in
            sym p.is ∙ ap (slot_of slots hash) same ∙ q.is
      ]
    ]

same_used_to : (ts us : List Slot) (slots : ℕ) (ns : List Named) (n : ℕ) (p : IsFilledTo ts slots ns n) (q : IsFilledTo us slots ns n) (k : ℕ) → k ≤ n → take k p.used_slots ≡ take k q.used_slots
same_used_to ts us slots ns n p q zero l = refl
same_used_to ts us slots ns n p q (suc k) l =
    let d : Named = record { name = []; words = [] } in
    let before : take k p.used_slots ≡ take k q.used_slots = same_used_to ts us slots ns n p q k (omega (arith, l)) in
    let here : get_or p.used_slots k 0 ≡ get_or q.used_slots k 0 =
    one_unused slots (take k q.used_slots) (name_hash (get_or ns k d).name) (get_or p.used_slots k 0) (get_or q.used_slots k 0) (subst (λ used. IsFirstUnused slots used (name_hash (get_or ns k d).name) (get_or p.used_slots k 0)) before (p.placed k d (omega (arith, l)))) (q.placed k d (omega (arith, l))) in
    ap (λ i. take i p.used_slots) (next k)
    ∙ take_more p.used_slots k 0 (omega (arith, l, p.count))
    ∙ ap (λ x. x ++ get_or p.used_slots k 0 ∷ []) before
    ∙ ap (λ x. take k q.used_slots ++ x ∷ []) here
    ∙ sym (take_more q.used_slots k 0 (omega (arith, l, q.count)))
    ∙ ap (λ i. take i q.used_slots) (sym (next k)) where
      next : (k : ℕ) → suc k ≡ k + 1
      next k = omega arith

same_used : (ts us : List Slot) (slots : ℕ) (ns : List Named) (n : ℕ) (p : IsFilledTo ts slots ns n) (q : IsFilledTo us slots ns n) → p.used_slots ≡ q.used_slots
same_used ts us slots ns n p q =
    sym (take_all n p.used_slots (omega (arith, p.count))) ∙ same_used_to ts us slots ns n p q n (omega arith) ∙ take_all n q.used_slots (omega (arith, q.count))

same_slot : (ts us : List Slot) (slots : ℕ) (ns : List Named) (n : ℕ) (p : IsFilledTo ts slots ns n) (q : IsFilledTo us slots ns n) (s : ℕ) → s < slots → get_or ts s free_slot ≡ get_or us s free_slot
same_slot ts us slots ns n p q s l =
    let used_slots = same_used ts us slots ns n p q in
    elim (contains_or_lacks p.used_slots s) [
      | inl has ↦
          let at : get_or p.used_slots has.0 0 ≡ s = get_or_default p.used_slots has.0 0 s has.1 ∙ has.2 in
          let here : get_or ts s free_slot ≡ slot_for ns has.0 = ap (λ x. get_or ts x free_slot) (sym at) ∙ p.stands has.0 (omega (arith, p.count, has.1)) in
          let there : get_or us s free_slot ≡ slot_for ns has.0 = ap (λ x. get_or us x free_slot) (sym at ∙ ap (λ (xs : List ℕ). get_or xs has.0 0) used_slots) ∙ q.stands has.0 (omega (arith, p.count, has.1)) in
          here ∙ sym there
      | inr lacks ↦ p.free s l lacks ∙ sym (q.free s l (λ h. lacks (subst (λ xs. Contains xs s) (sym used_slots) h)))
    ]

one_table : (ts us : List Slot) (slots : ℕ) (ns : List Named) → IsFilled ts slots ns → IsFilled us slots ns → ts ≡ us
one_table ts us slots ns p q =
    same_lists ts us (p.len ∙ sym q.len)
    (λ k d l. get_or_default ts k d free_slot l ∙ same_slot ts us slots ns (length ns) p q k (omega (arith, l, p.len)) ∙ get_or_default us k free_slot d (omega (arith, l, p.len, q.len)))

-- ---- one index

abbrev front : ℕ → Scan → List AddressEntry → ℕ → List Slot → List ℕ
front version s xs slots table =
    u32s_bytes (header_numbers version (length s.units) (length xs) slots) ++ flat_map unit_bytes s.units ++ flat_map address_bytes xs ++ table_bytes table ++ replicate (shortcut_len version) 0 ++ flat_map vector_bytes s.names ++ flat_map name_bytes s.names

same_rest : (x y : List ℕ) (m n : ℕ) → x ≡ y → length (x ++ replicate m 0) ≡ length (y ++ replicate n 0) → x ++ replicate m 0 ≡ y ++ replicate n 0
same_rest x y m n same len =
    let count : m ≡ n = omega (arith, len, length-append x (replicate m 0), length-append y (replicate n 0), length-replicate {A = ℕ} m 0, length-replicate {A = ℕ} n 0, ap length same) in
    ap (λ t. t ++ replicate m 0) same ∙ ap (λ k. y ++ replicate k 0) count

pub indexes_are_one_lem : IndexesAreOne
indexes_are_one_lem version s xs b c p q len =
    let slots : p.slots ≡ q.slots = one_slot_count (length s.names) p.slots q.slots p.counted q.counted in
    let table : p.table ≡ q.table = one_table p.table q.table q.slots s.names (subst (λ m. IsFilled p.table m s.names) slots p.filled) q.filled in
    let same : front version s xs p.slots p.table ≡ front version s xs q.slots q.table = ap (λ m. front version s xs m p.table) slots ∙ ap (λ t. front version s xs q.slots t) table in
    p.bytes_are ∙ same_rest (front version s xs p.slots p.table) (front version s xs q.slots q.table) p.saved q.saved same (ap length (sym p.bytes_are) ∙ len ∙ ap length q.bytes_are) ∙ sym q.bytes_are

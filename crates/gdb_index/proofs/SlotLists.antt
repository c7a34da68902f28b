-- A table of slots, as a list and as its bytes.
use Rattle.std.proofs.Common.{◌≡◌, ℕ, zero, suc, ◌+◌, ◌-◌, ◌*◌, ◌^◌, ◌<◌, ◌≤◌, List, [], ◌∷◌, ◌++◌, length, take, drop, get_or, set, refl, sym, ap, subst, ◌∙◌, arith, append_assoc}
use Rattle.std.specs.Prelude.{replicate}
use Rattle.std.specs.List.{All, sum_by}
use Rattle.std.specs.Int.{w32, to_le_bytes}
use Rattle.std.proofs.lemmas.List.{length-append, length-take-le, append-nil, take_at, drop_at, drop-drop, set_split, set-get_or, replicate-append-replicate}
use Rattle.std.proofs.lemmas.List.Sums.{sum_by-cons}
use Rattle.std.proofs.lemmas.Grind.{flat_map-append}
use Rattle.std.proofs.lemmas.Slice.{take-put_mid, drop-put_mid}
use borrow.Rule.Slice.PartMut.{put_mid}
use Rattle.elf_format.specs.Bytes.{u32_at}
use Rattle.gdb_index.specs.Table.{Slot, free_slot, slot_bytes, table_bytes}
use Rattle.gdb_index.specs.steps.FreeSlots.{zero_table, with_slot, IsFree}
use Rattle.gdb_index.proofs.Standing.{StandsAt, StandsAt-item, StandsAt-left, StandsAt-right, u32_at-stands}

-- a slot whose numbers fit their fields
abbrev pub SlotFits : Slot → Type 0
SlotFits s = (s.name < 2 ^ 32) × (s.vector < 2 ^ 32)

pub length-table : (slots : List Slot) → length (table_bytes slots) ≡ 8 * length slots
length-table [] = refl
length-table (s ∷ slots) = omega (arith, length-append (slot_bytes s) (table_bytes slots), length-table slots)

-- a table with one slot set, in three parts
set_parts : (slots : List Slot) (s : ℕ) (x : Slot) → s < length slots → table_bytes (set slots s x) ≡ table_bytes (take s slots) ++ (slot_bytes x ++ table_bytes (drop (suc s) slots))
set_parts slots s x l = ap table_bytes (set_split slots s x l) ∙ flat_map-append slot_bytes (take s slots) (x ∷ drop (suc s) slots)

pub with_slot-table : (slots : List Slot) (s : ℕ) (x : Slot) → s < length slots → with_slot (table_bytes slots) s x ≡ table_bytes (set slots s x)
with_slot-table slots s x l =
    let front = table_bytes (take s slots) in
    let here = slot_bytes (get_or slots s free_slot) in
    let back = table_bytes (drop (suc s) slots) in
    let parts : table_bytes slots ≡ front ++ (here ++ back) = ap table_bytes (sym (set-get_or slots s free_slot)) ∙ set_parts slots s (get_or slots s free_slot) l in
    let len : length front ≡ 8 * s = length-table (take s slots) ∙ ap (λ n. 8 * n) (length-take-le s slots (omega (arith, l))) in
    let before : take (8 * s) (table_bytes slots) ≡ front = ap (take (8 * s)) parts ∙ take_at front (here ++ back) (8 * s) len in
    let after : drop (8 * s + 8) (table_bytes slots) ≡ back =
    ap (drop (8 * s + 8)) (parts ∙ sym (append_assoc front here back)) ∙ drop_at (front ++ here) back (8 * s + 8) (omega (arith, length-append front here, len)) in
    ap (λ t. t ++ slot_bytes x ++ drop (8 * s + 8) (table_bytes slots)) before
    ∙ ap (λ t. front ++ slot_bytes x ++ t) after
    ∙ append_assoc front (slot_bytes x) back
    ∙ sym (set_parts slots s x l)

sum_of_eights : (slots : List Slot) → sum_by (λ s. length (slot_bytes s)) slots ≡ 8 * length slots
sum_of_eights [] = refl
sum_of_eights (s ∷ slots) = omega (arith, sum_by-cons (λ (x : Slot). length (slot_bytes x)) s slots, sum_of_eights slots)

-- the numbers of a slot of a table that stands at an offset
pub slot_stands : (b : List ℕ) (at : ℕ) (slots : List Slot) (s : ℕ) (d : Slot) → s < length slots → SlotFits (get_or slots s d) → StandsAt b at (table_bytes slots) → (u32_at b (at + 8 * s) ≡ (get_or slots s d).name) × (u32_at b (at + 8 * s + 4) ≡ (get_or slots s d).vector)
slot_stands b at slots s d l fits stands =
    let slot = get_or slots s d in
    let item : StandsAt b (at + 8 * s) (slot_bytes slot) =
    subst (λ n. StandsAt b n (slot_bytes slot)) (omega (arith, sum_of_eights (take s slots), length-take-le s slots (omega (arith, l)))) (StandsAt-item slot_bytes b at slots s d l stands) in (
      u32_at-stands b (at + 8 * s) slot.name fits.0 (StandsAt-left b (at + 8 * s) (to_le_bytes w32 slot.name) (to_le_bytes w32 slot.vector) item),
      u32_at-stands b (at + 8 * s + 4) slot.vector fits.1 (StandsAt-right b (at + 8 * s) (to_le_bytes w32 slot.name) (to_le_bytes w32 slot.vector) item),
    )

slot_read : (slots : List Slot) (s : ℕ) (d : Slot) → s < length slots → SlotFits (get_or slots s d) → (u32_at (table_bytes slots) (8 * s) ≡ (get_or slots s d).name) × (u32_at (table_bytes slots) (8 * s + 4) ≡ (get_or slots s d).vector)
slot_read slots s d l fits =
    let whole : StandsAt (table_bytes slots) 0 (table_bytes slots) = record { front = []; back = []; offset = refl; parts = sym (append-nil (table_bytes slots)) } in
    let read = slot_stands (table_bytes slots) 0 slots s d l fits whole in
    (ap (u32_at (table_bytes slots)) (plain (8 * s)) ∙ read.0, ap (λ n. u32_at (table_bytes slots) (n + 4)) (plain (8 * s)) ∙ read.1) where
      plain : (n : ℕ) → n ≡ 0 + n
      plain n = omega arith

pub free_in_bytes : (slots : List Slot) (s : ℕ) → s < length slots → All SlotFits slots → get_or slots s free_slot ≡ free_slot → IsFree (table_bytes slots) s
free_in_bytes slots s l fit free =
    let read = slot_read slots s free_slot l (fit s free_slot l) in
    (read.0 ∙ ap (λ (x : Slot). x.name) free, read.1 ∙ ap (λ (x : Slot). x.vector) free)

pub taken_in_bytes : (slots : List Slot) (s : ℕ) (x : Slot) → s < length slots → All SlotFits slots → get_or slots s free_slot ≡ x → 0 < x.name → IsFree (table_bytes slots) s → ⊥
taken_in_bytes slots s x l fit is some free =
    omega (arith, some, (slot_read slots s free_slot l (fit s free_slot l)).0, free.0, ap (λ (y : Slot). y.name) is)

-- a slot that two tables share is free in both
pub free_in_both : (slots others : List Slot) (s : ℕ) → s < length slots → s < length others → All SlotFits slots → All SlotFits others → get_or slots s free_slot ≡ get_or others s free_slot → IsFree (table_bytes slots) s → IsFree (table_bytes others) s
free_in_both slots others s l m fit fits same free =
    let read = slot_read slots s free_slot l (fit s free_slot l) in
    let also = slot_read others s free_slot m (fits s free_slot m) in
    (also.0 ∙ sym (ap (λ (x : Slot). x.name) same) ∙ sym read.0 ∙ free.0, also.1 ∙ sym (ap (λ (x : Slot). x.vector) same) ∙ sym read.1 ∙ free.1)

pub zeros-table : (slots : ℕ) → zero_table slots ≡ table_bytes (replicate slots free_slot)
zeros-table zero = refl
zeros-table (suc n) = ap (λ k. replicate k 0) (more n) ∙ sym (replicate-append-replicate 8 (8 * n) 0) ∙ ap (λ t. slot_bytes free_slot ++ t) (zeros-table n) where
  more : (n : ℕ) → 8 * suc n ≡ 8 + 8 * n
  more n = omega arith

-- two writes side by side
pub two_writes : (t x y : List ℕ) (at : ℕ) → at + 8 ≤ length t → length x ≡ 4 → length y ≡ 4 → put_mid (at + 4) (at + 8 - (at + 4)) (put_mid at (at + 4 - at) t x) y ≡ take at t ++ (x ++ y) ++ drop (at + 8) t
two_writes t x y at fits lx ly =
    let inner = put_mid at (at + 4 - at) t x in
    let before : take (at + 4) inner ≡ take at t ++ x = take-put_mid at (at + 4 - at) t x (at + 4) (omega (arith, lx)) (omega (arith, fits)) in
    let after : drop (at + 8 - (at + 4)) (drop (at + 4) inner) ≡ drop (at + 8) t =
    drop-drop (at + 8 - (at + 4)) (at + 4) inner ∙ ap (λ n. drop n inner) (ends at) ∙ drop-put_mid at (at + 4 - at) t x (at + 8) (omega arith) (omega (arith, fits)) (omega (arith, lx)) in
    ap (λ f. f ++ (y ++ drop (at + 8 - (at + 4)) (drop (at + 4) inner))) before
    ∙ ap (λ e. take at t ++ x ++ (y ++ e)) after
    ∙ sym (append_assoc (take at t ++ x) y (drop (at + 8) t))
    ∙ ap (λ f. f ++ drop (at + 8) t) (append_assoc (take at t) x y) where
      ends : (n : ℕ) → n + 4 + (n + 8 - (n + 4)) ≡ n + 8
      ends n = omega arith

-- A contribution that is laid out as the merged one is: its functions are the list that it was made from.
use Rattle.std.proofs.Common.{◌≡◌, ℕ, ℤ, ◌+◌, ◌-◌, ◌*◌, ◌<◌, ◌≤◌, ◌^◌, ◌+ℤ◌, ◌-ℤ◌, List, [], ◌∷◌, length, take, get_or, pos, FitsSigned, refl, sym, ap, subst, ◌∙◌, arith, w32}
use Rattle.std.specs.Int.{cast_signed, from_le_bytes}
use Rattle.std.specs.List.{All, slice_range, flat_map}
use Rattle.std.proofs.lemmas.List.{append-nil}
use Rattle.std.proofs.lemmas.List.FromFn.{length-map-range_with_len, get_or-map-range_with_len, fill_by_all}
use Rattle.std.proofs.lemmas.List.Sums.{sum_by-take-le}
use Rattle.std.proofs.lemmas.Int.{ints}
use Rattle.std.proofs.lemmas.Nat.{from_le_bytes-to_le_bytes_4}
use Rattle.sframe_format.specs.Contribution.{Contribution, Function, header, origin, fde_at, row_offset, row_offsets, fres_start, next_above, function_at, functions_of, functions}
use Rattle.elf_format.proofs.NumberLemmas.{u32_is_read}
use Rattle.sframe_format.specs.Fields.{i32_at}
use Rattle.sframe_format.specs.Merged.{fdes, start_field, start_fields, fres_len}
use Rattle.sframe_order.proofs.Again.{before, before_ascends, running, next_running}
use Rattle.sframe_order.proofs.Carried.{IsWhole}
use Rattle.sframe_order.proofs.Fdes.{range-range, same_function}
use Rattle.sframe_order.proofs.Pieces.{fde_found, fres_found, field_start, field_size, field_before, field_info, start_read}
use Rattle.sframe_order.proofs.Placed.{placed, length-start_fields, get_or-start_fields}

-- the contribution stands at the section's start, and has header fields, FDEs and FREs for gs
pub record IsLaid (x : Contribution) (flags a : ℕ) (gs : List Function) : Type 0 where
  pub offset : x.offset ≡ 0
  pub flags_are : (header x).flags ≡ flags
  pub aux_is : (header x).aux_len ≡ a
  pub count : (header x).num_fdes ≡ length gs
  pub fdes_from : (header x).fde_start_offset ≡ 0
  pub fres_from : (header x).fre_start_offset ≡ 20 * length gs
  pub fdes_are : slice_range x.bytes (28 + a) (28 + a + 20 * length gs) ≡ fdes flags (28 + a) gs
  pub fres_are : slice_range x.bytes (28 + a + 20 * length gs) (28 + a + 20 * length gs + fres_len gs) ≡ flat_map (λ (g : Function). g.fres) gs
  pub len : length x.bytes ≡ 28 + a + 20 * length gs + fres_len gs
  pub whole : All IsWhole gs
  pub fit : All (FitsSigned w32) (start_fields flags (28 + a) gs)
  pub small : fres_len gs < 2 ^ 32

pub at_place : (x : Contribution) (flags a : ℕ) (gs : List Function) (j : ℕ) → IsLaid x flags a gs → fde_at x j ≡ 28 + a + 20 * j
at_place x flags a gs j laid = omega (arith, laid.aux_is, laid.fdes_from)

pub fres_place : (x : Contribution) (flags a : ℕ) (gs : List Function) → IsLaid x flags a gs → fres_start x ≡ 28 + a + 20 * length gs
fres_place x flags a gs laid = omega (arith, laid.aux_is, laid.fres_from)

-- a field of FDE j, from byte `low` of it up to byte `high`
field_at : (x : Contribution) (flags a : ℕ) (gs : List Function) (j : ℕ) (g : Function) (low high from to : ℕ) → IsLaid x flags a gs → j < length gs → fde_at x j + low ≡ from → fde_at x j + high ≡ to → low ≤ high → high ≤ 20
    → slice_range x.bytes from to ≡ slice_range (placed flags (28 + a) gs (j, get_or gs j g)) low high
field_at x flags a gs j g low high from to laid below p q h k =
    let at : fde_at x j ≡ 28 + a + 20 * j = at_place x flags a gs j laid in
    sym (range-range x.bytes (28 + a) (28 + a + 20 * length gs) (20 * j + low) (20 * j + high) from to (omega arith) (omega arith) (omega arith) (omega arith))
    ∙ ap (λ t. slice_range t (20 * j + low) (20 * j + high)) laid.fdes_are
    ∙ sym (range-range (fdes flags (28 + a) gs) (20 * j) (20 * j + 20) low high (20 * j + low) (20 * j + high) refl refl h (omega arith))
    ∙ ap (λ t. slice_range t low high) (fde_found flags (28 + a) gs j g laid.whole below)

pub offset_at : (x : Contribution) (flags a : ℕ) (gs : List Function) (j : ℕ) (g : Function) → IsLaid x flags a gs → j < length gs → row_offset x j ≡ before gs j
offset_at x flags a gs j g laid below =
    let small : before gs j < 2 ^ 32 = omega (arith, laid.small, sum_by-take-le (λ (g : Function). length g.fres) gs j) in
    let bytes : slice_range x.bytes (fde_at x j + 8) (fde_at x j + 8 + 4) ≡ slice_range (placed flags (28 + a) gs (j, get_or gs j g)) 8 12 = field_at x flags a gs j g 8 12 _ _ laid below refl (omega arith) (omega arith) (omega arith) in
    u32_is_read x.bytes (fde_at x j + 8) ∙ ap (from_le_bytes w32) (bytes ∙ field_before (start_field flags (28 + a + 20 * j) (get_or gs j g)) (fres_len (take j gs)) (get_or gs j g) (laid.whole j g below)) ∙ from_le_bytes-to_le_bytes_4 (before gs j) small

start_back : (s z : ℤ) (o o' : ℕ) → z ≡ s -ℤ pos o → o' ≡ o → pos o' +ℤ z ≡ s
start_back s z o o' e p = omega (arith, ints)

start_at : (x : Contribution) (flags a : ℕ) (gs : List Function) (j : ℕ) (g : Function) → IsLaid x flags a gs → j < length gs → pos (origin (header x).flags (x.offset + fde_at x j)) +ℤ i32_at x.bytes (fde_at x j) ≡ (get_or gs j g).start
start_at x flags a gs j g laid below =
    let s : ℤ = start_field flags (28 + a + 20 * j) (get_or gs j g) in
    let fits : FitsSigned w32 s = subst (FitsSigned w32) (get_or-start_fields flags (28 + a) gs j g (pos 0) below) (laid.fit j (pos 0) (omega (arith, length-start_fields flags (28 + a) gs))) in
    let bytes : slice_range x.bytes (fde_at x j) (fde_at x j + 4) ≡ slice_range (placed flags (28 + a) gs (j, get_or gs j g)) 0 4 = field_at x flags a gs j g 0 4 _ _ laid below (omega arith) refl (omega arith) (omega arith) in
    let read : i32_at x.bytes (fde_at x j) ≡ s = ap (cast_signed w32) (u32_is_read x.bytes (fde_at x j)) ∙ ap (λ t. cast_signed w32 (from_le_bytes w32 t)) (bytes ∙ field_start s (fres_len (take j gs)) (get_or gs j g)) ∙ start_read s fits in
    let at : x.offset + fde_at x j ≡ 28 + a + 20 * j = omega (arith, laid.offset, at_place x flags a gs j laid) in
    start_back (get_or gs j g).start _ (origin flags (28 + a + 20 * j)) _ read (ap (λ f. origin f (x.offset + fde_at x j)) laid.flags_are ∙ ap (origin flags) at)

row_offsets_are : (x : Contribution) (flags a : ℕ) (gs : List Function) (g : Function) → IsLaid x flags a gs → row_offsets x ≡ running gs
row_offsets_are x flags a gs g laid =
    fill_by_all (before gs) (row_offsets x) (length gs) 0 (length-map-range_with_len (row_offset x) 0 (header x).num_fdes ∙ laid.count) (λ k b. get_or-map-range_with_len (row_offset x) 0 (header x).num_fdes k k 0 (omega (arith, laid.count)) (omega arith) ∙ offset_at x flags a gs k g laid b)

fres_at : (x : Contribution) (flags a : ℕ) (gs : List Function) (j : ℕ) (g : Function) → IsLaid x flags a gs → j < length gs
    → slice_range x.bytes (fres_start x + row_offset x j) (fres_start x + next_above (row_offsets x) (length x.bytes - fres_start x) (row_offset x j)) ≡ (get_or gs j g).fres
fres_at x flags a gs j g laid below =
    let start : fres_start x ≡ 28 + a + 20 * length gs = fres_place x flags a gs laid in
    let o : row_offset x j ≡ before gs j = offset_at x flags a gs j g laid below in
    let end : length x.bytes - fres_start x ≡ fres_len gs = omega (arith, laid.len) in
    let next : next_above (row_offsets x) (length x.bytes - fres_start x) (row_offset x j) ≡ before gs (j + 1) = ap (λ t. next_above t (length x.bytes - fres_start x) (row_offset x j)) (row_offsets_are x flags a gs g laid) ∙ ap (λ t. next_above (running gs) t (row_offset x j)) end ∙ ap (next_above (running gs) (fres_len gs)) o ∙ next_running gs j g below (laid.whole j g below).fres in
    sym (range-range x.bytes (28 + a + 20 * length gs) (28 + a + 20 * length gs + fres_len gs) (before gs j) (before gs (j + 1)) _ _ (omega arith) (omega arith) (before_ascends gs j (j + 1) (omega arith)) (omega (arith, sum_by-take-le (λ (g : Function). length g.fres) gs (j + 1))))
    ∙ ap (λ t. slice_range t (before gs j) (before gs (j + 1))) laid.fres_are
    ∙ fres_found gs j g below

pub function_again : (x : Contribution) (flags a : ℕ) (gs : List Function) (j : ℕ) (g : Function) → IsLaid x flags a gs → j < length gs → function_at x j ≡ get_or gs j g
function_again x flags a gs j g laid below =
    let s : ℤ = start_field flags (28 + a + 20 * j) (get_or gs j g) in
    same_function (start_at x flags a gs j g laid below)
    (field_at x flags a gs j g 4 8 _ _ laid below refl refl (omega arith) (omega arith) ∙ field_size s (fres_len (take j gs)) (get_or gs j g) (laid.whole j g below))
    (field_at x flags a gs j g 12 20 _ _ laid below refl refl (omega arith) (omega arith) ∙ field_info s (fres_len (take j gs)) (get_or gs j g) (laid.whole j g below))
    (fres_at x flags a gs j g laid below)

no_function : Function
no_function = record { start = pos 0; size = []; info = []; fres = [] }

pub functions_again : (x : Contribution) (flags a : ℕ) (gs : List Function) → IsLaid x flags a gs → functions (x ∷ []) ≡ gs
functions_again x flags a gs laid =
    append-nil (functions_of x)
    ∙ sym (fill_by_all (function_at x) gs (header x).num_fdes no_function (sym laid.count) (λ k b. sym (function_again x flags a gs k no_function laid (omega (arith, laid.count)))))

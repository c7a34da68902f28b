-- The list of units is read back as it was written.
use Rattle.std.proofs.Common.{◌≡◌, ℕ, ◌+◌, ◌-◌, ◌*◌, ◌/◌, ◌^◌, ◌<◌, ◌≤◌, Bool, true, false, cond, ltb, List, [], ◌∷◌, ◌++◌, length, take, drop, map, refl, sym, ap, ◌∙◌, arith}
use Rattle.std.specs.Prelude.{not, ◌||◌, slice_range}
use Rattle.std.specs.List.{flat_map}
use Rattle.std.specs.Int.{w64, to_le_bytes}
use Rattle.std.proofs.lemmas.Bool.{le-ltb}
use Rattle.std.proofs.lemmas.List.{take_at, drop_at, append-nil}
use Rattle.std.proofs.lemmas.List.Elements.{All-head, All-tail}
use Rattle.elf_format.specs.Bytes.{u32_at, records, whole_records}
use Rattle.gdb_index_format.specs.declared.unit.CuBoundary.{CuBoundary}
use Rattle.gdb_index_format.specs.Version.{is_known, header_len}
use Rattle.gdb_index_format.specs.Units.{unit_in, index_units}
use Rattle.gdb_index.specs.Layout.{unit_bytes, AreUnits}
use Rattle.gdb_index.proofs.Standing.{StandsAt, StandsAt-left, StandsAt-right, u64_at-stands}
use Rattle.gdb_index.proofs.Lengths.{length-units}

same_unit : (u v : CuBoundary) → u.offset ≡ v.offset → u.length ≡ v.length → u ≡ v
same_unit u v p q = grind arith

unit_in-bytes : (u : CuBoundary) → u.offset < 2 ^ 64 → u.length < 2 ^ 64 → unit_in (unit_bytes u) ≡ u
unit_in-bytes u p q =
    let b = unit_bytes u in
    let whole : StandsAt b 0 (to_le_bytes w64 u.offset ++ to_le_bytes w64 u.length) = record { front = []; back = []; offset = refl; parts = sym (append-nil b) } in
    same_unit (unit_in b) u
    (u64_at-stands b 0 u.offset p (StandsAt-left b 0 (to_le_bytes w64 u.offset) (to_le_bytes w64 u.length) whole))
    (u64_at-stands b 8 u.length q (StandsAt-right b 0 (to_le_bytes w64 u.offset) (to_le_bytes w64 u.length) whole))

units_in-records : (us : List CuBoundary) → AreUnits us → map unit_in (records 16 (length us) (flat_map unit_bytes us)) ≡ us
units_in-records [] fit = refl
units_in-records (u ∷ us) fit =
    let rest = flat_map unit_bytes us in
    let here = All-head (λ (u : CuBoundary). (u.offset < 2 ^ 64) × (u.length < 2 ^ 64)) u us fit in
    ap (λ t. unit_in t ∷ map unit_in (records 16 (length us) (drop 16 (unit_bytes u ++ rest)))) (take_at (unit_bytes u) rest 16 refl)
    ∙ ap (λ t. unit_in (unit_bytes u) ∷ map unit_in (records 16 (length us) t)) (drop_at (unit_bytes u) rest 16 refl)
    ∙ ap (λ x. x ∷ map unit_in (records 16 (length us) rest)) (unit_in-bytes u here.0 here.1)
    ∙ ap (λ xs. u ∷ xs) (units_in-records us (All-tail (λ (u : CuBoundary). (u.offset < 2 ^ 64) × (u.length < 2 ^ 64)) u us fit))

part_is : (b : List ℕ) (at n : ℕ) (bytes : List ℕ) → length bytes ≡ n → StandsAt b at bytes → slice_range b at (at + n) ≡ bytes
part_is b at n bytes len s =
    ap (λ k. take k (drop at b)) (less at n)
    ∙ ap (take n) (ap (drop at) s.parts ∙ drop_at s.front (bytes ++ s.back) at s.offset)
    ∙ take_at bytes s.back n len where
      less : (a n : ℕ) → a + n - a ≡ n
      less a n = omega arith

chosen : (x y : Bool) (us : List CuBoundary) → x ≡ true → y ≡ false → cond (not x || y) [] us ≡ us
chosen true false us p q = refl
chosen true true us p q = absurd cc
chosen false y us p q = absurd cc

pub index_units_are : (b : List ℕ) (at : ℕ) (us : List CuBoundary) → is_known (u32_at b 0) ≡ true → header_len (u32_at b 0) ≤ length b → u32_at b 4 ≡ at → u32_at b 8 ≡ at + 16 * length us → AreUnits us → StandsAt b at (flat_map unit_bytes us) → index_units b ≡ us
unfolding index_units
index_units_are b at us known long o1 o2 fit s =
    chosen (is_known (u32_at b 0)) (ltb (length b) (header_len (u32_at b 0))) (map unit_in (whole_records 16 (slice_range b (u32_at b 4) (u32_at b 8)))) known (le-ltb (length b) (header_len (u32_at b 0)) long)
    ∙ ap (λ n. map unit_in (whole_records 16 (slice_range b n (u32_at b 8)))) o1
    ∙ ap (λ n. map unit_in (whole_records 16 (slice_range b at n))) o2
    ∙ ap (λ t. map unit_in (whole_records 16 t)) (part_is b at (16 * length us) (flat_map unit_bytes us) (length-units us) s)
    ∙ ap (λ n. map unit_in (records 16 n (flat_map unit_bytes us))) count
    ∙ units_in-records us fit where
      count : length (flat_map unit_bytes us) / 16 ≡ length us
      count = omega (arith, length-units us)

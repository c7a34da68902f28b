-- The parts of an index whose format has no fault stand in order.
use Rattle.std.proofs.Common.{◌≡◌, ℕ, Bool, true, false, ◌+◌, ◌-◌, ◌*◌, ◌/◌, ◌%◌, ◌^◌, ◌<◌, ◌≤◌, cond, eqb, List, length, Some, None, refl, arith}
use Rattle.std.specs.Prelude.{not, ◌&&◌, ◌||◌}
use Rattle.std.specs.Int.{is_power_of_two}
use Rattle.std.proofs.lemmas.Bool.{leb-true, eqb-true}
use Rattle.elf_format.specs.Bytes.{u32_at}
use Rattle.gdb_index_format.specs.Version.{is_known, header_len}
use Rattle.gdb_index_format.specs.Probe.{index_fault, are_in_order, is_table, slot_count, pool_at}
use Rattle.gdb_index_format.specs.declared.bad_index.BadIndex.TheVariants.{Version, Offsets, Slots}
use Rattle.gdb_index.specs.declared.reader.Parts.{Parts}
use Rattle.gdb_index.specs.Parts.{ArePartsOf}
use Rattle.index_browser.specs.steps.Offsets.{AreAreasOf}

both : (x y : Bool) → (x && y) ≡ true → (x ≡ true) × (y ≡ true)
both true true is = (refl, refl)
both true false is = absurd cc
both false y is = absurd cc

passed : (x y z : Bool) → cond (not x) (Some Version) (cond (not y) (Some Offsets) (cond (not z) (Some Slots) None)) ≡ None → (x ≡ true) × (y ≡ true) × (z ≡ true)
passed true true true is = (refl, refl, refl)
passed true true false is = absurd cc
passed true false z is = absurd cc
passed false y z is = absurd cc

pub header_len-least : (v : ℕ) → 24 ≤ header_len v
unfolding header_len
header_len-least v = least (eqb v 8) where
  least : (t : Bool) → 24 ≤ cond t 24 28
  least true = omega arith
  least false = omega arith

-- the order of the parts, in numbers
pub record Ordered (b : List ℕ) : Type 0 where
  pub known : is_known (u32_at b 0) ≡ true
  pub begins : header_len (u32_at b 0) ≤ u32_at b 4
  pub first : u32_at b 4 ≤ u32_at b 8
  pub second : u32_at b 8 ≤ u32_at b 12
  pub third : u32_at b 12 ≤ u32_at b 16
  pub fourth : u32_at b 16 ≤ u32_at b 20
  pub fifth : u32_at b 20 ≤ pool_at b
  pub ends : pool_at b ≤ length b
  pub table : u32_at b 16 + 8 * slot_count b ≡ u32_at b 20
  pub power : (eqb (slot_count b) 0 || is_power_of_two (slot_count b)) ≡ true

whole : (n m : ℕ) → m ≤ n → (n - m) % 8 ≡ 0 → m + 8 * ((n - m) / 8) ≡ n
whole n m l rest = omega arith

pub ordered : (b : List ℕ) → index_fault b ≡ None → Ordered b
unfolding index_fault are_in_order is_table slot_count
ordered b none =
    let (known, order, table) = passed (is_known (u32_at b 0)) _ _ none in
    let (d6, e7) = both _ _ order in
    let (d5, e6) = both _ _ d6 in
    let (d4, e5) = both _ _ d5 in
    let (d3, e4) = both _ _ d4 in
    let (d2, e3) = both _ _ d3 in
    let (e1, e2) = both _ _ d2 in
    let (rest, power) = both _ _ table in
    let fourth = leb-true _ _ e5 in
    record {
      known = known;
      begins = leb-true _ _ e1;
      first = leb-true _ _ e2;
      second = leb-true _ _ e3;
      third = leb-true _ _ e4;
      fourth = fourth;
      fifth = leb-true _ _ e6;
      ends = leb-true _ _ e7;
      table = whole (u32_at b 20) (u32_at b 16) fourth (eqb-true _ _ rest);
      power = power;
    }

-- the areas as they are read
pub areas_read : (b : List ℕ) (u t a e : ℕ) → index_fault b ≡ None → u ≡ u32_at b 4 → t ≡ u32_at b 8 → a ≡ u32_at b 12 → e ≡ u32_at b 16 → e < 2 ^ 32 → AreAreasOf b (record { units = u; types = t; addresses = a; end = e })
areas_read b u t a e none units types addresses end low =
    let o = ordered b none in
    record {
      units = units;
      types = types;
      addresses = addresses;
      end = end;
      first = omega (arith, units, types, o.first);
      second = omega (arith, types, addresses, o.second);
      third = omega (arith, addresses, end, o.third);
      within = omega (arith, end, o.fourth, o.fifth, o.ends);
      low = low;
    }

-- the slots, eight bytes each, end before the constant pool
pub few_slots : (b : List ℕ) (p : Parts) → ArePartsOf b p → p.slots < 2 ^ 29
few_slots b p parts = let o = ordered b parts.sound in omega (arith, parts.slots, parts.pool, parts.pool_within, o.table, o.fifth)

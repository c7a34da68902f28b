-- A header whose offsets are in order, with a table of none or a power of two of slots, is well formed.
use Rattle.std.proofs.Common.{◌≡◌, ◌⊎◌, ℕ, zero, suc, ◌+◌, ◌-◌, ◌*◌, ◌/◌, ◌%◌, ◌^◌, ◌≤◌, Bool, true, false, cond, eqb, leb, List, length, Some, None, refl, ap, ◌∙◌, arith, inl, inr}
use Rattle.std.specs.Prelude.{◌&&◌, ◌||◌, not}
use Rattle.std.specs.Int.{IsPowerOfTwo, is_power_of_two}
use Rattle.std.specs.Int.Count.{ones, ones_step}
use Rattle.std.proofs.Math.Nat.{pow-suc}
use Rattle.std.proofs.lemmas.Bool.{and_from, or_right, or_left, eq-eqb, le-leb}
use Rattle.elf_format.specs.Bytes.{u32_at}
use Rattle.gdb_index_format.specs.declared.bad_index.BadIndex.TheVariants.{Version, Offsets, Slots}
use Rattle.gdb_index_format.specs.Version.{is_known, header_len, pool_field}
use Rattle.gdb_index_format.specs.Probe.{index_fault, are_in_order, is_table, pool_at, slot_count}

ones_of_one : ones 1 ≡ 1
unfolding ones
ones_of_one = refl

ones_of_power : (k : ℕ) → ones (2 ^ k) ≡ 1
ones_of_power zero = ones_of_one
ones_of_power (suc k) =
    let even : 2 ^ suc k % 2 ≡ 0 = omega (arith, pow-suc 2 k) in
    let half : 2 ^ suc k / 2 ≡ 2 ^ k = omega (arith, pow-suc 2 k) in
    omega (arith, ones_step (2 ^ suc k), even, ap ones half, ones_of_power k)

power_passes : (m : ℕ) → IsPowerOfTwo m → is_power_of_two m ≡ true
power_passes m (k, is) = eq-eqb (ones m) 1 (ap ones is ∙ ones_of_power k)

-- the header's numbers, and what they must satisfy
pub record IsHeader (v : ℕ) (b : List ℕ) (units types addresses table shortcuts pool : ℕ) : Type 0 where
  pub version : u32_at b 0 ≡ v
  pub known : is_known v ≡ true
  pub o1 : u32_at b 4 ≡ units
  pub o2 : u32_at b 8 ≡ types
  pub o3 : u32_at b 12 ≡ addresses
  pub o4 : u32_at b 16 ≡ table
  pub o5 : u32_at b 20 ≡ shortcuts
  pub o6 : u32_at b (pool_field v) ≡ pool
  pub begins : header_len v ≤ units
  pub first : units ≤ types
  pub second : types ≤ addresses
  pub third : addresses ≤ table
  pub fourth : table ≤ shortcuts
  pub fifth : shortcuts ≤ pool
  pub ends : pool ≤ length b

pub pool_is : (v : ℕ) (b : List ℕ) (units types addresses table shortcuts pool : ℕ) → IsHeader v b units types addresses table shortcuts pool → pool_at b ≡ pool
unfolding pool_at
pool_is v b units types addresses table shortcuts pool h = ap (λ n. u32_at b (pool_field n)) h.version ∙ h.o6

pub is_sound : (v : ℕ) (b : List ℕ) (units types addresses table shortcuts pool slots : ℕ) → IsHeader v b units types addresses table shortcuts pool → shortcuts ≡ table + 8 * slots → (slots ≡ 0) ⊎ IsPowerOfTwo slots → index_fault b ≡ None
unfolding index_fault are_in_order is_table slot_count
is_sound v b units types addresses table shortcuts pool slots h whole power =
    let known : is_known (u32_at b 0) ≡ true = ap is_known h.version ∙ h.known in
    let last : pool_at b ≡ pool = pool_is v b units types addresses table shortcuts pool h in
    let a = le-leb (header_len (u32_at b 0)) (u32_at b 4) (omega (arith, ap header_len h.version, h.o1, h.begins)) in
    let b2 = le-leb (u32_at b 4) (u32_at b 8) (omega (arith, h.o1, h.o2, h.first)) in
    let b3 = le-leb (u32_at b 8) (u32_at b 12) (omega (arith, h.o2, h.o3, h.second)) in
    let b4 = le-leb (u32_at b 12) (u32_at b 16) (omega (arith, h.o3, h.o4, h.third)) in
    let b5 = le-leb (u32_at b 16) (u32_at b 20) (omega (arith, h.o4, h.o5, h.fourth)) in
    let b6 = le-leb (u32_at b 20) (pool_at b) (omega (arith, h.o5, last, h.fifth)) in
    let b7 = le-leb (pool_at b) (length b) (omega (arith, last, h.ends)) in
    let order : (leb (header_len (u32_at b 0)) (u32_at b 4) && leb (u32_at b 4) (u32_at b 8) && leb (u32_at b 8) (u32_at b 12) && leb (u32_at b 12) (u32_at b 16) && leb (u32_at b 16) (u32_at b 20) && leb (u32_at b 20) (pool_at b) && leb (pool_at b) (length b)) ≡ true =
    and_from _ _ (and_from _ _ (and_from _ _ (and_from _ _ (and_from _ _ (and_from _ _ a b2) b3) b4) b5) b6) b7 in
    let size : u32_at b 20 - u32_at b 16 ≡ 8 * slots = omega (arith, h.o4, h.o5, whole) in
    let eighth : (u32_at b 20 - u32_at b 16) / 8 ≡ slots = omega (arith, size) in
    let multiple : eqb ((u32_at b 20 - u32_at b 16) % 8) 0 ≡ true = eq-eqb _ 0 (omega (arith, size)) in
    let some : (eqb slots 0 || is_power_of_two slots) ≡ true = elim power [
      | inl none ↦ or_left (eqb slots 0) (is_power_of_two slots) (eq-eqb slots 0 none)
      | inr two ↦ or_right (eqb slots 0) (is_power_of_two slots) (power_passes slots two)
    ] in
    let fits : (eqb ((u32_at b 20 - u32_at b 16) % 8) 0 && (eqb ((u32_at b 20 - u32_at b 16) / 8) 0 || is_power_of_two ((u32_at b 20 - u32_at b 16) / 8))) ≡ true =
    and_from _ _ multiple (ap (λ m. eqb m 0 || is_power_of_two m) eighth ∙ some) in
    let orders : Bool = leb (header_len (u32_at b 0)) (u32_at b 4) && leb (u32_at b 4) (u32_at b 8) && leb (u32_at b 8) (u32_at b 12) && leb (u32_at b 12) (u32_at b 16) && leb (u32_at b 16) (u32_at b 20) && leb (u32_at b 20) (pool_at b) && leb (pool_at b) (length b) in
    let tables : Bool = eqb ((u32_at b 20 - u32_at b 16) % 8) 0 && (eqb ((u32_at b 20 - u32_at b 16) / 8) 0 || is_power_of_two ((u32_at b 20 - u32_at b 16) / 8)) in
    chosen (is_known (u32_at b 0)) orders tables known order fits where
      chosen : (x y z : Bool) → x ≡ true → y ≡ true → z ≡ true → cond (not x) (Some Version) (cond (not y) (Some Offsets) (cond (not z) (Some Slots) None)) ≡ None
      chosen true true true p q r = refl
      chosen false y z p q r = absurd cc
      chosen true false z p q r = absurd cc
      chosen true true false p q r = absurd cc

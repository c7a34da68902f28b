-- A list that is written in CREL is read again.
use Rattle.std.proofs.Common.{◌≡◌, ℕ, suc, ◌+◌, ◌-◌, ◌*◌, ◌/◌, ◌%◌, ◌^◌, ◌<◌, ◌≤◌, Bool, true, false, not, ltb, eqb, cond, ℤ, pos, negsuc, List, [], ◌∷◌, ◌++◌, length, Result, Ok, Err, refl, ap, sym, ◌∙◌, arith, lt-ltb, le-ltb, ltb-true, ltb-false, append_assoc, eqb-true, lit<}
use Rattle.std.specs.Int.{w32, w64, cast_unsigned, cast_signed}
use Rattle.std.specs.Int.RustNames.{FitsSigned}
use Rattle.std.proofs.lemmas.Bool.{false≢true}
use Rattle.std.specs.List.{AllByRecursion}
use Rattle.std.proofs.lemmas.Int.{to_z-of_z, of_z-to_z}
use Rattle.elf_format.specs.declared.crel.CrelError.{CrelError}
use Rattle.elf_format.specs.declared.crel.Crel.{Crel}
use Rattle.elf_format.specs.Leb128.{uleb128_form, magnitude}
use Rattle.elf_format.specs.Crel.{with_crel_error, has_bit, change, offset_rest, add_32, add_64, add_offset, record_front, shifted, items, first_record, all_ok, listing, crel_list, flag, same_z, from_to_32, from_to_64, offset_change, flags_of, offset_form, change_form, record_form, record_forms, list_form, IsCrel}
use Rattle.elf_format.proofs.Leb128Lemmas.{uleb128_again, sleb128_again}

-- sums that wrap come back

residue : (m : ℕ) → m < 2 ^ 32 → cast_unsigned w64 (cast_signed w32 m) % 2 ^ 32 ≡ m
residue m h =
    elim (ltb m (2 ^ 31)) as (λ b. ltb m (2 ^ 31) ≡ b → cast_unsigned w64 (cond b (pos m) (negsuc (2 ^ 32 - suc m))) % 2 ^ 32 ≡ m) [
      | true ↦ λ e. omega arith
      | false ↦ λ e. omega arith
    ] refl

wraps_32 : (old new u : ℕ) → old < 2 ^ 32 → new < 2 ^ 32 → u % 2 ^ 32 ≡ (new + (2 ^ 32 - old)) % 2 ^ 32 → (old + u) % 2 ^ 32 ≡ new
wraps_32 old new u h k e = omega arith

pub again_32 : (old new : ℕ) → old < 2 ^ 32 → new < 2 ^ 32 → add_32 old (from_to_32 old new) ≡ new
again_32 old new h k = wraps_32 old new _ h k (residue ((new + (2 ^ 32 - old)) % 2 ^ 32) (omega arith))

bits_small : (z : ℤ) → FitsSigned w64 z → cast_unsigned w64 z < 2 ^ 64
bits_small (pos n) f = omega (arith, f.sfits)
bits_small (negsuc n) f = omega arith

wraps_64 : (old new : ℕ) → old < 2 ^ 64 → new < 2 ^ 64 → (old + (new + (2 ^ 64 - old)) % 2 ^ 64) % 2 ^ 64 ≡ new
wraps_64 old new h k = omega arith

pub again_64 : (old new : ℤ) → FitsSigned w64 old → FitsSigned w64 new → add_64 old (from_to_64 old new) ≡ new
again_64 old new h k =
    let m : ℕ = (cast_unsigned w64 new + (2 ^ 64 - cast_unsigned w64 old)) % 2 ^ 64 in
    let e = of_z-to_z w64 ((cast_unsigned w64 new + (2 ^ 64 - cast_unsigned w64 old)) % 2 ^ 64) (omega arith) in
    let w = wraps_64 (cast_unsigned w64 old) (cast_unsigned w64 new) (bits_small old h) (bits_small new k) in
    ap (λ x. cast_signed w64 ((cast_unsigned w64 old + x) % 2 ^ 64)) e ∙ ap (cast_signed w64) w ∙ to_z-of_z w64 new k

small_signed_32 : (m : ℕ) → m < 2 ^ 32 → magnitude (cast_signed w32 m) < 2 ^ 63
small_signed_32 m h =
    elim (ltb m (2 ^ 31)) as (λ b. ltb m (2 ^ 31) ≡ b → magnitude (cond b (pos m) (negsuc (2 ^ 32 - suc m))) < 2 ^ 63) [
      | true ↦ λ e. omega arith
      | false ↦ λ e. omega arith
    ] refl

pub small_32 : (old new : ℕ) → magnitude (from_to_32 old new) < 2 ^ 63
small_32 old new = small_signed_32 ((new + (2 ^ 32 - old)) % 2 ^ 32) (omega arith)

small_signed_64 : (m : ℕ) → m < 2 ^ 64 → magnitude (cast_signed w64 m) < 2 ^ 63
small_signed_64 m h =
    elim (ltb m (2 ^ 63)) as (λ b. ltb m (2 ^ 63) ≡ b → magnitude (cond b (pos m) (negsuc (2 ^ 64 - suc m))) < 2 ^ 63) [
      | true ↦ λ e. omega (arith, ltb-true m (2 ^ 63) e)
      | false ↦ λ e. omega (arith, ltb-false m (2 ^ 63) e)
    ] refl

pub small_64 : (old new : ℤ) → magnitude (from_to_64 old new) < 2 ^ 63
small_64 old new = small_signed_64 ((cast_unsigned w64 new + (2 ^ 64 - cast_unsigned w64 old)) % 2 ^ 64) (omega arith)

pub again_offset : (old new low rest : ℕ) → old < 2 ^ 64 → new < 2 ^ 64 → low ≡ (new + (2 ^ 64 - old)) % 2 ^ 64 % 16 → rest ≡ (new + (2 ^ 64 - old)) % 2 ^ 64 / 16 → add_offset old low rest 16 ≡ new
again_offset old new low rest h k e f = omega arith

pub change_again : (b : Bool) (z : ℤ) (rest : List ℕ) → magnitude z < 2 ^ 63 → change b (change_form b z ++ rest) ≡ Ok (cond b z (pos 0), rest)
unfolding change change_form
change_again true z rest h = ap with_crel_error (sleb128_again z rest h)
change_again false z rest h = refl

bit_1 : (high : ℕ) (a b c : Bool) → (8 * high + (flag a 1 + flag b 2 + flag c 4)) / 1 % 2 ≡ flag a 1
bit_1 high true true true = omega arith
bit_1 high true true false = omega arith
bit_1 high true false true = omega arith
bit_1 high true false false = omega arith
bit_1 high false true true = omega arith
bit_1 high false true false = omega arith
bit_1 high false false true = omega arith
bit_1 high false false false = omega arith

bit_2 : (high : ℕ) (a b c : Bool) → (8 * high + (flag a 1 + flag b 2 + flag c 4)) / 2 % 2 ≡ flag b 1
bit_2 high true true true = omega arith
bit_2 high true true false = omega arith
bit_2 high true false true = omega arith
bit_2 high true false false = omega arith
bit_2 high false true true = omega arith
bit_2 high false true false = omega arith
bit_2 high false false true = omega arith
bit_2 high false false false = omega arith

bit_4 : (high : ℕ) (a b c : Bool) → (8 * high + (flag a 1 + flag b 2 + flag c 4)) / 4 % 2 ≡ flag c 1
bit_4 high true true true = omega arith
bit_4 high true true false = omega arith
bit_4 high true false true = omega arith
bit_4 high true false false = omega arith
bit_4 high false true true = omega arith
bit_4 high false true false = omega arith
bit_4 high false false true = omega arith
bit_4 high false false false = omega arith

is_flag : (a : Bool) → eqb (flag a 1) 1 ≡ a
is_flag true = refl
is_flag false = refl

bits_of : (high : ℕ) (a b c : Bool) (byte : ℕ) → byte ≡ 8 * high + (flag a 1 + flag b 2 + flag c 4) → (has_bit byte 1 ≡ a) × (has_bit byte 2 ≡ b) × (has_bit byte 4 ≡ c)
bits_of high a b c byte e =
    (rw (e, bit_1 high a b c) (is_flag a), rw (e, bit_2 high a b c) (is_flag b), rw (e, bit_4 high a b c) (is_flag c))

flags_small : (a b c : Bool) → flag a 1 + flag b 2 + flag c 4 < 8
flags_small true true true = lit< tt
flags_small true true false = lit< tt
flags_small true false true = lit< tt
flags_small true false false = lit< tt
flags_small false true true = lit< tt
flags_small false true false = lit< tt
flags_small false false true = lit< tt
flags_small false false false = lit< tt

-- what changes is added, and what does not stays

symbol_again : (old new : ℕ) → old < 2 ^ 32 → new < 2 ^ 32 → add_32 old (cond (not (eqb new old)) (from_to_32 old new) (pos 0)) ≡ new
symbol_again old new h k =
    elim (eqb new old) as (λ b. eqb new old ≡ b → add_32 old (cond (not b) (from_to_32 old new) (pos 0)) ≡ new) [
      | true ↦ λ e. let same : new ≡ old = eqb-true new old e in omega arith
      | false ↦ λ e. again_32 old new h k
    ] refl

same_z_true : (a b : ℤ) → same_z a b ≡ true → a ≡ b
same_z_true (pos m) (pos n) e = ap pos (eqb-true m n e)
same_z_true (negsuc m) (negsuc n) e = ap negsuc (eqb-true m n e)
same_z_true (pos m) (negsuc n) e = absurd (false≢true e)
same_z_true (negsuc m) (pos n) e = absurd (false≢true e)

stays_64 : (z : ℤ) → FitsSigned w64 z → add_64 z (pos 0) ≡ z
stays_64 z h =
    let e : (cast_unsigned w64 z + 0) % 2 ^ 64 ≡ cast_unsigned w64 z = omega (arith, bits_small z h) in
    ap (cast_signed w64) e ∙ to_z-of_z w64 z h

addend_again : (old new : ℤ) → FitsSigned w64 old → FitsSigned w64 new → add_64 old (cond (not (same_z new old)) (from_to_64 old new) (pos 0)) ≡ new
addend_again old new h k =
    elim (same_z new old) as (λ b. same_z new old ≡ b → add_64 old (cond (not b) (from_to_64 old new) (pos 0)) ≡ new) [
      | true ↦ λ e. stays_64 old h ∙ sym (same_z_true new old e)
      | false ↦ λ e. again_64 old new h k
    ] refl

-- a record's first byte and the rest of its offset's change
record Opens (change flags : ℕ) (rest form : List ℕ) : Type 0 where
  byte : ℕ
  bytes : List ℕ
  high : ℕ
  is : form ≡ byte ∷ bytes
  reads : offset_rest byte bytes ≡ Ok (change / 16, rest)
  low : byte % 128 / 8 ≡ change % 16
  bits : byte ≡ 8 * high + flags

opens_short : (change flags : ℕ) (rest : List ℕ) → flags < 8 → change < 16 → Opens change flags rest ((change * 8 + flags) ∷ rest)
unfolding offset_rest
opens_short change flags rest f h =
    let z : 0 ≡ change / 16 = omega arith in
    record {
      byte = change * 8 + flags;
      bytes = rest;
      high = change;
      is = refl;
      reads = rw (lt-ltb (change * 8 + flags) 128 (omega arith), ← z) refl;
      low = omega arith;
      bits = omega arith;
    }

opens_long : (change flags : ℕ) (rest : List ℕ) → flags < 8 → change < 2 ^ 64 → 16 ≤ change → Opens change flags rest ((128 + change % 16 * 8 + flags) ∷ (uleb128_form (change / 16) ++ rest))
unfolding offset_rest
opens_long change flags rest f h k =
    record {
      byte = 128 + change % 16 * 8 + flags;
      bytes = uleb128_form (change / 16) ++ rest;
      high = 16 + change % 16;
      is = refl;
      reads = rw (le-ltb (128 + change % 16 * 8 + flags) 128 (omega arith)) (ap with_crel_error (uleb128_again (change / 16) rest (omega arith)));
      low = omega arith;
      bits = omega arith;
    }

opens : (change flags : ℕ) (rest : List ℕ) → flags < 8 → change < 2 ^ 64 → Opens change flags rest (offset_form change flags ++ rest)
unfolding offset_form
opens change flags rest f h =
    elim (ltb change 16) as (λ b. ltb change 16 ≡ b → Opens change flags rest (cond b ((change * 8 + flags) ∷ []) ((128 + change % 16 * 8 + flags) ∷ uleb128_form (change / 16)) ++ rest)) [
      | true ↦ λ e. opens_short change flags rest f (ltb-true change 16 e)
      | false ↦ λ e. opens_long change flags rest f h (ltb-false change 16 e)
    ] refl

front_of : (last crel : Crel) (byte : ℕ) (bytes rest b1 b2 b3 b4 : List ℕ) (high : ℕ) (symbol kind addend : ℤ)
    → offset_rest byte bytes ≡ Ok (high, b1) → change (has_bit byte 1) b1 ≡ Ok (symbol, b2) → change (has_bit byte 2) b2 ≡ Ok (kind, b3) → change (has_bit byte 4) b3 ≡ Ok (addend, b4)
    → add_offset last.offset (byte % 128 / 8) high 16 ≡ crel.offset → add_32 last.symbol symbol ≡ crel.symbol → add_32 last.kind kind ≡ crel.kind → add_64 last.addend addend ≡ crel.addend
    → record_front true last (byte ∷ bytes) ≡ Ok (crel, b4)
unfolding record_front
front_of last crel byte bytes rest b1 b2 b3 b4 high symbol kind addend e0 e1 e2 e3 f0 f1 f2 f3 = rw (e0, e1, e2, e3, f0, f1, f2, f3) refl

regroup : (o s k a rest : List ℕ) → (((o ++ s) ++ k) ++ a) ++ rest ≡ o ++ (s ++ (k ++ (a ++ rest)))
regroup o s k a rest = simp append_assoc

pub record_again : (last crel : Crel) (rest : List ℕ) → IsCrel last → IsCrel crel → record_front true last (record_form last crel ++ rest) ≡ Ok (crel, rest)
unfolding record_form
record_again last crel rest h k =
    let a : Bool = not (eqb crel.symbol last.symbol) in
    let b : Bool = not (eqb crel.kind last.kind) in
    let d : Bool = not (same_z crel.addend last.addend) in
    let zs : ℤ = from_to_32 last.symbol crel.symbol in
    let zk : ℤ = from_to_32 last.kind crel.kind in
    let za : ℤ = from_to_64 last.addend crel.addend in
    let change : ℕ = offset_change last crel in
    let r3 : List ℕ = change_form d za ++ rest in
    let r2 : List ℕ = change_form b zk ++ r3 in
    let r1 : List ℕ = change_form a zs ++ r2 in
    let o : Opens change (flags_of last crel) r1 (offset_form change (flags_of last crel) ++ r1) = opens change (flags_of last crel) r1 (flags_small a b d) (omega arith) in
    let bits = bits_of o.high a b d o.byte o.bits in
    rw (regroup, o.is)
    (front_of last crel o.byte o.bytes rest r1 r2 r3 rest (change / 16) (cond a zs (pos 0)) (cond b zk (pos 0)) (cond d za (pos 0))
    o.reads
    (rw bits.0 (change_again a zs r2 (small_32 last.symbol crel.symbol)))
    (rw bits.1 (change_again b zk r3 (small_32 last.kind crel.kind)))
    (rw bits.2 (change_again d za rest (small_64 last.addend crel.addend)))
    (again_offset last.offset crel.offset _ _ h.offset k.offset o.low refl)
    (symbol_again last.symbol crel.symbol h.symbol k.symbol)
    (symbol_again last.kind crel.kind h.kind k.kind)
    (addend_again last.addend crel.addend h.addend k.addend))

shifted_0 : (crel : Crel) → crel.offset < 2 ^ 64 → shifted 0 crel ≡ crel
shifted_0 crel h = let e : (crel.offset * 2 ^ 0) % 2 ^ 64 ≡ crel.offset = omega arith in ap (λ n. record crel { offset = n }) e

items_step : (count : ℕ) (last crel : Crel) (bytes rest : List ℕ) → record_front true last bytes ≡ Ok (crel, rest) → crel.offset < 2 ^ 64 → items (suc count) true 0 last bytes ≡ Ok crel ∷ items count true 0 crel rest
items_step count last crel bytes rest e h =
    ap (λ (r : Result (Crel × List ℕ) CrelError). elim r as (λ _. List (Result Crel CrelError)) [ Ok x ↦ Ok (shifted 0 x.0) ∷ items count true 0 x.0 x.1 | Err f ↦ Err f ∷ [] ]) e
    ∙ ap (λ c. Ok c ∷ items count true 0 crel rest) (shifted_0 crel h)

pub items_again : (last : Crel) (list : List Crel) (rest : List ℕ) → IsCrel last → AllByRecursion IsCrel list → all_ok (items (length list) true 0 last (record_forms last list ++ rest)) ≡ Ok list
items_again last [] rest h k = refl
items_again last (crel ∷ list) rest h k =
    let e : record_front true last (record_forms last (crel ∷ list) ++ rest) ≡ Ok (crel, record_forms crel list ++ rest) = rw append_assoc (record_again last crel (record_forms crel list ++ rest) h k.0) in
    rw (items_step (length list) last crel _ _ e k.0.offset, items_again crel list rest k.0 k.1) refl

fits_first : IsCrel first_record
fits_first = record { offset = lit< tt; symbol = lit< tt; kind = lit< tt; addend = record { sfits = lit< tt } }

pub list_again : (list : List Crel) (rest : List ℕ) → length list < 2 ^ 61 → AllByRecursion IsCrel list → crel_list (list_form list ++ rest) ≡ Ok list
unfolding crel_list listing list_form
list_again list rest h k =
    let head : ℕ = 8 * length list + 4 in
    let e = uleb128_again (8 * length list + 4) (record_forms first_record list ++ rest) (omega arith) in
    let count : (8 * length list + 4) / 8 ≡ length list = omega arith in
    let addends : (8 * length list + 4) / 4 % 2 ≡ 1 = omega arith in
    let shift : (8 * length list + 4) % 4 ≡ 0 = omega arith in
    rw (append_assoc, e, count, addends, shift) (items_again first_record list rest fits_first k)

-- A record is read in parts.
use Rattle.std.proofs.Common.{◌≡◌, ℕ, ◌-◌, ◌/◌, ◌%◌, ◌≤◌, Bool, ◌&&◌, not, eqb, ℤ, List, [], ◌∷◌, ◌++◌, length, take, drop, get_or, Ok, refl, arith, append_assoc}
use Rattle.std.proofs.lemmas.List.{take_rest}
use Rattle.elf_format.specs.declared.crel.Crel.{Crel}
use Rattle.elf_format.specs.Crel.{has_bit, change, offset_rest, add_32, add_64, add_offset, flags_end, record_front, record_form, offset_form, change_form, offset_change, flags_of, from_to_32, from_to_64, same_z}

pub front_is : (h : Bool) (last : Crel) (rest b1 b2 b3 b4 : List ℕ) (byte high low unit unit2 o y i : ℕ) (s k a : Bool) (symbol kind addend d : ℤ)
    → offset_rest byte rest ≡ Ok (high, b1)
    → s ≡ has_bit byte 1 → change s b1 ≡ Ok (symbol, b2)
    → k ≡ has_bit byte 2 → change k b2 ≡ Ok (kind, b3)
    → a ≡ (h && has_bit byte 4) → change a b3 ≡ Ok (addend, b4)
    → unit ≡ flags_end h → low ≡ byte % 128 / unit → unit2 ≡ 128 / unit
    → o ≡ add_offset last.offset low high unit2 → y ≡ add_32 last.symbol symbol → i ≡ add_32 last.kind kind → d ≡ add_64 last.addend addend
    → record_front h last (byte ∷ rest) ≡ Ok (record { offset = o; symbol = y; kind = i; addend = d }, b4)
unfolding record_front
front_is h last rest b1 b2 b3 b4 byte high low unit unit2 o y i s k a symbol kind addend d e0 p1 e1 p2 e2 p3 e3 u l v f0 f1 f2 f3 =
    rw (e0, ← p1, e1, ← p2, e2, ← p3, e3, ← u, ← l, ← v, ← f0, ← f1, ← f2, ← f3) refl

first_and_rest : (bytes : List ℕ) → 1 ≤ length bytes → bytes ≡ get_or bytes 0 0 ∷ drop 1 bytes
first_and_rest [] h = absurd (omega arith)
first_and_rest (b ∷ bytes) h = refl

pub cons_form : (bytes : List ℕ) → 1 ≤ length bytes → bytes ≡ get_or bytes 0 0 ∷ take (length bytes - 1) (drop 1 bytes)
cons_form bytes h = rw take_rest (first_and_rest bytes h)

pub form_is : (last crel : Crel) (o0 o1 o2 o3 o4 : List ℕ) (f : ℕ) (a : Bool) (zs zk za : ℤ)
    → o1 ≡ o0 ++ offset_form (offset_change last crel) f
    → o2 ≡ o1 ++ change_form (not (eqb crel.symbol last.symbol)) zs
    → o3 ≡ o2 ++ change_form (not (eqb crel.kind last.kind)) zk
    → o4 ≡ o3 ++ change_form a za
    → f ≡ flags_of last crel → a ≡ not (same_z crel.addend last.addend)
    → zs ≡ from_to_32 last.symbol crel.symbol → zk ≡ from_to_32 last.kind crel.kind → za ≡ from_to_64 last.addend crel.addend
    → o4 ≡ o0 ++ record_form last crel
unfolding record_form
form_is last crel o0 o1 o2 o3 o4 f a zs zk za h1 h2 h3 h4 ef ea es ek ed =
    rw (h4, h3, h2, h1, ef, ea, es, ek, ed) (simp append_assoc)

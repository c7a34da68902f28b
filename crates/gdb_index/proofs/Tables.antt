-- A table in the middle of a longer list of bytes.
use Rattle.std.proofs.Common.{◌≡◌, ℕ, ◌+◌, ◌-◌, ◌≤◌, List, ◌++◌, length, take, sym, ap, ◌∙◌, arith}
use Rattle.std.proofs.lemmas.List.{length-append, length-take-le, take-take, take_at, append-nil, nil_from_length}
use Rattle.gdb_index.specs.steps.Writes.{Extends}

-- what stood before the offset of a write is as it was
before : (a b : List ℕ) (at : ℕ) (xs : List ℕ) → Extends a b at xs → at ≤ length a → take at b ≡ take at a
before a b at xs p within =
    sym (take-take at (at + length xs) b (omega arith)) ∙ ap (take at) p.front ∙ take_at (take at a) xs at (length-take-le at a within)

-- a table written into the front of bytes that were split after it
pub Extends-front : (a b front after behind table zeros : List ℕ) (at end : ℕ) → Extends a b at zeros → at ≤ end → end ≤ length b → front ≡ take end b → length after ≡ 0 → length table ≡ end - at → length behind + end ≡ length b
    → Extends a (take at front ++ (table ++ after) ++ behind) at table
Extends-front a b front after behind table zeros at end p order within is none len rest =
    let held : length front ≡ end = ap length is ∙ length-take-le end b within in
    let first : length (take at front) ≡ at = length-take-le at front (omega (arith, order, held)) in
    let whole : length (take at front ++ (table ++ after)) ≡ at + length table = omega (arith, length-append (take at front) (table ++ after), length-append table after, none, first) in
    record {
      same_len = omega (arith, length-append (take at front ++ (table ++ after)) behind, whole, len, order, rest) ∙ p.same_len;
      front =
          take_at (take at front ++ (table ++ after)) behind (at + length table) whole
          ∙ ap (λ l. take at front ++ (table ++ l)) (nil_from_length after none) ∙ ap (λ l. take at front ++ l) (append-nil table)
          ∙ ap (λ l. take at l ++ table) is ∙ ap (λ l. l ++ table) (take-take at end b order ∙ before a b at zeros p (omega (arith, order, within, p.same_len)));
    }

use Rattle.std.proofs.Common.{◌≡◌, ◌<◌, ℕ, List, [], ◌∷◌, suc, zero, length, take, sym, ap, refl, arith}
use Rattle.std.proofs.Math.ListN.{drop_of_length-le}
use Rattle.program_text.proofs.report.split_row.Goals as goal

-- the front of a short list is the list
take_short : (n : ℕ) (bytes : List ℕ) → length bytes < n → take n bytes ≡ bytes
take_short zero [] short = refl
take_short (suc n) [] short = refl
take_short zero (byte ∷ bytes) short = absurd (omega arith)
take_short (suc n) (byte ∷ bytes) short = ap (λ (l : List ℕ). byte ∷ l) (take_short n bytes (omega arith))

pub returns-then-bytes-lt-ROW-clause-row : goal.returns-then-bytes-lt-ROW-clause-row
returns-then-bytes-lt-ROW-clause-row c = sym (take_short _ c.args.bytes.now c.if-bytes-lt-ROW.true)

pub returns-then-bytes-lt-ROW-clause-after : goal.returns-then-bytes-lt-ROW-clause-after
returns-then-bytes-lt-ROW-clause-after c = sym (drop_of_length-le c.args.bytes.now {i = 32} (omega (arith, c.if-bytes-lt-ROW.true)))

-- The first piece of a text ends at the first byte of that value, or takes the whole text.
use Rattle.std.proofs.Common.{◌≡◌, ◌==◌, ◌+◌, ◌-◌, ◌<◌, ℕ, suc, zero, List, [], ◌∷◌, Bool, true, false, length, length-drop, take, drop, slice_index, sym, ap, ◌∙◌, arith, if◌then◌else◌}
use Rattle.std.proofs.Math.Seq.{take-length}
use Rattle.std.proofs.lemmas.Bool.{false_from_ne_true}
use Rattle.memchr.specs.Find.{Nowhere, NoneBefore, Passes, is_byte}
use Rattle.program_text.specs.Lines.{pieces_of, lengthen}

-- the pieces after a byte
pieces_at : (mark : ℕ) (none : List (List ℕ)) (byte : ℕ) (text : List ℕ) (b : Bool) → (byte == mark) ≡ b → pieces_of mark none (byte ∷ text) ≡ (if b then [] ∷ pieces_of mark none text else lengthen byte (pieces_of mark none text))
pieces_at mark none byte text b is = ap (λ v. if v then [] ∷ pieces_of mark none text else lengthen byte (pieces_of mark none text)) is

first_at : (mark : ℕ) (none : List (List ℕ)) (text : List ℕ) (end : ℕ) → end < length text → ((k : ℕ) → k < end → (slice_index text k == mark) ≡ false) → (slice_index text end == mark) ≡ true → pieces_of mark none text ≡ take end text ∷ pieces_of mark none (drop (end + 1) text)
first_at mark none [] end within before at = absurd (omega arith)
first_at mark none (byte ∷ text) zero within before at = pieces_at mark none byte text true at
first_at mark none (byte ∷ text) (suc end) within before at =
    pieces_at mark none byte text false (before 0 (omega arith))
    ∙ ap (lengthen byte) (first_at mark none text end (omega arith) (λ k lt. before (suc k) (omega arith)) at)
    ∙ ap (λ n. (byte ∷ take end text) ∷ pieces_of mark none (drop n (byte ∷ text))) (let later : suc (end + 1) ≡ suc end + 1 = omega arith in later)

only_one : (mark : ℕ) (none : List (List ℕ)) → ((byte : ℕ) → lengthen byte none ≡ (byte ∷ []) ∷ []) → (text : List ℕ) → 0 < length text → ((k : ℕ) → k < length text → (slice_index text k == mark) ≡ false) → pieces_of mark none text ≡ text ∷ []
only_one mark none alone [] some unmarked = absurd (omega arith)
only_one mark none alone (byte ∷ []) some unmarked = pieces_at mark none byte [] false (unmarked 0 (omega arith)) ∙ alone byte
only_one mark none alone (byte ∷ (next ∷ text)) some unmarked =
    pieces_at mark none byte (next ∷ text) false (unmarked 0 (omega arith))
    ∙ ap (lengthen byte) (only_one mark none alone (next ∷ text) (omega arith) (λ k lt. unmarked (suc k) (omega arith)))

-- what stands before the first such byte, and the pieces of what follows it
pub first_piece : (mark : ℕ) (none : List (List ℕ)) (text : List ℕ) (end : ℕ) → NoneBefore (Passes (is_byte mark) text) 0 (length text) end → Passes (is_byte mark) text end → pieces_of mark none text ≡ take end text ∷ pieces_of mark none (take (length text - (end + 1)) (drop (end + 1) text))
first_piece mark none text end first at =
    let rest : List ℕ = drop (end + 1) text in
    let whole : take (length text - (end + 1)) rest ≡ rest = ap (λ n. take n rest) (sym (length-drop (end + 1) text)) ∙ take-length rest in
    first_at mark none text end first.high (λ k lt. false_from_ne_true _ (first.before k (omega arith) lt)) at
    ∙ ap (λ (l : List ℕ). take end text ∷ pieces_of mark none l) (sym whole)

-- a text without such a byte, where a byte before the pieces of no text is that byte alone
pub only_piece : (mark : ℕ) (none : List (List ℕ)) → ((byte : ℕ) → lengthen byte none ≡ (byte ∷ []) ∷ []) → (text : List ℕ) → 0 < length text → Nowhere (Passes (is_byte mark) text) 0 (length text) → pieces_of mark none text ≡ text ∷ []
only_piece mark none alone text some unmarked = only_one mark none alone text some (λ k lt. false_from_ne_true _ (unmarked k (omega arith) lt))

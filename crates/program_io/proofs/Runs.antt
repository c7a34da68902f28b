-- Bytes that are appended run by run.
use Rattle.std.proofs.Common.{◌≡◌, ◌<◌, ◌≤◌, ◌+◌, ℕ, List, ◌++◌, length, take, drop, sym, ap, ◌∙◌, arith, length-drop, append_assoc}
use Rattle.std.proofs.lemmas.List.{take-append-drop, take-append-le, length-append}

-- the bytes after the first run are fewer
pub fewer : (n : ℕ) (after rest : List ℕ) → 0 < n → 0 < length rest → after ≡ drop n rest → length after < length rest
fewer n after rest above some is = omega (arith, ap (λ (l : List ℕ). length l) is, length-drop n rest)

-- a run that was appended
pub run_appended : (n : ℕ) (out new run after rest whole : List ℕ) → run ≡ take n rest → after ≡ drop n rest → new ≡ out ++ run → out ++ rest ≡ whole → new ++ after ≡ whole
run_appended n out new run after rest whole run_is after_is new_is before =
    ap (λ (l : List ℕ). l ++ after) new_is
    ∙ append_assoc out run after
    ∙ ap (λ (l : List ℕ). out ++ (l ++ after)) run_is
    ∙ ap (λ (l : List ℕ). out ++ (take n rest ++ l)) after_is
    ∙ ap (λ (l : List ℕ). out ++ l) (take-append-drop n rest)
    ∙ before

-- what stood before is kept
pub still_kept : (n : ℕ) (out new run : List ℕ) (first : List ℕ) → n ≤ length out → new ≡ out ++ run → take n out ≡ first → take n new ≡ first
still_kept n out new run first within new_is kept = ap (λ (l : List ℕ). take n l) new_is ∙ take-append-le n out run within ∙ kept

-- a run and the bytes after it are as many as the bytes before
pub parts_add_up : (n : ℕ) (run after rest : List ℕ) → run ≡ take n rest → after ≡ drop n rest → length run + length after ≡ length rest
parts_add_up n run after rest run_is after_is =
    sym (length-append run after)
    ∙ ap (λ (l : List ℕ). length (l ++ after)) run_is
    ∙ ap (λ (l : List ℕ). length (take n rest ++ l)) after_is
    ∙ ap (λ (l : List ℕ). length l) (take-append-drop n rest)

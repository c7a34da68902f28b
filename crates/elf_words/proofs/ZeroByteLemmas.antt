-- The first zero byte, as a search for it gives it.
use Rattle.std.proofs.Common.{◌≡◌, ℕ, ◌<◌, Bool, ltb, eqb, List, length, Option, Some, None, sym, ap, ◌∙◌, arith}
use Rattle.std.specs.List.{position, position_or_len}
use Rattle.std.proofs.lemmas.Bool.{false_from_ne_true, cond-true, cond-false, lt-ltb, ltb-true}
use Rattle.std.proofs.lemmas.List.Sums.{position_or_len_is}
use Rattle.memchr.specs.Find.{IsFirstByte, is_byte}

pub is_position : (hay : List ℕ) (r : Option ℕ) → IsFirstByte (is_byte 0) hay r → r ≡ position (λ byte. eqb byte 0) hay
is_position hay None none =
    let p : ℕ → Bool = λ byte. eqb byte 0 in
    let at_end : position_or_len p hay ≡ length hay = position_or_len_is p hay (length hay) 0 (omega arith) (λ k l. false_from_ne_true _ (none k (omega arith) l)) (λ l. absurd (omega arith)) in
    sym (cond-false (ltb (position_or_len p hay) (length hay)) (Some (position_or_len p hay)) None (false_from_ne_true _ (λ t. omega (arith, at_end, ltb-true _ _ t))))
is_position hay (Some k) first =
    let p : ℕ → Bool = λ byte. eqb byte 0 in
    let below : k < length hay = first.0.high in
    let here : position_or_len p hay ≡ k = position_or_len_is p hay k 0 (omega arith) (λ j l. false_from_ne_true _ (first.0.before j (omega arith) l)) (λ l. first.1) in
    sym (cond-true (ltb (position_or_len p hay) (length hay)) (Some (position_or_len p hay)) None (lt-ltb _ _ (omega (arith, here, below))) ∙ ap (λ n. Some n) here)

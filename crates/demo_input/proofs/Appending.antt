-- One append after another.
use Rattle.std.proofs.Common.{◌≡◌, ℕ, zero, suc, ◌+◌, List, [], ◌∷◌, ◌++◌, map, sym, ap, ◌∙◌, arith}
use Rattle.std.specs.List.{flat_map, range_with_len}
use Rattle.std.proofs.lemmas.List.{append-nil, append_assoc, map-append}
use Rattle.std.proofs.lemmas.List.Concat.{flat_map-append}

pub and_then : (start before after a b : List ℕ) → before ≡ start ++ a → after ≡ before ++ b → after ≡ start ++ (a ++ b)
and_then start before after a b p q = q ∙ ap (λ s. s ++ b) p ∙ append_assoc start a b

-- of a piece that another spelling has
pub and_then_same : (start before after a b d : List ℕ) → before ≡ start ++ a → after ≡ before ++ b → b ≡ d → after ≡ start ++ (a ++ d)
and_then_same start before after a b d p q e = and_then start before after a d p (q ∙ ap (λ x. before ++ x) e)

range_more : (a n : ℕ) → range_with_len a (suc n) ≡ range_with_len a n ++ (a + n) ∷ []
range_more a zero =
    let here : a ≡ a + 0 = omega arith in
    ap (λ i. i ∷ []) here
range_more a (suc n) =
    let here : a + 1 + n ≡ a + suc n = omega arith in
    ap (λ l. a ∷ l) (range_more (a + 1) n) ∙ ap (λ i. a ∷ (range_with_len (a + 1) n ++ i ∷ [])) here

up_to_next : (n : ℕ) → range_with_len 0 (n + 1) ≡ range_with_len 0 n ++ n ∷ []
up_to_next n =
    let next : n + 1 ≡ suc n = omega arith in
    let here : 0 + n ≡ n = omega arith in
    ap (range_with_len 0) next ∙ range_more 0 n ∙ ap (λ i. range_with_len 0 n ++ i ∷ []) here

-- an item for each number, and one more
pub mapped_more : {X : Type 0} (f : ℕ → X) (n : ℕ) (before after : List X) → before ≡ map f (range_with_len 0 n) → after ≡ before ++ f n ∷ [] → after ≡ map f (range_with_len 0 (n + 1))
mapped_more f n before after p q =
    q ∙ ap (λ l. l ++ f n ∷ []) p ∙ sym (map-append f (range_with_len 0 n) (n ∷ [])) ∙ ap (map f) (sym (up_to_next n))

-- a piece for each number, and one more
pub pieces_more : (f : ℕ → List ℕ) (n : ℕ) (before after : List ℕ) → before ≡ flat_map f (range_with_len 0 n) → after ≡ before ++ f n → after ≡ flat_map f (range_with_len 0 (n + 1))
pieces_more f n before after p q =
    q ∙ ap (λ l. l ++ f n) p ∙ ap (λ l. flat_map f (range_with_len 0 n) ++ l) (sym (append-nil (f n))) ∙ sym (flat_map-append f (range_with_len 0 n) (n ∷ [])) ∙ ap (flat_map f) (sym (up_to_next n))

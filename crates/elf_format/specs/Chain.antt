-- Steps that may be refused: the first refusal is the answer.
use Rattle.std.specs.Prelude.{List, [], ◌∷◌, Result, Ok, Err}

-- a step after a step
infixl 10 ◌>>=◌
abbrev pub ◌>>=◌ : {A B E : Type 0} → Result A E → (A → Result B E) → Result B E
(Ok x) >>= f = f x
(Err e) >>= f = Err e

-- what each item gives, in order, or the first refusal
abbrev pub each_ok : {X Y E : Type 0} → (X → Result Y E) → List X → Result (List Y) E
each_ok f [] = Ok []
each_ok f (x ∷ xs) = f x >>= (λ y. each_ok f xs >>= (λ ys. Ok (y ∷ ys)))

-- a function of what was not refused
abbrev pub on_ok : {X Y E : Type 0} → (X → Y) → Result X E → Result Y E
on_ok f (Ok x) = Ok (f x)
on_ok f (Err e) = Err e

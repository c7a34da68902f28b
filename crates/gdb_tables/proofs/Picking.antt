-- What passes tests, and images of it.
use Rattle.std.proofs.Common.{◌≡◌, suc, ◌≤◌, Bool, true, false, ◌&&◌, List, [], ◌∷◌, length, map, refl, sym, ap, ◌∙◌, arith}
use Rattle.std.specs.List.{All, filter}

module _ {X Y : Type 0} where
  -- the images of what passes a test
  abbrev pub picks : (X → Bool) → (X → Y) → List X → List Y
  picks test f xs = map f (filter test xs)

  pub two_tests : (a b : X → Bool) (f : X → Y) (xs : List X) → map f (filter a (filter b xs)) ≡ picks (λ x. b x && a x) f xs
  two_tests a b f [] = refl
  two_tests a b f (x ∷ xs) = by (b x) (a x) refl refl (two_tests a b f xs) where
    by : (p q : Bool) → b x ≡ p → a x ≡ q → map f (filter a (filter b xs)) ≡ picks (λ y. b y && a y) f xs → map f (filter a (filter b (x ∷ xs))) ≡ picks (λ y. b y && a y) f (x ∷ xs)
    by true true e d rest = rw (e, d) (ap (λ l. f x ∷ l) rest)
    by true false e d rest = rw (e, d) rest
    by false q e d rest = rw e rest

  -- tests and images that agree on what passes another test
  pub picks_alike : (only s t : X → Bool) (f h : X → Y) → ((x : X) → only x ≡ true → s x ≡ t x) → ((x : X) → only x ≡ true → f x ≡ h x) → (xs : List X) → picks s f (filter only xs) ≡ picks t h (filter only xs)
  picks_alike only s t f h tests images [] = refl
  picks_alike only s t f h tests images (x ∷ xs) = by (only x) refl (picks_alike only s t f h tests images xs) where
    here : (b : Bool) → s x ≡ b → t x ≡ b → f x ≡ h x → picks s f (filter only xs) ≡ picks t h (filter only xs) → picks s f (x ∷ filter only xs) ≡ picks t h (x ∷ filter only xs)
    here true e d is rest = rw (e, d) (ap (λ y. y ∷ picks s f (filter only xs)) is ∙ ap (λ l. h x ∷ l) rest)
    here false e d is rest = rw (e, d) rest

    by : (b : Bool) → only x ≡ b → picks s f (filter only xs) ≡ picks t h (filter only xs) → picks s f (filter only (x ∷ xs)) ≡ picks t h (filter only (x ∷ xs))
    by true e rest = rw e (here (s x) refl (sym (tests x e)) (images x e) rest)
    by false e rest = rw e rest

  pub picks_none : (only s : X → Bool) (f : X → Y) → ((x : X) → only x ≡ true → s x ≡ false) → (xs : List X) → picks s f (filter only xs) ≡ []
  picks_none only s f fails [] = refl
  picks_none only s f fails (x ∷ xs) = by (only x) refl (picks_none only s f fails xs) where
    by : (b : Bool) → only x ≡ b → picks s f (filter only xs) ≡ [] → picks s f (filter only (x ∷ xs)) ≡ []
    by true e rest = rw (e, fails x e) rest
    by false e rest = rw e rest

module _ {X : Type 0} where
  pub passes_same : (s t : X → Bool) (xs : List X) → All (λ x. s x ≡ t x) xs → filter s xs ≡ filter t xs
  passes_same s t [] h = refl
  passes_same s t (x ∷ xs) h = by (s x) refl (h 0 x (omega arith)) (passes_same s t xs (λ k d l. h (suc k) d (omega arith))) where
    by : (b : Bool) → s x ≡ b → s x ≡ t x → filter s xs ≡ filter t xs → filter s (x ∷ xs) ≡ filter t (x ∷ xs)
    by true e d rest = rw (sym d, e) (ap (λ l. x ∷ l) rest)
    by false e d rest = rw (sym d, e) rest

  pub passes_none : (s : X → Bool) (xs : List X) → All (λ x. s x ≡ false) xs → filter s xs ≡ []
  passes_none s [] h = refl
  passes_none s (x ∷ xs) h = rw (h 0 x (omega arith)) (passes_none s xs (λ k d l. h (suc k) d (omega arith)))

  pub passes_all : (s : X → Bool) (xs : List X) → All (λ x. s x ≡ true) xs → filter s xs ≡ xs
  passes_all s [] h = refl
  passes_all s (x ∷ xs) h = rw (h 0 x (omega arith)) (ap (λ l. x ∷ l) (passes_all s xs (λ k d l. h (suc k) d (omega arith))))

  pub passes_few : (s : X → Bool) (xs : List X) → length (filter s xs) ≤ length xs
  passes_few s [] = omega arith
  passes_few s (x ∷ xs) = by (s x) refl (passes_few s xs) where
    by : (b : Bool) → s x ≡ b → length (filter s xs) ≤ length xs → length (filter s (x ∷ xs)) ≤ length (x ∷ xs)
    by true e rest = rw e (omega (arith, rest))
    by false e rest = rw e (omega (arith, rest))

-- Names by index, as they are put into a list one by one.
use Rattle.std.proofs.Common.{◌≡◌, ℕ, zero, suc, ◌+◌, ◌-◌, ◌<◌, Bool, true, false, ◌==◌, if◌then◌else◌, List, [], ◌∷◌, ◌++◌, length, replicate, map, set, Option, Some, None, option_map, Result, Ok, Err, refl, ap, sym, ◌∙◌, arith, inl, inr}
use Rattle.std.proofs.lemmas.Bool.Decides.{eqb_tells}
use Rattle.std.proofs.lemmas.Grind.{common_steps}
use Rattle.std.proofs.lemmas.List.{map-append, map-set, length-map, length-set, length-append, length-replicate}
use Rattle.std.specs.List.{range_with_len}
use Rattle.std.specs.Option.{option_or, option_flatten}
use Rattle.std.specs.Result.{result_err}
use Rattle.elf_format.proofs.SearchLemmas.{or_none}
use Rattle.elf_format.specs.Chain.{◌>>=◌, each_ok, on_ok}
use Rattle.elf_format.specs.Symbol.{last_that}
use Rattle.elf_format.specs.VersionName.{IndexedName, VersionFault, name_of_index}
use Rattle.elf_versions.specs.declared.error.VersionError.{VersionError}
use Rattle.elf_versions.specs.declared.error.VersionError.TheVariants.{Elf, BadIndex, NoMemory}
use Rattle.elf_versions.specs.Cause.{IsVersionFault}
use Rattle.elf_versions.specs.steps.Names.{name_at, put_name, put_names, names_after}

pub name_at_none : (n i : ℕ) → name_at (replicate n None) i ≡ None
name_at_none zero i = refl
name_at_none (suc n) zero = refl
name_at_none (suc n) (suc i) = name_at_none n i

flat : (v : Option (List ℕ)) → option_flatten (Some v) ≡ v
flat None = refl
flat (Some n) = refl

name_at_set : (names : List (Option (List ℕ))) (i : ℕ) (v : Option (List ℕ)) → i < length names → name_at (set names i v) i ≡ v
name_at_set [] i v h = absurd (omega arith)
name_at_set (x ∷ xs) zero v h = flat v
name_at_set (x ∷ xs) (suc i) v h = name_at_set xs i v (omega arith)

name_at_kept : (names : List (Option (List ℕ))) (i j : ℕ) (v : Option (List ℕ)) → (i ≡ j → ⊥) → name_at (set names i v) j ≡ name_at names j
name_at_kept [] i j v h = refl
name_at_kept (x ∷ xs) zero zero v h = absurd (h refl)
name_at_kept (x ∷ xs) zero (suc j) v h = refl
name_at_kept (x ∷ xs) (suc i) zero v h = refl
name_at_kept (x ∷ xs) (suc i) (suc j) v h = name_at_kept xs i j v (λ e. h (ap suc e))

name_at_grown : (names : List (Option (List ℕ))) (n i : ℕ) → name_at (names ++ replicate n None) i ≡ name_at names i
name_at_grown [] n i = name_at_none n i
name_at_grown (x ∷ xs) n zero = refl
name_at_grown (x ∷ xs) n (suc i) = name_at_grown xs n i

grown_length : (names : List (Option (List ℕ))) (i : ℕ) → i < length (names ++ replicate (suc i - length names) None)
grown_length names i = omega (arith, length-append names (replicate (suc i - length names) None), length-replicate {A = Option (List ℕ)} (suc i - length names) None)

-- a name that is put is there, and no other changes
pub name_at_put : (names : List (Option (List ℕ))) (i : ℕ) (name : List ℕ) (j : ℕ) → name_at (put_name names i name) j ≡ (if i == j then Some name else name_at names j)
name_at_put names i name j =
    let grown : List (Option (List ℕ)) = names ++ replicate (suc i - length names) None in
    elim (eqb_tells i j) [
      | inl same ↦ rw same.0 (ap (name_at (set grown i (Some name))) (sym same.1) ∙ name_at_set grown i (Some name) (grown_length names i))
      | inr other ↦ rw other.0 (name_at_kept grown i j (Some name) other.1 ∙ name_at_grown names (suc i - length names) j)
    ]

pub length_put : (names : List (Option (List ℕ))) (i : ℕ) (name : List ℕ) → i < length names → length (put_name names i name) ≡ length names
length_put names i name h =
    let grown : List (Option (List ℕ)) = names ++ replicate (suc i - length names) None in
    omega (arith, length-set grown i (Some name), length-append names (replicate (suc i - length names) None), length-replicate {A = Option (List ℕ)} (suc i - length names) None)

choice : (later here : Option IndexedName) (old : Option (List ℕ)) (b : Bool) (p : IndexedName)
    → option_or (option_map (λ (q : IndexedName). q.1) later) (if b then Some p.1 else old)
    ≡ option_or (option_map (λ (q : IndexedName). q.1) (option_or later (if b then Some p else None))) old
choice None here old true p = refl
choice None here old false p = refl
choice (Some q) here old b p = refl

-- a name that is put first counts as the first of those that are put
pub after_put : {X : Type 0} (index : X → ℕ) (items : List X) (names : List (Option (List ℕ))) (p : IndexedName) (ps : List IndexedName)
    → names_after index items (put_name names p.0 p.1) ps ≡ names_after index items names (p ∷ ps)
after_put index [] names p ps = refl
after_put index (x ∷ xs) names p ps =
    let here : option_or (name_of_index (index x) ps) (name_at (put_name names p.0 p.1) (index x)) ≡ option_or (name_of_index (index x) (p ∷ ps)) (name_at names (index x)) =
    ap (λ o. option_or (name_of_index (index x) ps) o) (name_at_put names p.0 p.1 (index x))
    ∙ choice (last_that (λ (q : IndexedName). q.0 == index x) ps) None (name_at names (index x)) (p.0 == index x) p in
    ap (λ o. o ∷ names_after index xs (put_name names p.0 p.1) ps) here ∙ ap (λ os. option_or (name_of_index (index x) (p ∷ ps)) (name_at names (index x)) ∷ os) (after_put index xs names p ps)

pub after_put_all : {X : Type 0} (index : X → ℕ) (items : List X) (names : List (Option (List ℕ))) (ps qs : List IndexedName)
    → names_after index items (put_names names ps) qs ≡ names_after index items names (ps ++ qs)
after_put_all index items names [] qs = refl
after_put_all index items names (p ∷ ps) qs = after_put_all index items (put_name names p.0 p.1) ps qs ∙ after_put index items names p (ps ++ qs)

-- with no name yet, only those that are put count
pub after_none : {X : Type 0} (index : X → ℕ) (items : List X) (n : ℕ) (ps : List IndexedName)
    → names_after index items (replicate n None) ps ≡ map (λ x. name_of_index (index x) ps) items
after_none index [] n ps = refl
after_none index (x ∷ xs) n ps =
    let here : option_or (name_of_index (index x) ps) (name_at (replicate n None) (index x)) ≡ name_of_index (index x) ps =
    ap (λ o. option_or (name_of_index (index x) ps) o) (name_at_none n (index x)) ∙ or_none (name_of_index (index x) ps) in
    ap (λ o. o ∷ names_after index xs (replicate n None) ps) here ∙ ap (λ os. name_of_index (index x) ps ∷ os) (after_none index xs n ps)

-- the names at all indexes are the list
all_from : (front names : List (Option (List ℕ))) (at : ℕ) → length front ≡ at → map (name_at (front ++ names)) (range_with_len at (length names)) ≡ names
all_from front [] at e = refl
all_from front (x ∷ xs) at e =
    let moved : front ++ x ∷ xs ≡ (front ++ x ∷ []) ++ xs = grind (arith, common_steps) in
    let first : name_at (front ++ x ∷ xs) at ≡ x = at_end front x xs at e in
    ap (λ o. o ∷ map (name_at (front ++ x ∷ xs)) (range_with_len (at + 1) (length xs))) first
    ∙ ap (λ (whole : List (Option (List ℕ))). x ∷ map (name_at whole) (range_with_len (at + 1) (length xs))) moved
    ∙ ap (λ os. x ∷ os) (all_from (front ++ x ∷ []) xs (at + 1) (grind (arith, common_steps))) where
      at_end : (front : List (Option (List ℕ))) (x : Option (List ℕ)) (xs : List (Option (List ℕ))) (at : ℕ) → length front ≡ at → name_at (front ++ x ∷ xs) at ≡ x
      at_end [] x xs zero e = flat x
      at_end [] x xs (suc at) e = absurd (omega (arith, e))
      at_end (y ∷ ys) x xs zero e = absurd (omega (arith, e))
      at_end (y ∷ ys) x xs (suc at) e = at_end ys x xs at (omega (arith, e))

pub after_all : (names : List (Option (List ℕ))) (count : ℕ) → length names ≡ count → names_after (λ i. i) (range_with_len 0 count) names [] ≡ names
after_all names count e = rw (sym e) (all_from [] names 0 refl)

pub none_are_shown : {B : Type 0} (see : B → List ℕ) (n : ℕ) → map (option_map see) (replicate n None) ≡ replicate n None
none_are_shown see zero = refl
none_are_shown see (suc n) = ap (λ l. None ∷ l) (none_are_shown see n)

-- what contracts see of a list that grows
pub put_shown : {B : Type 0} (see : B → List ℕ) (names : List (Option B)) (i count len : ℕ) (name : B) → count ≡ suc i → len ≡ length names
    → map (option_map see) (set (names ++ replicate (count - len) None) i (Some name)) ≡ put_name (map (option_map see) names) i (see name)
put_shown see names i count len name p q =
    rw (p, q) (map-set (option_map see) (names ++ replicate (suc i - length names) None) i (Some name)
    ∙ ap (λ (l : List (Option (List ℕ))). set l i (Some (see name))) (map-append (option_map see) names (replicate (suc i - length names) None)
    ∙ ap (λ (l : List (Option (List ℕ))). map (option_map see) names ++ l) (none_are_shown see (suc i - length names)
    ∙ ap (λ n. replicate (suc i - n) None) (sym (length-map names (option_map see))))))

-- one more item of a list of which each gives a value or a refusal
pub each_step : {X Y E Z : Type 0} (f : X → Result Y E) (x : X) (y : Y) (xs : List X) (g h : List Y → Z)
    → f x ≡ Ok y → ((ys : List Y) → h ys ≡ g (y ∷ ys)) → on_ok h (each_ok f xs) ≡ on_ok g (each_ok f (x ∷ xs))
each_step {Y = Y} {E = E} f x y xs g h e same = rw e (step (each_ok f xs)) where
  step : (r : Result (List Y) E) → on_ok h r ≡ on_ok g (Ok y >>= (λ z. r >>= (λ ys. Ok (z ∷ ys))))
  step (Ok ys) = ap (λ z. Ok z) (same ys)
  step (Err err) = refl

pub on_ok_same : {X Y E : Type 0} (f g : X → Y) (r : Result X E) → ((x : X) → f x ≡ g x) → on_ok f r ≡ on_ok g r
on_ok_same f g (Ok x) h = ap (λ y. Ok y) (h x)
on_ok_same f g (Err e) h = refl

pub then_ok : {X Y E : Type 0} (f : X → Y) (r : Result X E) → (r >>= (λ x. Ok (f x))) ≡ on_ok f r
then_ok f (Ok x) = refl
then_ok f (Err e) = refl

-- the cause of the first refusal is that of the whole
pub fault_stays : {A B : Type 0} (r : Result A VersionFault) (e : VersionError) (k : A → Result B VersionFault) → IsVersionFault (result_err r) e → IsVersionFault (result_err (r >>= k)) e
fault_stays (Err fault) e k h = h
fault_stays (Ok x) (Elf error) k h = absurd (cc)
fault_stays (Ok x) (BadIndex index) k h = absurd (cc)
fault_stays (Ok x) NoMemory k h = tt

pub fault_seen : {A B : Type 0} (r : Result A VersionFault) (e : VersionError) (g : A → B) → IsVersionFault (result_err r) e → IsVersionFault (result_err (on_ok g r)) e
fault_seen (Err fault) e g h = h
fault_seen (Ok x) e g h = h

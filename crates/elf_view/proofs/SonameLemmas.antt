-- Names in a list of items, each with a name as a part.
use Rattle.std.proofs.Common.{◌≡◌, ℕ, Bool, true, false, cond, ◌||◌, List, [], ◌∷◌, map, refl, ap, sym, ◌∙◌}
use Rattle.std.proofs.lemmas.Slice.Eq.{bytes_eq-Decides}
use Rattle.std.specs.List.{list_any}
use Rattle.std.specs.Str.{bytes_eq}
use Rattle.elf_view.specs.Sonames.{is_one_of}

pub any_by_part : {X Y : Type 0} (f : Y → Bool) (part : X → Y) (xs : List X) → list_any f (map part xs) ≡ list_any (λ x. f (part x)) xs
any_by_part f part [] = refl
any_by_part f part (x ∷ xs) = ap (λ t. f (part x) || t) (any_by_part f part xs)

same_either_way : (t here : Bool) → (t ≡ true → here ≡ true) → (here ≡ true → t ≡ true) → t ≡ here
same_either_way true here f g = sym (f refl)
same_either_way false true f g = g refl
same_either_way false false f g = refl

symmetric : (a b : List ℕ) → bytes_eq a b ≡ bytes_eq b a
symmetric a b =
    same_either_way (bytes_eq a b) (bytes_eq b a)
    (λ e. (bytes_eq-Decides b a).1 (sym ((bytes_eq-Decides a b).0 e)))
    (λ e. (bytes_eq-Decides a b).1 (sym ((bytes_eq-Decides b a).0 e)))

moved : (t here later old : Bool) → t ≡ here → (cond t true old || later) ≡ (old || (here || later))
moved true true later true e = refl
moved true true later false e = refl
moved false false later old e = refl
moved true false later old e = absurd (cc e)
moved false true later old e = absurd (cc e)

-- an item that was inserted is one of the items, and no longer one that follows
pub inserted : {X : Type 0} (part : X → List ℕ) (old new before after : List X) (value : X) (name : List ℕ) (whole : Bool)
    → list_any (λ x. bytes_eq name (part x)) new ≡ cond (bytes_eq (part value) name) true (list_any (λ x. bytes_eq name (part x)) old)
    → before ≡ value ∷ after → (is_one_of (map part old) name || is_one_of (map part before) name) ≡ whole
    → (is_one_of (map part new) name || is_one_of (map part after) name) ≡ whole
inserted part old new before after value name whole put step known =
    let now_is : is_one_of (map part new) name ≡ cond (bytes_eq (part value) name) true (is_one_of (map part old) name) =
    any_by_part (bytes_eq name) part new ∙ put ∙ ap (λ t. cond (bytes_eq (part value) name) true t) (sym (any_by_part (bytes_eq name) part old)) in
    ap (λ t. t || is_one_of (map part after) name) now_is
    ∙ moved (bytes_eq (part value) name) (bytes_eq name (part value)) (is_one_of (map part after) name) (is_one_of (map part old) name) (symmetric (part value) name)
    ∙ ap (λ xs. is_one_of (map part old) name || is_one_of (map part xs) name) (sym step) ∙ known

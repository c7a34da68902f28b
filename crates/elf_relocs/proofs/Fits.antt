-- The records of a list have their ranges.
use Rattle.std.proofs.Common.{◌≡◌, ℕ, suc, ◌+◌, ◌<◌, ◌≤◌, ◌^◌, List, [], ◌∷◌, ◌++◌, length, map, take, drop, get_or, append-nil, Ok, refl, ap, sym, ◌∙◌, arith}
use Rattle.std.proofs.Math.Seq.{take-suc}
use Rattle.std.proofs.lemmas.List.{length-map, drop_all, take_all}
use Rattle.std.specs.List.{AllByRecursion}
use Rattle.elf_format.specs.declared.crel.Crel.{Crel}
use Rattle.elf_format.specs.Crel.{IsCrel, record_forms, list_form, crel_list}
use Rattle.elf_format.proofs.CrelLemmas.{list_again}

all_put : {X : Type 0} (P : X → Type 0) (xs : List X) (x : X) → AllByRecursion P xs → P x → AllByRecursion P (xs ++ x ∷ [])
all_put P [] x h k = (k, tt)
all_put P (y ∷ xs) x h k = (h.0, all_put P xs x h.1 k)

map_put : {X Y : Type 0} (f : X → Y) (xs : List X) (x : X) → map f (xs ++ x ∷ []) ≡ map f xs ++ f x ∷ []
map_put f [] x = refl
map_put f (y ∷ xs) x = ap (λ ys. f y ∷ ys) (map_put f xs x)

pub entry_more : {X Y : Type 0} (P : Y → Type 0) (f : X → Y) (xs : List X) (i : ℕ) (d : X) (y : Y) → i < length xs → AllByRecursion P (map f (take i xs)) → y ≡ f (get_or xs i d) → P y → AllByRecursion P (map f (take (i + 1) xs))
entry_more P f xs i d y lt h e k =
    let one : i + 1 ≡ suc i = omega arith in
    rw (one, take-suc xs i d lt, map_put f (take i xs) (get_or xs i d), ← e) (all_put P (map f (take i xs)) y h k)

pub decoded : {X : Type 0} (f : X → Crel) (xs : List X) (i : ℕ) (bytes : List ℕ) (last : Crel) → length xs < 2 ^ 61 → length xs ≤ i
    → bytes ++ record_forms last (map f (drop i xs)) ≡ list_form (map f xs) → AllByRecursion IsCrel (map f (take i xs)) → crel_list bytes ≡ Ok (map f xs)
decoded f xs i bytes last small end h k =
    let none : drop i xs ≡ [] = drop_all i xs end in
    let all : take i xs ≡ xs = take_all i xs end in
    let e : bytes ≡ list_form (map f xs) = sym (append-nil bytes) ∙ (rw none at h) in
    let short : length (map f xs) < 2 ^ 61 = rw length-map small in
    ap crel_list (e ∙ sym (append-nil (list_form (map f xs)))) ∙ list_again (map f xs) [] short (rw all at k)

-- There is one list of published names.
use Rattle.std.proofs.Common.{◌≡◌, ◌≢◌, ℕ, suc, List, [], ◌∷◌, map, refl, ap, sym, ◌∙◌, subst, arith}
use Rattle.std.specs.List.{All}
use Rattle.gdb_index_format.specs.Named.{Named, names_in, PublishedNamesAreOne}
use Rattle.gdb_index_format.specs.Published.{Pair, IsVectorOf}
use Rattle.gdb_index_format.proofs.WordLists.{one_list_of_words}

abbrev pub HaveVectors : List Pair → List Named → Type 0
HaveVectors ps ns = All (λ n. (n.words ≢ []) × IsVectorOf n.name ps n.words) ns

named_as : List ℕ → List ℕ → Named
named_as name words = record { name = name; words = words }

same_named : (ps : List Pair) (n m : Named) → n.name ≡ m.name → IsVectorOf n.name ps n.words → IsVectorOf m.name ps m.words → n ≡ m
unfolding named_as
same_named ps n m name left right =
    let words : n.words ≡ m.words = one_list_of_words n.name ps n.words m.words left (subst (λ (k : List ℕ). IsVectorOf k ps m.words) (sym name) right) in
    ap (λ k. named_as k n.words) name ∙ ap (λ w. named_as m.name w) words

head_of : {X : Type 0} (d : X) → List X → X
head_of d [] = d
head_of d (x ∷ xs) = x

tail_of : {X : Type 0} → List X → List X
tail_of [] = []
tail_of (x ∷ xs) = xs

pub same_names : (ps : List Pair) (ns ms : List Named) → names_in ns ≡ names_in ms → HaveVectors ps ns → HaveVectors ps ms → ns ≡ ms
unfolding head_of tail_of
same_names ps [] [] order left right = refl
same_names ps [] (m ∷ ms) order left right = cc
same_names ps (n ∷ ns) [] order left right = cc
same_names ps (n ∷ ns) (m ∷ ms) order left right =
    let first : n.name ≡ m.name = ap (head_of n.name) order in
    let others : names_in ns ≡ names_in ms = ap (λ (l : List (List ℕ)). tail_of l) order in
    let one : n ≡ m = same_named ps n m first (left 0 n (omega arith)).1 (right 0 m (omega arith)).1 in
    let rest : ns ≡ ms = same_names ps ns ms others (λ k d below. left (suc k) d (omega (arith, below))) (λ k d below. right (suc k) d (omega (arith, below))) in
    ap (λ (x : Named). x ∷ ns) one ∙ ap (λ (l : List Named). m ∷ l) rest

pub published_names_are_one_lem : PublishedNamesAreOne
published_names_are_one_lem ps ns ms p q = same_names ps ns ms (p.order ∙ sym q.order) p.names.words q.names.words

-- The probe answers for every byte string as the objects publish it.
use Rattle.std.proofs.Common.{◌≡◌, ◌⊎◌, ℕ, zero, suc, ◌<◌, false, List, [], ◌∷◌, length, get_or, map, refl, sym, ap, subst, ◌∙◌, arith, inl, inr}
use Rattle.std.specs.List.{filter}
use Rattle.std.specs.Str.{bytes_eq}
use Rattle.std.proofs.lemmas.Slice.Eq.{bytes_eq-Decides}
use Rattle.std.proofs.lemmas.Bool.{cases_Bool, cond-false, false_from_ne_true, both_ways}
use Rattle.gdb_index_format.specs.Published.{Pair, elements_in_order}
use Rattle.gdb_index_format.specs.Probe.{probe}
use Rattle.gdb_index_format.specs.Named.{Named, IsAnswer, AnswersAll, IsNamed, AreNamesOf}
use Rattle.gdb_index.proofs.Holding.{Answered}

-- a name is one of the list, or none of them
find_name : (ns : List Named) (name : List ℕ) → ((i : ℕ) × IsNamed ns name i) ⊎ ((i : ℕ) (d : Named) → i < length ns → (get_or ns i d).name ≡ name → ⊥)
find_name [] name = inr (λ i d l e. omega arith)
find_name (n ∷ ns) name =
    elim (cases_Bool (bytes_eq n.name name)) [
      | inl same ↦ inl (0, (omega arith, λ d. (bytes_eq-Decides n.name name).0 same))
      | inr differ ↦ elim (find_name ns name) [
        | inl later ↦ inl (suc later.0, (omega (arith, later.1.0), later.1.1))
        | inr never ↦ inr (λ i d l e. nowhere n ns name differ never i d l e)
      ]
    ] where
      nowhere : (n : Named) (ns : List Named) (name : List ℕ) → bytes_eq n.name name ≡ false → ((i : ℕ) (d : Named) → i < length ns → (get_or ns i d).name ≡ name → ⊥) → (i : ℕ) (d : Named) → i < length (n ∷ ns) → (get_or (n ∷ ns) i d).name ≡ name → ⊥
      nowhere n ns name differ never zero d l e = both_ways (bytes_eq n.name name) differ ((bytes_eq-Decides n.name name).1 e)
      nowhere n ns name differ never (suc i) d l e = never i d (omega arith) e

none_published : (ps : List Pair) (name : List ℕ) → ((k : ℕ) (d : Pair) → k < length ps → (get_or ps k d).name ≡ name → ⊥) → elements_in_order name ps ≡ []
none_published [] name never = refl
none_published (p ∷ ps) name never =
    ap (map (λ (x : Pair). x.word)) (cond-false (bytes_eq p.name name) (p ∷ filter (λ x. bytes_eq x.name name) ps) (filter (λ x. bytes_eq x.name name) ps)
    (false_from_ne_true (bytes_eq p.name name) (λ e. never 0 p (omega arith) ((bytes_eq-Decides p.name name).0 e))))
    ∙ none_published ps name (λ k d l e. never (suc k) d (omega arith) e)

pub answers_all : (b : List ℕ) (ns : List Named) (ps : List Pair) → Answered b ns → AreNamesOf ps ns → AnswersAll b ps
answers_all b ns ps h names name =
    let d : Named = record { name = []; words = [] } in
    elim (find_name ns name) [
      | inl found ↦
          let i = found.0 in
          let is : (get_or ns i d).name ≡ name = found.1.1 d in
          let words = names.words i d found.1.0 in
          subst (λ n. IsAnswer ps n (probe b n).answer) is
          (subst (λ r. IsAnswer ps (get_or ns i d).name r) (sym (h.found i d found.1.0).answer) words)
      | inr never ↦
          subst (λ r. IsAnswer ps name r) (sym (h.absent name never).answer)
          (none_published ps name (λ k p l e. let named = names.all k p l in never named.0 d named.1.0 (named.1.1 d ∙ e)))
    ]

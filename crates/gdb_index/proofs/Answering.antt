-- From the answers name by name to one answer for every byte string.
use Rattle.std.proofs.Common.{◌≡◌, ℕ, ◌+◌, ◌<◌, ◌≤◌, List, [], ◌∷◌, length, get_or, Option, Some, None, Ok, refl, sym, ap, subst, ◌∙◌, arith, inl, inr}
use Rattle.std.specs.Prelude.{find}
use Rattle.std.specs.List.{position_or_len}
use Rattle.std.specs.Option.{option_map}
use Rattle.std.specs.Str.{bytes_eq}
use Rattle.std.proofs.lemmas.Slice.Eq.{bytes_eq-Decides}
use Rattle.std.proofs.lemmas.Bool.{cases_lt, both_ways}
use Rattle.std.proofs.lemmas.Option.{slice_get-get_or, slice_get_past}
use Rattle.std.proofs.lemmas.List.Folds.{find_at}
use Rattle.std.proofs.lemmas.List.Sums.{fails_before_first, passes_at_first}
use Rattle.std.proofs.lemmas.List.{length-map, get_or-map}
use Rattle.gdb_index_format.specs.Named.{Named, names_in, HasFewSteps}
use Rattle.gdb_index_format.specs.Probe.{probe}
use Rattle.gdb_index.specs.Answers.{is_sought, words_under, AnswersFor}
use Rattle.gdb_index.proofs.Holding.{IsNone, Answered}

found_name : (b : List ℕ) (ns : List Named) (name : List ℕ) (d : Named) → Answered b ns → position_or_len (is_sought name) ns < length ns → (probe b name).answer ≡ Ok (words_under name ns)
found_name b ns name d h l =
    let i = position_or_len (is_sought name) ns in
    let is : (get_or ns i d).name ≡ name = (bytes_eq-Decides (get_or ns i d).name name).0 (passes_at_first (is_sought name) ns d l) in
    let found : find (is_sought name) ns ≡ Some (get_or ns i d) = find_at (is_sought name) ns ∙ slice_get-get_or ns i d l in
    ap (λ n. (probe b n).answer) (sym is) ∙ (h.found i d l).answer ∙ ap (λ (o : Option Named). Ok (option_map (λ n. n.words) o)) (sym found)

absent_name : (b : List ℕ) (ns : List Named) (name : List ℕ) → Answered b ns → length ns ≤ position_or_len (is_sought name) ns → (probe b name).answer ≡ Ok (words_under name ns)
absent_name b ns name h l =
    let none : IsNone ns name = λ k d less same. both_ways (bytes_eq (get_or ns k d).name name) (fails_before_first (is_sought name) ns k d (omega arith)) ((bytes_eq-Decides (get_or ns k d).name name).1 same) in
    let lost : find (is_sought name) ns ≡ None = find_at (is_sought name) ns ∙ slice_get_past ns (position_or_len (is_sought name) ns) l in
    (h.absent name none).answer ∙ ap (λ (o : Option Named). Ok (option_map (λ n. n.words) o)) (sym lost)

answer_of : (b : List ℕ) (ns : List Named) → Answered b ns → (name : List ℕ) → (probe b name).answer ≡ Ok (words_under name ns)
answer_of b ns h name =
    elim (cases_lt (position_or_len (is_sought name) ns) (length ns)) [
      | inl less ↦ found_name b ns name (record { name = []; words = [] }) h less
      | inr past ↦ absent_name b ns name h past
    ]

no_named : (ns : List Named) → names_in ns ≡ [] → ns ≡ []
no_named [] none = refl
no_named (n ∷ ns) none = absurd (cc none)

few_steps : (b : List ℕ) (ns : List Named) → Answered b ns → (ns ≡ [] → (name : List ℕ) → (probe b name).steps ≡ 0) → HasFewSteps b (names_in ns)
few_steps b ns h no_step =
    let e : Named = record { name = []; words = [] } in
    let long : length (names_in ns) ≡ length ns = length-map ns (λ (n : Named). n.name) in
    record {
      found = λ i d l.
          let below : i < length ns = omega (arith, l, long) in
          subst (λ n. (probe b n).steps ≤ i + 1) (sym (get_or-map (λ (n : Named). n.name) ns i e d below)) (h.found i e below).steps;
      absent = λ name none.
          let lacks : IsNone ns name = λ i d l same. none (i, omega (arith, l, long), get_or-map (λ (n : Named). n.name) ns i d name l ∙ same) in
          omega (arith, (h.absent name lacks).steps, long);
      no_slot = λ none. no_step (no_named ns none);
    }

pub answers_every : (b : List ℕ) (ns : List Named) → Answered b ns → (ns ≡ [] → (name : List ℕ) → (probe b name).steps ≡ 0) → AnswersFor b ns
answers_every b ns h no_step = record { answer = answer_of b ns h; steps = few_steps b ns h no_step }

-- A section that is one contribution.
use Rattle.std.proofs.Common.{◌≡◌, ℕ, ◌-◌, ◌≤◌, ◌&&◌, Bool, true, false, cond, not, eqb, leb, List, [], ◌∷◌, length, map, Option, Some, None, refl, ap, ◌∙◌, arith}
use Rattle.std.specs.List.{take_while}
use Rattle.std.proofs.lemmas.Bool.Decides.{nat_tests}
use Rattle.std.proofs.lemmas.List.{append-nil, take_all}
use Rattle.std.proofs.lemmas.List.Sums.{take_while-cons}
use Rattle.sframe_format.specs.declared.fault.SframeFault.{SframeFault}
use Rattle.sframe_format.specs.Fields.{header_of}
use Rattle.sframe_format.specs.Contribution.{Contribution, contribution_at, is_other_version, functions, functions_of}
use Rattle.sframe_format.specs.Valid.{contribution_fault, first_fault, or_else}
use Rattle.sframe_find.specs.Frames.{whole_span, whole_section, section_functions}
use Rattle.sframe_find.specs.Ordered.{HasHeader}

abbrev pub one : List ℕ → Contribution
one s = record { offset = 0; bytes = s }

long : (n : ℕ) → 28 ≤ n → leb 28 (n - 0) ≡ true
long n h = grind (arith, nat_tests)

same_version : (m v : ℕ) → v ≡ 2 → eqb m 0xdee2 && not (eqb v 2) ≡ false
same_version m v two = ap (λ v. eqb m 0xdee2 && not (eqb v 2)) two ∙ none (eqb m 0xdee2)
  where
    none : (b : Bool) → b && false ≡ false
    none true = refl
    none false = refl

one_is : (s : List ℕ) → contribution_at s (whole_span s) ≡ one s
one_is s = ap (λ b. record { offset = 0; bytes = b }) (take_all (length s - 0) s (omega arith))

-- with a header of version 2, the section is read as one contribution
pub whole_is : (s : List ℕ) → HasHeader s → whole_section s ≡ one s ∷ []
whole_is s has =
    ap (λ b. take_while (λ c. not (is_other_version c)) (map (contribution_at s) (cond b (whole_span s ∷ []) []))) (long (length s) has.long)
    ∙ ap (λ c. take_while (λ c. not (is_other_version c)) (c ∷ [])) (one_is s)
    ∙ take_while-cons (λ c. not (is_other_version c)) (one s) []
    ∙ ap (λ b. cond (not b) (one s ∷ []) []) (same_version (header_of s).magic (header_of s).version has.parsed.2)

alone : (o : Option SframeFault) → or_else o None ≡ o
alone (Some e) = refl
alone None = refl

pub whole_fault : (s : List ℕ) → HasHeader s → first_fault (whole_section s) ≡ contribution_fault (one s)
whole_fault s has = ap first_fault (whole_is s has) ∙ alone (contribution_fault (one s))

pub whole_functions : (s : List ℕ) → HasHeader s → section_functions s ≡ functions_of (one s)
whole_functions s has = ap functions (whole_is s has) ∙ append-nil (functions_of (one s))

pub flag_set : (n : ℕ) → (n ≡ 0 → ⊥) → not (eqb n 0) ≡ true
flag_set n other = at (eqb n 0) refl
  where
    at : (b : Bool) → eqb n 0 ≡ b → not b ≡ true
    at true t = absurd (other (grind (arith, nat_tests)))
    at false t = refl

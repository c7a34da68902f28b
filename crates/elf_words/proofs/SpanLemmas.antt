-- Spans of which none lies outside.
use Rattle.std.proofs.Common.{◌≡◌, ℕ, ◌≤◌, Bool, true, false, not, ltb, cond, Some, None, List, length, get_or, refl, arith}
use Rattle.std.specs.List.{position, position_or_len}
use Rattle.std.proofs.lemmas.Bool.Decides.{nat_tests}
use Rattle.std.proofs.lemmas.List.Sums.{fails_before_first}
use Rattle.elf_format.specs.declared.index.Span.{Span}
use Rattle.elf_format.specs.Span.{IsInside, AreInside, is_inside}

past_end : {X : Type 0} (p : X → Bool) (xs : List X) (b : Bool) → ltb (position_or_len p xs) (length xs) ≡ b → cond b (Some (position_or_len p xs)) None ≡ None → length xs ≤ position_or_len p xs
past_end p xs true t e = cc
past_end p xs false t e = grind (arith, nat_tests)

inside_at : (n : ℕ) (span : Span) → not (is_inside n span) ≡ false → IsInside n span
inside_at n span t = record { ordered = grind (arith, nat_tests); below = grind (arith, nat_tests) }

pub inside_from_none : (n : ℕ) (spans : List Span) → position (λ span. not (is_inside n span)) spans ≡ None → AreInside n spans
inside_from_none n spans e = λ k d b. inside_at n (get_or spans k d) (fails_before_first (λ span. not (is_inside n span)) spans k d (omega (arith, past_end (λ span. not (is_inside n span)) spans _ refl e)))

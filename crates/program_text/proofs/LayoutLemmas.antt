-- What lines say, with one more line after them.
use Rattle.std.proofs.Common.{◌≡◌, ◌+◌, ◌++◌, ◌||◌, ℕ, List, ◌∷◌, false, refl, sym, ap, ◌∙◌, append_assoc, is_some, if◌then◌else◌}
use Rattle.std.specs.Prelude.{Option, Some, None}
use Rattle.std.specs.List.{flat_map}
use Rattle.std.specs.Option.{option_or}
use Rattle.program_text.specs.declared.line.Line.{Line}
use Rattle.program_text.specs.Layout.{is_wrong, first_wrong, first_base, base_in}

-- the first of three
or_assoc : (a b c : Option ℕ) → option_or (option_or a b) c ≡ option_or a (option_or b c)
or_assoc None b c = refl
or_assoc (Some n) b c = refl

or_some : (a b : Option ℕ) → is_some (option_or a b) ≡ (is_some a || is_some b)
or_some None b = refl
or_some (Some n) b = refl

pub listed : {A : Type 0} (f : Line → List A) (line : Line) (lines before : List Line) (old new all : List A) → before ≡ line ∷ lines → new ≡ old ++ f line → old ++ flat_map f before ≡ all → new ++ flat_map f lines ≡ all
listed f line lines before old new all first is whole =
    ap (λ (l : List _). l ++ flat_map f lines) is ∙ append_assoc old (f line) (flat_map f lines) ∙ ap (λ (ls : List Line). old ++ flat_map f ls) (sym first) ∙ whole

pub based : (line : Line) (lines before : List Line) (old new all : Option ℕ) → before ≡ line ∷ lines → new ≡ option_or old (base_in line) → option_or old (first_base before) ≡ all → option_or new (first_base lines) ≡ all
based line lines before old new all first is whole =
    ap (λ b. option_or b (first_base lines)) is ∙ or_assoc old (base_in line) (first_base lines) ∙ ap (λ (ls : List Line). option_or old (first_base ls)) (sym first) ∙ whole

-- no wrong line so far
pub not_yet : (number : ℕ) (line : Line) (lines before : List Line) (old new all : Option ℕ) → before ≡ line ∷ lines → new ≡ option_or old (base_in line) → is_wrong (is_some old) line ≡ false → first_wrong (is_some old) number before ≡ all → first_wrong (is_some new) (number + 1) lines ≡ all
not_yet number line lines before old new all first is right whole =
    ap (λ b. first_wrong (is_some b) (number + 1) lines) is
    ∙ ap (λ s. first_wrong s (number + 1) lines) (or_some old (base_in line))
    ∙ sym (ap (λ w. if w then Some number else first_wrong (is_some old || is_some (base_in line)) (number + 1) lines) right)
    ∙ ap (λ (ls : List Line). first_wrong (is_some old) number ls) (sym first)
    ∙ whole

-- A line whose words go on after its last number is wrong.
use Rattle.std.proofs.Common.{◌≡◌, ◌==◌, ℕ, List, [], ◌∷◌, Bool, true, false, map, refl, ap, Bor, option_map, is_some, if◌then◌else◌}
use Rattle.std.specs.Prelude.{Option, Some, None}
use Rattle.program_text.specs.Lines.{lengthen, line_words}
use Rattle.program_text.specs.Number.{number_of}
use Rattle.program_text.specs.Layout.{numbers_after}

-- some pieces, of which there is a first
pub record AreSome (pieces : List (List ℕ)) : Type 0 where
  pub first : List ℕ
  pub others : List (List ℕ)
  pub are : pieces ≡ first ∷ others

lengthened : (byte : ℕ) (pieces : List (List ℕ)) → AreSome (lengthen byte pieces)
lengthened byte [] = record { first = byte ∷ []; others = []; are = refl }
lengthened byte (piece ∷ pieces) = record { first = byte ∷ piece; others = pieces; are = refl }

at : (b : Bool) (byte : ℕ) (pieces : List (List ℕ)) → AreSome (if b then [] ∷ pieces else lengthen byte pieces)
at true byte pieces = record { first = []; others = pieces; are = refl }
at false byte pieces = lengthened byte pieces

-- a line has a word
some_word : (line : List ℕ) → AreSome (line_words line)
some_word [] = record { first = []; others = []; are = refl }
some_word (byte ∷ line) = at (byte == 32) byte (line_words line)

-- the numbers of more words are one at least
pub record GoOn (numbers : List (Option ℕ)) : Type 0 where
  pub first : Option ℕ
  pub others : List (Option ℕ)
  pub are : numbers ≡ first ∷ others

pub more_words : (words : Option (Bor (List ℕ))) → is_some words ≡ true → GoOn (numbers_after (option_map (λ w. w.now) words))
more_words None is = absurd (cc)
more_words (Some line) is =
    let word = some_word line.now in
    record { first = number_of word.first; others = map number_of word.others; are = ap (map number_of) word.are }

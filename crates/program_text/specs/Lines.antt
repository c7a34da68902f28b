-- Texts as lists of lines, and lines as lists of words. A line feed is the byte 10, a space the byte 32.
use Rattle.std.specs.Prelude.{ℕ, ◌==◌, List, [], ◌∷◌, ◌++◌, codes, if◌then◌else◌, Option, Some, None}
use Rattle.std.specs.List.{flat_map}

-- a byte before the first piece
abbrev pub lengthen : ℕ → List (List ℕ) → List (List ℕ)
lengthen byte [] = (byte ∷ []) ∷ []
lengthen byte (piece ∷ pieces) = (byte ∷ piece) ∷ pieces

-- the pieces of a text that end before a byte of this value or with the text, where these are the pieces of no text
abbrev pub pieces_of : ℕ → List (List ℕ) → List ℕ → List (List ℕ)
pieces_of mark none [] = none
pieces_of mark none (byte ∷ text) = if byte == mark then [] ∷ pieces_of mark none text else lengthen byte (pieces_of mark none text)

-- the lines of a text, without their line feeds: the last one may lack its own
abbrev pub lines_of : List ℕ → List (List ℕ)
lines_of text = pieces_of 10 [] text

-- the words of a line, which stand between single spaces: at least one, and an empty one wherever a space has no word beside it
abbrev pub line_words : List ℕ → List (List ℕ)
line_words line = pieces_of 32 ([] ∷ []) line

-- the words after a word, where a space follows it, and none else
abbrev pub words_after : Option (List ℕ) → List (List ℕ)
words_after None = []
words_after (Some line) = line_words line

-- the text of lines: each ends with a line feed
abbrev pub text_of : List (List ℕ) → List ℕ
text_of lines = flat_map (λ line. line ++ codes "\n") lines

use Rattle.std.proofs.Common.{◌≡◌, ◌∷◌, ℕ, List, [], length, arith, refl}
use Rattle.memchr.specs.Find.{Nowhere, Passes, is_byte}
use Rattle.program_text.specs.Lines.{line_words}
use Rattle.program_text.proofs.LineLemmas.{first_piece, only_piece}
use Rattle.program_text.proofs.pieces.split_word.Goals as goal

-- a line without a space is one word, also the empty one
only_word : (line : List ℕ) → Nowhere (Passes (is_byte 32) line) 0 (length line) → line_words line ≡ line ∷ []
only_word [] unmarked = refl
only_word (byte ∷ line) unmarked = only_piece 32 ([] ∷ []) (λ byte. refl) (byte ∷ line) (omega arith) unmarked

pub returns-in-Some : goal.returns-in-Some
returns-in-Some c = first_piece 32 ([] ∷ []) c.args.line.now c.in-Some.end c.in-Some.ensures.0 c.in-Some.ensures.1

pub returns-in-None : goal.returns-in-None
returns-in-None c = only_word c.args.line.now c.in-None.ensures

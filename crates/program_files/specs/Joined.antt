-- Texts that stand one after another in one buffer, each with its span.
use Rattle.std.specs.Prelude.{ℕ, ◌+◌, List, [], ◌∷◌, ◌++◌, length}
use Rattle.elf_format.specs.declared.index.Span.{Span}

-- texts joined
abbrev pub joined : List (List ℕ) → List ℕ
joined [] = []
joined (text ∷ texts) = text ++ joined texts

-- the span of each text, where the first one begins at this offset
abbrev pub spans_from : ℕ → List (List ℕ) → List Span
spans_from offset [] = []
spans_from offset (text ∷ texts) = record { start = offset; stop = offset + length text } ∷ spans_from (offset + length text) texts

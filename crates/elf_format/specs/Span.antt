-- Spans of bytes: whether they lie in a buffer, and the bytes that they select.
use Rattle.std.specs.Prelude.{ℕ, ◌≤◌, Bool, ◌&&◌, nat_le, List, slice_range}
use Rattle.std.specs.List.{All}
use Rattle.elf_format.specs.declared.index.Span.{Span}

-- the span is not reversed, and ends within n bytes
pub record IsInside (n : ℕ) (span : Span) : Type 0 where
  pub ordered : span.start ≤ span.stop
  pub below : span.stop ≤ n

-- the same as a test
abbrev pub is_inside : ℕ → Span → Bool
is_inside n span = nat_le span.start span.stop && nat_le span.stop n

abbrev pub AreInside : ℕ → List Span → Type 0
AreInside n spans = All (IsInside n) spans

-- the bytes of a span
abbrev pub span_bytes : List ℕ → Span → List ℕ
span_bytes bytes span = slice_range bytes span.start span.stop

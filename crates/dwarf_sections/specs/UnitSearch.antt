-- The unit of an offset.
use Rattle.std.specs.Prelude.{◌≡◌, ℕ, ◌+◌, ◌^◌, ◌<◌, ◌==◌, List, length, Option, slice_index_or}
use Rattle.std.specs.List.{All, AllPairs, position}
use Rattle.gdb_index_format.specs.declared.unit.CuBoundary.{CuBoundary}

-- each unit begins after those before it
abbrev pub Ascend : List CuBoundary → Type 0
Ascend us = AllPairs (λ u v. u.offset < v.offset) us

-- each unit begins where the one before it ends, and the ends fit 64 bits
pub record AreAdjacent (us : List CuBoundary) : Type 0 where
  pub next : (k : ℕ) (d : CuBoundary) → k + 1 < length us → (slice_index_or us (k + 1) d).offset ≡ (slice_index_or us k d).offset + (slice_index_or us k d).length
  pub fit : All (λ u. u.offset + u.length < 2 ^ 64) us

-- the index of the unit that begins at an offset
abbrev pub unit_at : List CuBoundary → ℕ → Option ℕ
unit_at us offset = position (λ u. u.offset == offset) us

-- Private steps: only private contracts cite this module.
-- The first bytes of a name as numbers, which are compared before the name itself.
use Rattle.std.specs.Prelude.{ℕ, zero, suc, ◌+◌, List, [], ◌∷◌, slice_range}
use Rattle.std.specs.Int.{from_be_bytes, w64}

-- so many first bytes of a list, with zeros after its end
unfoldable pub padded : ℕ → List ℕ → List ℕ
padded zero xs = []
padded (suc n) [] = 0 ∷ padded n []
padded (suc n) (x ∷ xs) = x ∷ padded n xs

-- the number of the eight bytes from an offset on, the highest byte first
unfoldable pub eight_at : List ℕ → ℕ → ℕ
eight_at bytes at = from_be_bytes w64 (slice_range bytes at (at + 8))

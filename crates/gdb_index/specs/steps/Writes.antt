-- Private steps: only private contracts cite this module.
-- What a write leaves.
use Rattle.std.specs.Prelude.{◌≡◌, ℕ, ◌+◌, List, ◌++◌, length, take}

-- the bytes from an offset on are these, and those before it are as before
pub record Extends (old new : List ℕ) (at : ℕ) (bytes : List ℕ) : Type 0 where
  pub same_len : length new ≡ length old
  pub front : take (at + length bytes) new ≡ take at old ++ bytes

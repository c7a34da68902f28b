-- What is read from a reader to its end, where its bytes are known.
use Rattle.std.specs.Prelude.{◌≡◌, ◌<◌, ◌≤◌, ◌+◌, ◌++◌, ℕ, List, length, Option, IfSome}
use Rattle.std.specs.Io.KnownBytes.{IsAtEnd}
use Rattle.program_io.specs.Counting.{RoseBy}

-- all that a reader had left was read onto the end of what was there
pub record IsReadToEnd (left then : Option (List ℕ)) (limit : ℕ) (old new : List ℕ) (before now : ℕ) : Type 0 where
  pub bytes : List ℕ
  pub appended : new ≡ old ++ bytes
  pub within : length bytes ≤ limit
  pub whole : IfSome left (λ xs. xs ≡ bytes)
  pub end : IsAtEnd then
  pub took : RoseBy (length bytes) before now

-- a reader had more bytes left than the limit
pub record IsLeftTooLong (left : Option (List ℕ)) (limit before now : ℕ) : Type 0 where
  pub took : RoseBy (limit + 1) before now
  pub longer : IfSome left (λ xs. limit < length xs)

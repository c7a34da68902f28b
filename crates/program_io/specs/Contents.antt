-- What files hold, and what it means that one was read or was too long.
use Rattle.std.specs.Prelude.{◌≡◌, ◌<◌, ◌≤◌, ◌+◌, ◌++◌, ℕ, List, [], ◌∷◌, length, if◌then◌else◌, nat_eq, Option, Some, None, IfSome, IsSomeAnd}
use Rattle.std.specs.Cmp.Lexicographic.{pointwise}
use Rattle.program_io.specs.Counting.{RoseBy}

-- names with the bytes of their files, in order, where they are known
abbrev pub Contents : Type 0
Contents = Option (List (List ℕ × List ℕ))

-- the bytes of the first file of this name
abbrev pub file_of : List (List ℕ × List ℕ) → List ℕ → Option (List ℕ)
file_of [] name = None
file_of (file ∷ files) name = if pointwise nat_eq file.0 name then Some file.1 else file_of files name

-- a file was read whole onto the end of what was there
pub record IsRead (held : Contents) (name : List ℕ) (limit : ℕ) (old new : List ℕ) (before now : ℕ) : Type 0 where
  pub bytes : List ℕ
  pub appended : new ≡ old ++ bytes
  pub within : length bytes ≤ limit
  pub known : IfSome held (λ files. file_of files name ≡ Some bytes)
  pub took : RoseBy (length bytes) before now

-- a file is longer than the limit
pub record IsTooLong (held : Contents) (name : List ℕ) (limit before now : ℕ) : Type 0 where
  pub took : RoseBy (limit + 1) before now
  pub known : IfSome held (λ files. IsSomeAnd (file_of files name) (λ bytes. limit < length bytes))

-- What the sink says of a run: what was put and what was written for an answer.
use Rattle.std.specs.Prelude.{◌≡◌, ℕ, ◌++◌, [], ◌∷◌, Bool, List, take, Option, Some, None, option_map, IsTrue}
use Rattle.program_io.specs.Counting.{Rose}

-- the sink before and after a run
pub record Writes : Type 0 where
  pub steady : Bool
  pub faults : ℕ
  pub faults_now : ℕ
  pub written : Option (List ℕ)
  pub now : Option (List ℕ)
  pub puts : List (List ℕ)
  pub puts_now : List (List ℕ)

-- there was no call of the sink, and nothing was written
pub record IsSilent (writes : Writes) : Type 0 where
  pub written : writes.now ≡ writes.written
  pub puts : writes.puts_now ≡ writes.puts

-- there was one call of the sink, with this text
abbrev pub IsPutOnce : Writes → List ℕ → Type 0
IsPutOnce writes text = writes.puts_now ≡ writes.puts ++ text ∷ []

-- this text was put in one call, and written whole
pub record IsReportWritten (writes : Writes) (text : List ℕ) : Type 0 where
  pub once : IsPutOnce writes text
  pub whole : writes.now ≡ option_map (λ bytes. bytes ++ text) writes.written

-- a text was put in one call, and written whole; or there was no call, where there is no text
abbrev pub IsWhole : Writes → Option (List ℕ) → Type 0
IsWhole writes (Some text) = IsReportWritten writes text
IsWhole writes None = IsSilent writes

-- this text was put in one call, which failed after a prefix of it
pub record IsPrefixWritten (writes : Writes) (text : List ℕ) : Type 0 where
  pub once : IsPutOnce writes text
  pub count : ℕ
  pub prefix : writes.now ≡ option_map (λ bytes. bytes ++ take count text) writes.written
  pub rose : Rose writes.faults writes.faults_now
  pub never : IsTrue writes.steady → ⊥

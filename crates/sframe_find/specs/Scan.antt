-- The plain scan: the last function at or before an address, whatever the order of the functions.
use Rattle.std.specs.Prelude.{ℕ, pos, ◌+ℤ◌, ◌<◌, ◌≤ℤ◌, ◌<ℤ◌, Bool, ◌&&◌, int_le, int_lt, length, Option, Some, None, slice_index_or}
use Rattle.std.specs.List.{All}
use Rattle.sframe_format.specs.Contribution.{Function}
use Rattle.sframe_find.specs.declared.frames.FrameFunction.{FrameFunction}
use Rattle.sframe_find.specs.Frames.{Frames, function_address}

-- k is the greatest index of a function whose address is at most a
pub record IsLastUpTo (frames : Frames) (a k : ℕ) : Type 0 where
  pub within : k < length frames.functions
  pub reached : (d : Function) → function_address frames.base (slice_index_or frames.functions k d) ≤ℤ pos a
  pub last : (j : ℕ) (d : Function) → k < j → j < length frames.functions → pos a <ℤ function_address frames.base (slice_index_or frames.functions j d)

-- the greatest index, or none where each function is above a
abbrev pub IsScan : Frames → ℕ → Option ℕ → Type 0
IsScan frames a (Some k) = IsLastUpTo frames a k
IsScan frames a None = All (λ (f : Function). pos a <ℤ function_address frames.base f) frames.functions

-- whether an address is in the range of a function
abbrev pub covers_address : FrameFunction → ℕ → Bool
covers_address f a = int_le f.address (pos a) && int_lt (pos a) (f.address +ℤ pos f.size)

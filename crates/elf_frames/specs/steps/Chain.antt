-- The chain of frames of one section, from a frame back to the first.
use Rattle.std.specs.Prelude.{ℕ, ◌+◌, ◌<◌, List, [], length, reverse, take, slice_get, Option, Some, None}
use Rattle.elf_frames.specs.Frames.{Frame, frames_for}

-- the frames of a frame's section up to it, by their indexes, latest first
abbrev pub chain_of : List Frame → ℕ → Option Frame → List ℕ
chain_of fs i None = []
chain_of fs i (Some f) = reverse (frames_for f.section (take (i + 1) fs))

abbrev pub chain_at : List Frame → Option ℕ → List ℕ
chain_at fs None = []
chain_at fs (Some i) = chain_of fs i (slice_get fs i)

-- a frame, if there is one, is among the frames
abbrev pub IsAmong : List Frame → Option ℕ → Type 0
IsAmong fs None = Unit {0}
IsAmong fs (Some i) = i < length fs

-- What is kept of `.eh_frame`: its CIEs, the frames (FDEs) of loadable sections, and how many bytes are no entry. Each frame
-- has the section whose code it describes, by the section's index.
use Rattle.std.specs.Prelude.{ℕ, ◌+◌, Bool, ◌==◌, List, [], ◌∷◌, ◌++◌, length, map, Option, option_map}
use Rattle.std.specs.List.{filter, enumerate_from, sum_by}
use Rattle.elf_format.specs.declared.crel.Crel.{Crel}
use Rattle.elf_format.specs.Symbol.{last_that}

-- a CIE: its offset and its bytes, and whether an equal one may stand for it
pub record Cie : Type 0 where
  pub offset : ℕ
  pub bytes : List ℕ
  pub eligible_for_deduplication : Bool

-- a frame: the section that it is for, its relocations, its size in bytes, and the `.eh_frame` section that it is from
pub record Frame : Type 0 where
  pub section : ℕ
  pub relocations : List Crel
  pub size : ℕ
  pub eh_frame_section : ℕ

pub record FrameLists : Type 0 where
  pub cies : List Cie
  pub frames : List Frame
  pub rest : ℕ

abbrev pub no_frames : FrameLists
no_frames = record { cies = []; frames = []; rest = 0 }

-- whether a frame is for a section
abbrev pub is_for : ℕ → Frame → Bool
is_for section f = f.section == section

-- the frames of a section, by their indexes among all frames, ascending
abbrev pub frames_for : ℕ → List Frame → List ℕ
frames_for section fs = map (λ p. p.0) (filter (λ p. is_for section p.1) (enumerate_from 0 fs))

-- the last of them
abbrev pub last_frame : ℕ → List Frame → Option ℕ
last_frame section fs = option_map (λ p. p.0) (last_that (λ p. is_for section p.1) (enumerate_from 0 fs))

-- of each of some frames, which follow others, the last of its section among all frames before it
abbrev pub previous_after : List Frame → List Frame → List (Option ℕ)
previous_after before [] = []
previous_after before (f ∷ fs) = last_frame f.section before ∷ previous_after (before ++ f ∷ []) fs

abbrev pub previous_frames : List Frame → List (Option ℕ)
previous_frames fs = previous_after [] fs

-- the number of a section's frames, and the sum of their sizes
abbrev pub frame_count : ℕ → List Frame → ℕ
frame_count section fs = length (filter (is_for section) fs)

abbrev pub frame_bytes : ℕ → List Frame → ℕ
frame_bytes section fs = sum_by (λ f. f.size) (filter (is_for section) fs)

-- the sum of the CIEs' lengths
abbrev pub cie_size : List Cie → ℕ
cie_size cies = sum_by (λ cie. length cie.bytes) cies

-- the sum of all sizes
abbrev pub total_size : FrameLists → ℕ
total_size lists = cie_size lists.cies + sum_by (λ f. f.size) lists.frames + lists.rest

-- one after another: the indexes of the second's frames begin after those of the first
abbrev pub appended : FrameLists → FrameLists → FrameLists
appended a b = record { cies = a.cies ++ b.cies; frames = a.frames ++ b.frames; rest = a.rest + b.rest }

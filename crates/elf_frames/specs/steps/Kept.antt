-- What contracts see of the CIEs and the frames that the code keeps. The parameters of the types are the class and the types of
-- its records.
use Rattle.std.specs.Prelude.{ℕ, ◌^◌, ◌<◌, List, map, slice_get, Option, Some, None}
use Rattle.elf_format.specs.Class.{Class}
use Rattle.elf_frames.specs.declared.frame.CieAtOffset.{CieAtOffset}
use Rattle.elf_frames.specs.declared.links.FrameLinks.{FrameLinks}
use Rattle.elf_frames.specs.Frames.{Frame, FrameLists, total_size}
use Rattle.elf_frames.specs.Shown.{shown_cie}
use Rattle.elf_frames.specs.steps.Links.{linked_frames, AreLinked}

abbrev pub kept_lists : {A B C D E F G H I J K : Type 0} → Class → List CieAtOffset → FrameLinks A B C D E F G H I J K → ℕ → FrameLists
kept_lists c cies links rest = record { cies = map shown_cie cies; frames = linked_frames c links; rest = rest }

-- the frames are linked, and all sizes together fit 64 bits
pub record AreKept {A B C D E F G H I J K : Type 0} (c : Class) (cies : List CieAtOffset) (links : FrameLinks A B C D E F G H I J K) (rest : ℕ) : Type 0 where
  pub linked : AreLinked c links
  pub fits : total_size (kept_lists c cies links rest) < 2 ^ 64

-- the size of the frame at an index, 0 where there is none
abbrev pub size_of_frame : Option Frame → ℕ
size_of_frame None = 0
size_of_frame (Some f) = f.size

abbrev pub size_at : List Frame → ℕ → ℕ
size_at fs i = size_of_frame (slice_get fs i)

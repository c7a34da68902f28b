-- Frames with the links between those of one section, as the code keeps them. The parameters of the types are the class and
-- the types of its records.
use Rattle.std.specs.Prelude.{◌≡◌, ℕ, ◌+◌, ◌<◌, ◌≤◌, List, length, map, vec_len, vec_capacity}
use Rattle.std.specs.List.{AllByRecursion}
use Rattle.elf_format.specs.Class.{Class}
use Rattle.elf_frames.specs.declared.links.FrameLinks.{FrameLinks}
use Rattle.elf_frames.specs.Frames.{Frame, previous_frames, last_frame}
use Rattle.elf_frames.specs.Shown.{shown_frames, shown_previous, last_in}

-- the frames, each with the section that it is for
abbrev pub linked_frames : {A B C D E F G H I J K : Type 0} → Class → FrameLinks A B C D E F G H I J K → List Frame
linked_frames c links = shown_frames c links.frames.items links.sections.items

-- Each frame has a section, one of those for which there is a last frame, and the frame before it of the same section.
pub record AreLinked {A B C D E F G H I J K : Type 0} (c : Class) (links : FrameLinks A B C D E F G H I J K) : Type 0 where
  pub sections : length links.sections.items ≡ length links.frames.items
  pub within : AllByRecursion (λ s. s.0 < length links.last.items) links.sections.items
  pub previous : map shown_previous links.frames.items ≡ previous_frames (linked_frames c links)
  pub last : (section : ℕ) → last_in links.last.items section ≡ last_frame section (linked_frames c links)

-- there is room for so many more frames, and for the sections of so many
pub record HasFrameRoom {A B C D E F G H I J K : Type 0} (links : FrameLinks A B C D E F G H I J K) (frames sections : ℕ) : Type 0 where
  pub frame_room : vec_len links.frames + frames ≤ vec_capacity links.frames
  pub section_room : vec_len links.sections + sections ≤ vec_capacity links.sections

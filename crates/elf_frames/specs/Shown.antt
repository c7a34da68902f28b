-- What contracts see of CIEs and frames. The parameters of the types are the class and the types of its records.
use Rattle.std.specs.Prelude.{ℕ, List, [], ◌∷◌, map, slice_get, Option, option_map}
use Rattle.std.specs.Option.{option_flatten}
use Rattle.elf_format.specs.declared.index.SectionIndex.{SectionIndex}
use Rattle.elf_format.specs.Class.{Class}
use Rattle.elf_relocs.specs.Lists.{relocations_of}
use Rattle.elf_frames.specs.declared.frame.CieAtOffset.{CieAtOffset}
use Rattle.elf_frames.specs.declared.frame.ExceptionFrame.{ExceptionFrame}
use Rattle.elf_frames.specs.declared.frame.FrameIndex.{FrameIndex}
use Rattle.elf_frames.specs.Frames.{Cie, Frame}

abbrev pub shown_cie : CieAtOffset → Cie
shown_cie cie = record { offset = cie.offset; bytes = cie.bytes.now; eligible_for_deduplication = cie.eligible_for_deduplication }

-- a frame that is for a section
abbrev pub shown_frame : {A B C D E F G H I J K : Type 0} → Class → ExceptionFrame A B C D E F G H I J K → SectionIndex → Frame
shown_frame c f section = record { section = section.0; relocations = relocations_of c f.relocations; size = f.frame_size; eh_frame_section = f.eh_frame_section_index.0 }

abbrev pub shown_frames : {A B C D E F G H I J K : Type 0} → Class → List (ExceptionFrame A B C D E F G H I J K) → List SectionIndex → List Frame
shown_frames c [] sections = []
shown_frames c (f ∷ fs) [] = []
shown_frames c (f ∷ fs) (section ∷ sections) = shown_frame c f section ∷ shown_frames c fs sections

-- the frame before a frame, by its index
abbrev pub shown_previous : {A B C D E F G H I J K : Type 0} → ExceptionFrame A B C D E F G H I J K → Option ℕ
shown_previous f = option_map (λ i. i.0) f.previous_frame_for_section

-- the last frame of a section, by a list with an entry for each of the first sections
abbrev pub last_in : List (Option FrameIndex) → ℕ → Option ℕ
last_in last section = option_map (λ i. i.0) (option_flatten (slice_get last section))

-- the sections that frames are for
abbrev pub sections_of : List Frame → List SectionIndex
sections_of fs = map (λ f. record { 0 = f.section }) fs

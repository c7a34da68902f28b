-- Laws of the definitions: a section has one split or one cause of refusal, the form of a list does not matter, and the frames
-- of a section follow from the lists.
use Rattle.std.specs.Prelude.{◌≡◌, ◌≢◌, ℕ, ◌+◌, ◌<◌, ◌≤◌, Bool, List, ◌++◌, length, map, reverse, Some, None, Result, Ok, slice_index_or}
use Rattle.elf_format.specs.declared.crel.Crel.{Crel}
use Rattle.elf_format.specs.declared.error.ElfError.{ElfError}
use Rattle.elf_format.specs.Class.{Class}
use Rattle.elf_format.specs.Crel.{Listing, all_ok}
use Rattle.elf_frames.specs.declared.error.FrameError.{FrameError}
use Rattle.elf_frames.specs.declared.error.FrameError.TheVariants.{NoMemory}
use Rattle.elf_frames.specs.Frames.{FrameLists, Frame, frames_for, previous_frames, total_size}
use Rattle.elf_frames.specs.Taken.{FrameInput}
use Rattle.elf_frames.specs.Split.{IsSplit, Splits, frame_input}
use Rattle.elf_frames.specs.Cause.{IsFrameCause, IsFrameMemory}

-- A section has one split, or is refused for one cause.
pub record SplitIsOne : Type 0 where
  pub one_split : (input : Result FrameInput ElfError) (a b : FrameLists) → Splits input a → Splits input b → a ≡ b
  pub no_split : (input : Result FrameInput ElfError) (a : FrameLists) (e : FrameError) → Splits input a → IsFrameCause input e → IsFrameMemory e
  pub one_cause : (input : Result FrameInput ElfError) (e f : FrameError) → IsFrameCause input e → IsFrameCause input f → e ≢ NoMemory → f ≢ NoMemory → e ≡ f

-- What a split keeps is no more than the data.
abbrev pub SplitIsWithin : Type 0
SplitIsWithin = (input : FrameInput) (lists : FrameLists) → IsSplit input lists → total_size lists ≤ length input.bytes

-- Lists of one content, each as RELA records or in CREL, have one split, and are refused for one cause.
pub record FormsAgree : Type 0 where
  pub one_split : (c : Class) (is_dynamic : Bool) (file : List ℕ) (section : ℕ) (loadable : List Bool) (l m : Listing) (rs ts : List Crel) (a b : FrameLists)
      → l.items ≡ m.items → all_ok l.items ≡ Ok rs → all_ok m.items ≡ Ok ts → Splits (frame_input c is_dynamic file section rs loadable) a → Splits (frame_input c is_dynamic file section ts loadable) b → a ≡ b
  pub one_cause : (c : Class) (is_dynamic : Bool) (file : List ℕ) (section : ℕ) (loadable : List Bool) (l m : Listing) (rs ts : List Crel) (e f : FrameError)
      → l.items ≡ m.items → all_ok l.items ≡ Ok rs → all_ok m.items ≡ Ok ts → IsFrameCause (frame_input c is_dynamic file section rs loadable) e → IsFrameCause (frame_input c is_dynamic file section ts loadable) f → e ≢ NoMemory → f ≢ NoMemory → e ≡ f

-- The frame before one of the same section has a lower index.
abbrev pub PreviousIsLower : Type 0
PreviousIsLower = (fs : List Frame) (k j : ℕ) → k < length fs → slice_index_or (previous_frames fs) k None ≡ Some j → j < k

-- Of lists one after another, the chain of a section has the frames of the second first.
abbrev pub LaterFramesFirst : Type 0
LaterFramesFirst = (fs gs : List Frame) (section : ℕ) → reverse (frames_for section (fs ++ gs)) ≡ reverse (map (λ i. length fs + i) (frames_for section gs)) ++ reverse (frames_for section fs)

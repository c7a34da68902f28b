-- Why an `.eh_frame` section is not split. Entries are gone over one by one: the first with a fault decides, and of one entry
-- its end before its symbols. Out of memory needs no cause.
use Rattle.std.specs.Prelude.{◌≡◌, ℕ, ◌+◌, ◌<◌, List, length, Some, Result, Ok, Err}
use Rattle.elf_format.specs.declared.error.ElfError.{ElfError}
use Rattle.elf_frames.specs.declared.error.FrameError.{FrameError}
use Rattle.elf_frames.specs.declared.error.FrameError.TheVariants.{BadEntry, BadSymbol, Elf, NoMemory}
use Rattle.elf_frames.specs.Entries.{FrameEntry, Begins, IsEntryAt, length_at}
use Rattle.elf_frames.specs.Taken.{FrameInput, first_lacking}
use Rattle.elf_frames.specs.Split.{AreEntries}

-- The entries end at an offset, and the one there ends after the data.
pub record EndsAfter (input : FrameInput) (offset : ℕ) : Type 0 where
  pub entries : List FrameEntry
  pub are_entries : AreEntries input entries offset
  pub begins : Begins input.bytes offset
  pub beyond : length input.bytes < offset + (4 + length_at input.bytes offset)

-- The entries end at an offset, and of the one there this is the first relocation that lacks its symbol.
pub record LacksSymbol (input : FrameInput) (relocation : ℕ) : Type 0 where
  pub entries : List FrameEntry
  pub offset : ℕ
  pub entry : FrameEntry
  pub are_entries : AreEntries input entries offset
  pub is_entry : IsEntryAt input.bytes offset entry
  pub first : first_lacking input entry ≡ Some relocation

abbrev pub IsFrameCause : Result FrameInput ElfError → FrameError → Type 0
IsFrameCause (Err f) (Elf e) = f ≡ e
IsFrameCause (Err f) (BadEntry offset) = ⊥
IsFrameCause (Err f) (BadSymbol relocation) = ⊥
IsFrameCause (Err f) NoMemory = Unit {0}
IsFrameCause (Ok input) (Elf e) = ⊥
IsFrameCause (Ok input) (BadEntry offset) = EndsAfter input offset
IsFrameCause (Ok input) (BadSymbol relocation) = LacksSymbol input relocation
IsFrameCause (Ok input) NoMemory = Unit {0}

-- out of memory, and no other refusal
abbrev pub IsFrameMemory : FrameError → Type 0
IsFrameMemory (Elf e) = ⊥
IsFrameMemory (BadEntry offset) = ⊥
IsFrameMemory (BadSymbol relocation) = ⊥
IsFrameMemory NoMemory = Unit {0}

-- The entry at an offset, as the code keeps it.
use Rattle.std.specs.Prelude.{◌≡◌, ℕ, ◌+◌, ◌<◌, List, length}
use Rattle.elf_frames.specs.declared.entry.Entry.{Entry}
use Rattle.elf_frames.specs.declared.error.FrameError.{FrameError}
use Rattle.elf_frames.specs.declared.error.FrameError.TheVariants.{BadEntry, BadSymbol, Elf, NoMemory}
use Rattle.elf_frames.specs.Entries.{FrameEntry, Begins, IsEntryAt, length_at, is_cie}

abbrev pub shown_entry : Entry → FrameEntry
shown_entry e = record { offset = e.offset; size = e.size }

pub record IsFound (bytes : List ℕ) (at : ℕ) (e : Entry) : Type 0 where
  pub is_entry : IsEntryAt bytes at (shown_entry e)
  pub is_cie : e.is_cie ≡ is_cie bytes (shown_entry e)

-- the entry at an offset ends after the data
pub record IsCut (bytes : List ℕ) (at offset : ℕ) : Type 0 where
  pub same : offset ≡ at
  pub begins : Begins bytes at
  pub beyond : length bytes < at + (4 + length_at bytes at)

abbrev pub IsCutError : List ℕ → ℕ → FrameError → Type 0
IsCutError bytes at (BadEntry offset) = IsCut bytes at offset
IsCutError bytes at (BadSymbol relocation) = ⊥
IsCutError bytes at (Elf e) = ⊥
IsCutError bytes at NoMemory = ⊥

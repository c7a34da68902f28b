-- What was taken of an `.eh_frame` section up to an offset, as the code keeps it. The parameters of the types are the class and
-- the types of its records.
use Rattle.std.specs.Prelude.{◌≡◌, ℕ, ◌+◌, ◌≤◌, List, ◌++◌, length, map, Some, None, vec_len}
use Rattle.std.specs.List.{filter_map}
use Rattle.std.specs.Option.{option_to_list}
use Rattle.elf_format.specs.Class.{Class}
use Rattle.elf_frames.specs.declared.entry.Entry.{Entry}
use Rattle.elf_frames.specs.declared.parts.Parts.{Parts}
use Rattle.elf_frames.specs.declared.error.FrameError.{FrameError}
use Rattle.elf_frames.specs.declared.error.FrameError.TheVariants.{BadEntry, BadSymbol, Elf, NoMemory}
use Rattle.elf_frames.specs.Entries.{FrameEntry}
use Rattle.elf_frames.specs.Frames.{Cie}
use Rattle.elf_frames.specs.Taken.{FrameInput, count_below, first_lacking, cie_of, frame_of}
use Rattle.elf_frames.specs.Split.{AreEntries}
use Rattle.elf_frames.specs.Shown.{shown_cie}
use Rattle.elf_frames.specs.steps.EntryAt.{IsFound}
use Rattle.elf_frames.specs.steps.Links.{linked_frames, AreLinked}

-- an entry, and the span of its relocations in their list
pub record IsTaken (input : FrameInput) (e : Entry) (start stop : ℕ) : Type 0 where
  pub found : IsFound input.bytes e.offset e
  pub begins : start ≡ count_below e.offset input.relocations
  pub ends : stop ≡ count_below (e.offset + e.size) input.relocations
  pub order : start ≤ stop
  pub within : stop ≤ length input.relocations

-- the first relocation of an entry that lacks its symbol, or out of memory
abbrev pub IsLacking : FrameInput → FrameEntry → FrameError → Type 0
IsLacking input e (BadEntry offset) = ⊥
IsLacking input e (BadSymbol relocation) = first_lacking input e ≡ Some relocation
IsLacking input e (Elf f) = ⊥
IsLacking input e NoMemory = Unit {0}

abbrev pub shown_cies : {A B C D E F G H I J K : Type 0} → Parts A B C D E F G H I J K → List Cie
shown_cies parts = map shown_cie parts.cies.items

-- there is room for the last frame of each loadable section
pub record AreReady {A B C D E F G H I J K : Type 0} (c : Class) (input : FrameInput) (parts : Parts A B C D E F G H I J K) : Type 0 where
  pub linked : AreLinked c parts.links
  pub sections : length input.loadable ≤ vec_len parts.links.last

-- one more entry is taken
pub record TakesEntry {A B C D E F G H I J K : Type 0} (c : Class) (input : FrameInput) (e : FrameEntry) (before after : Parts A B C D E F G H I J K) : Type 0 where
  pub ready : AreReady c input after
  pub symbols : first_lacking input e ≡ None
  pub cies : shown_cies after ≡ shown_cies before ++ option_to_list (cie_of input e)
  pub frames : linked_frames c after.links ≡ linked_frames c before.links ++ option_to_list (frame_of input e)

-- the entries up to an offset are taken, and with them so many relocations
pub record IsReached {A B C D E F G H I J K : Type 0} (c : Class) (input : FrameInput) (parts : Parts A B C D E F G H I J K) (offset taken : ℕ) : Type 0 where
  pub ready : AreReady c input parts
  pub entries : List FrameEntry
  pub are_entries : AreEntries input entries offset
  pub cies : shown_cies parts ≡ filter_map (cie_of input) entries
  pub frames : linked_frames c parts.links ≡ filter_map (frame_of input) entries
  pub relocations : taken ≡ count_below offset input.relocations

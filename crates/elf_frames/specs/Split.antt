-- An `.eh_frame` section, split: its entries, and what is kept of them.
use Rattle.std.specs.Prelude.{◌≡◌, ℕ, Bool, List, slice_get, Option, Some, None, Result, Ok, Err}
use Rattle.std.specs.List.{AllByRecursion, filter_map}
use Rattle.elf_format.specs.declared.crel.Crel.{Crel}
use Rattle.elf_format.specs.declared.error.ElfError.{ElfError}
use Rattle.elf_format.specs.declared.error.ElfError.TheVariants.{SectionTable, SectionData}
use Rattle.elf_format.specs.Class.{Class}
use Rattle.elf_format.specs.Section.{sections, section_bytes}
use Rattle.elf_frames.specs.Entries.{FrameEntry, Tile, IsEnd, rest_at}
use Rattle.elf_frames.specs.Frames.{FrameLists}
use Rattle.elf_frames.specs.Taken.{FrameInput, symbol_section_in, first_lacking, cie_of, frame_of}

-- no relocation that says where the code of an FDE begins lacks its symbol or the section of it
abbrev pub HasSymbols : FrameInput → FrameEntry → Type 0
HasSymbols input e = first_lacking input e ≡ None

-- the entries from the first byte up to an offset, each with its symbols
pub record AreEntries (input : FrameInput) (es : List FrameEntry) (stop : ℕ) : Type 0 where
  pub tile : Tile input.bytes 0 es stop
  pub symbols : AllByRecursion (HasSymbols input) es

-- The entries tile the data up to an offset at which none begins. Of them these CIEs and frames are kept, in order.
pub record IsSplit (input : FrameInput) (lists : FrameLists) : Type 0 where
  pub entries : List FrameEntry
  pub stop : ℕ
  pub are_entries : AreEntries input entries stop
  pub is_end : IsEnd input.bytes stop
  pub cies : lists.cies ≡ filter_map (cie_of input) entries
  pub frames : lists.frames ≡ filter_map (frame_of input) entries
  pub rest : lists.rest ≡ rest_at input.bytes stop

-- the bytes of the section at an index, by its header, or why there are none
abbrev pub bytes_or_error : Option (List ℕ) → Result (List ℕ) ElfError
bytes_or_error None = Err SectionData
bytes_or_error (Some bytes) = Ok bytes

abbrev pub data_or_error : Class → List ℕ → Option (List ℕ) → Result (List ℕ) ElfError
data_or_error c file None = Err SectionTable
data_or_error c file (Some header) = bytes_or_error (section_bytes c file header)

abbrev pub with_data : Class → Bool → List ℕ → ℕ → List Crel → List Bool → Result (List ℕ) ElfError → Result FrameInput ElfError
with_data c is_dynamic file section rs loadable (Err e) = Err e
with_data c is_dynamic file section rs loadable (Ok bytes) =
    Ok (record { bytes = bytes; section = section; relocations = rs; loadable = loadable; symbol_section = symbol_section_in c is_dynamic file })

-- what is split of a file: the section at an index, with its relocations and the loadable sections
unfoldable pub frame_input : Class → Bool → List ℕ → ℕ → List Crel → List Bool → Result FrameInput ElfError
frame_input c is_dynamic file section rs loadable =
    with_data c is_dynamic file section rs loadable (data_or_error c file (slice_get (sections c file) section))

-- the section is read, and this is its split
abbrev pub Splits : Result FrameInput ElfError → FrameLists → Type 0
Splits (Err e) lists = ⊥
Splits (Ok input) lists = IsSplit input lists

-- The relocations of the entries of `.eh_frame`, in the order of their list, and the section that an FDE is for.
use Rattle.std.specs.Prelude.{ℕ, ◌+◌, Bool, true, false, ◌&&◌, ◌==◌, nat_lt, if◌then◌else◌, List, Option, Some, None, is_some, option_map, option_and_then, position, slice_get, slice_range, unwrap_or}
use Rattle.std.specs.List.{list_all, prefix_len}
use Rattle.elf_format.specs.declared.crel.Crel.{Crel}
use Rattle.elf_format.specs.Class.{Class}
use Rattle.elf_format.specs.Rela.{symbol_of}
use Rattle.elf_format.specs.Symbol.{SymbolSection, no_section, in_section, missing, last_that, symbols, section_of_symbol}
use Rattle.elf_frames.specs.Entries.{FrameEntry, entry_end, is_cie}
use Rattle.elf_frames.specs.Frames.{Cie, Frame}
use Rattle.elf_format.specs.Bytes.{bytes_at}

-- What is split: the bytes and the index of an `.eh_frame` section, its relocations, which sections are loadable, and where
-- the symbol at an index is defined.
pub record FrameInput : Type 0 where
  pub bytes : List ℕ
  pub section : ℕ
  pub relocations : List Crel
  pub loadable : List Bool
  pub symbol_section : ℕ → SymbolSection

-- how many relocations stand before the first whose offset is not below a limit
abbrev pub count_below : ℕ → List Crel → ℕ
count_below limit rs = prefix_len (λ r. nat_lt r.offset limit) rs

-- The relocations of an entry follow those of the entries before it, which end at its offset. They go on as long as their
-- offsets are below its end.
abbrev pub entry_relocations : List Crel → FrameEntry → List Crel
entry_relocations rs e = slice_range rs (count_below e.offset rs) (count_below (entry_end e) rs)

abbrev pub has_symbol : Crel → Bool
has_symbol r = is_some (symbol_of r.symbol)

-- whether a relocation says where the code of the FDE at an offset begins: it has a symbol, and applies to the field after
-- the CIE pointer
abbrev pub is_start : ℕ → Crel → Bool
is_start at r = r.offset == at + 8 && has_symbol r

-- where the symbol at an index of a file is defined: missing where there is no such symbol
abbrev pub section_of_found : Class → Bool → List ℕ → ℕ → Option (List ℕ) → SymbolSection
section_of_found c is_dynamic file index None = missing
section_of_found c is_dynamic file index (Some symbol) = section_of_symbol c is_dynamic file symbol index

abbrev pub symbol_section_in : Class → Bool → List ℕ → ℕ → SymbolSection
symbol_section_in c is_dynamic file index = section_of_found c is_dynamic file index (slice_get (symbols c is_dynamic file) index)

abbrev pub lacks_section : SymbolSection → Bool
lacks_section no_section = false
lacks_section (in_section index) = false
lacks_section missing = true

-- of some relocations of an FDE, the index of the first that says where its code begins and whose symbol, or the extended
-- section index of that symbol, is missing
abbrev pub lacking_index : FrameInput → ℕ → List Crel → Option ℕ
lacking_index input at rs = position (λ r. is_start at r && lacks_section (input.symbol_section r.symbol)) rs

-- the same of all its relocations, counted in the whole list; a CIE has none
abbrev pub first_lacking : FrameInput → FrameEntry → Option ℕ
first_lacking input e =
    if is_cie input.bytes e then None
    else option_map (λ k. count_below e.offset input.relocations + k) (lacking_index input e.offset (entry_relocations input.relocations e))

abbrev pub section_number : SymbolSection → Option ℕ
section_number no_section = None
section_number (in_section index) = Some index
section_number missing = None

-- of some relocations of an FDE, the section of the symbol of the last that says where its code begins
abbrev pub start_section : FrameInput → ℕ → List Crel → Option ℕ
start_section input at rs = option_and_then (λ r. section_number (input.symbol_section r.symbol)) (last_that (is_start at) rs)

-- the section that an FDE is for
abbrev pub frame_section : FrameInput → FrameEntry → Option ℕ
frame_section input e = start_section input e.offset (entry_relocations input.relocations e)

-- A section past the end of the list is not loadable.
abbrev pub is_loadable : List Bool → ℕ → Bool
is_loadable loadable section = unwrap_or (slice_get loadable section) false

abbrev pub if_loadable : List Bool → Option ℕ → Option ℕ
if_loadable loadable None = None
if_loadable loadable (Some section) = if is_loadable loadable section then Some section else None

-- an entry as a CIE. It may be shared where each of its relocations has a symbol.
abbrev pub cie_at : FrameInput → FrameEntry → Cie
cie_at input e = record { offset = e.offset; bytes = bytes_at input.bytes e.offset e.size; eligible_for_deduplication = list_all has_symbol (entry_relocations input.relocations e) }

-- the CIE that an entry is
abbrev pub cie_of : FrameInput → FrameEntry → Option Cie
cie_of input e = if is_cie input.bytes e then Some (cie_at input e) else None

abbrev pub frame_for : FrameInput → FrameEntry → ℕ → Frame
frame_for input e section = record { section = section; relocations = entry_relocations input.relocations e; size = e.size; eh_frame_section = input.section }

-- the frame that an entry is: none for a CIE, and for an FDE that is for no section, or for one that is not loadable
abbrev pub frame_of : FrameInput → FrameEntry → Option Frame
frame_of input e = if is_cie input.bytes e then None else option_map (frame_for input e) (if_loadable input.loadable (frame_section input e))

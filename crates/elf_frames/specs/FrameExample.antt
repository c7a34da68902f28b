-- Small `.eh_frame` sections, to try the definitions on.
use Rattle.std.specs.Prelude.{ℕ, ◌==◌, if◌then◌else◌, true, pos, List, [], ◌∷◌, ◌++◌, replicate}
use Rattle.elf_format.specs.declared.crel.Crel.{Crel}
use Rattle.elf_format.specs.Symbol.{SymbolSection, in_section, no_section, missing}
use Rattle.elf_frames.specs.Frames.{Cie, Frame, FrameLists}
use Rattle.elf_frames.specs.Taken.{FrameInput}

-- a CIE of eight bytes
abbrev pub small_cie : List ℕ
small_cie = 4 ∷ 0 ∷ 0 ∷ 0 ∷ replicate 4 0

-- the CIE, and at offset 8 an FDE of sixteen bytes; offset 16 is where its code begins
abbrev pub cie_and_fde : List ℕ
cie_and_fde = small_cie ++ 12 ∷ 0 ∷ 0 ∷ 0 ∷ 12 ∷ 0 ∷ 0 ∷ 0 ∷ replicate 8 0

-- the CIE, and at offset 8 an entry of 104 bytes of which sixteen are there
abbrev pub cie_and_cut_fde : List ℕ
cie_and_cut_fde = small_cie ++ 100 ∷ 0 ∷ 0 ∷ 0 ∷ 12 ∷ 0 ∷ 0 ∷ 0 ∷ replicate 8 0

-- symbol 1 is in section 3, symbol 2 in section 4, symbol 3 in none, and there are no others
abbrev pub symbols_of_example : ℕ → SymbolSection
symbols_of_example symbol = if symbol == 1 then in_section 3 else if symbol == 2 then in_section 4 else if symbol == 3 then no_section else missing

-- a relocation of an offset to a symbol
abbrev pub relocation_to : ℕ → ℕ → Crel
relocation_to offset symbol = record { offset = offset; symbol = symbol; kind = 2; addend = pos 0 }

-- section 6 with these bytes and relocations; sections 0 to 3 are loadable
abbrev pub section_with : List ℕ → List Crel → FrameInput
section_with bytes rs = record { bytes = bytes; section = 6; relocations = rs; loadable = replicate 4 true; symbol_section = symbols_of_example }

abbrev pub cie_of_example : Cie
cie_of_example = record { offset = 0; bytes = small_cie; eligible_for_deduplication = true }

-- the FDE, as a frame of section 3 with these relocations
abbrev pub frame_of_example : List Crel → Frame
frame_of_example rs = record { section = 3; relocations = rs; size = 16; eh_frame_section = 6 }

abbrev pub lists_of_example : List Frame → FrameLists
lists_of_example fs = record { cies = cie_of_example ∷ []; frames = fs; rest = 0 }

abbrev pub rest_alone : ℕ → FrameLists
rest_alone rest = record { cies = []; frames = []; rest = rest }

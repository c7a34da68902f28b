-- Relocations of an FDE, gone over one by one.
use Rattle.std.specs.Prelude.{◌≡◌, ℕ, Bool, ◌&&◌, if◌then◌else◌, List, [], ◌∷◌, Option, Some}
use Rattle.std.specs.List.{position_from}
use Rattle.elf_format.specs.declared.crel.Crel.{Crel}
use Rattle.elf_frames.specs.declared.error.FrameError.{FrameError}
use Rattle.elf_frames.specs.declared.error.FrameError.TheVariants.{BadEntry, BadSymbol, Elf, NoMemory}
use Rattle.elf_frames.specs.Taken.{FrameInput, is_start, lacks_section, section_number}

-- whether a relocation says where the code of an FDE begins, and its symbol, or the extended section index of that, is missing
abbrev pub lacks_start : FrameInput → ℕ → Crel → Bool
lacks_start input at r = is_start at r && lacks_section (input.symbol_section r.symbol)

-- the section that an FDE is for, after one more relocation
abbrev pub section_given : FrameInput → ℕ → Crel → Option ℕ → Option ℕ
section_given input at r before = if is_start at r then section_number (input.symbol_section r.symbol) else before

-- the same after some more
abbrev pub section_after : FrameInput → ℕ → List Crel → Option ℕ → Option ℕ
section_after input at [] before = before
section_after input at (r ∷ rs) before = section_after input at rs (section_given input at r before)

-- the first of some relocations that lacks its symbol, where they are counted from an index
abbrev pub IsFirstLacking : FrameInput → ℕ → ℕ → List Crel → FrameError → Type 0
IsFirstLacking input at index rs (BadEntry offset) = ⊥
IsFirstLacking input at index rs (BadSymbol relocation) = position_from (lacks_start input at) index rs ≡ Some relocation
IsFirstLacking input at index rs (Elf e) = ⊥
IsFirstLacking input at index rs NoMemory = ⊥

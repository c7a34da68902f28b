-- The functions of an SFrame section that is one contribution, with their addresses (SFrame 2, SFrame FDE).
use Rattle.std.specs.Prelude.{ℕ, ℤ, pos, ◌+ℤ◌, List, [], ◌∷◌, length, slice_index}
use Rattle.elf_format.specs.declared.index.Span.{Span}
use Rattle.elf_format.specs.Bytes.{u32_at}
use Rattle.sframe_format.specs.Contribution.{Contribution, Function, read_ones, functions}
use Rattle.sframe_find.specs.declared.frames.FrameFunction.{FrameFunction}

-- the range that is the whole section
abbrev pub whole_span : List ℕ → Span
whole_span s = record { start = 0; stop = length s }

-- the contribution that is the whole section
abbrev pub whole_section : List ℕ → List Contribution
whole_section s = read_ones s (whole_span s ∷ [])

abbrev pub section_functions : List ℕ → List Function
section_functions s = functions (whole_section s)

-- the functions of a section, and the address of its first byte
pub record Frames : Type 0 where
  pub functions : List Function
  pub base : ℕ

abbrev pub frames_of : List ℕ → ℕ → Frames
frames_of s base = record { functions = section_functions s; base = base }

abbrev pub function_address : ℕ → Function → ℤ
function_address base f = pos base +ℤ f.start

-- the address of a function, and the fields of its FDE: after its row offset stand the number of its FREs and the info
-- byte
abbrev pub frame_function : ℕ → Function → FrameFunction
frame_function base f = record { address = function_address base f; size = u32_at f.size 0; row_count = u32_at f.info 0; info = slice_index f.info 4 }

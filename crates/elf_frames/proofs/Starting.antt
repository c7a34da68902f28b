-- Relocations of an FDE, gone over one by one.
use Rattle.std.proofs.Common.{◌≡◌, ℕ, ◌+◌, ◌<◌, Bool, true, false, cond, List, [], ◌∷◌, refl, sym, ap, ◌∙◌, slice_range}
use Rattle.std.specs.Prelude.{Option, Some, None, slice_get, option_and_then}
use Rattle.std.specs.List.{position_from}
use Rattle.std.specs.Option.{option_or}
use Rattle.elf_format.specs.declared.crel.Crel.{Crel}
use Rattle.elf_format.specs.Symbol.{last_that}
use Rattle.elf_frames.specs.Taken.{FrameInput, is_start, section_number, start_section}
use Rattle.elf_frames.specs.steps.Starts.{lacks_start, section_given, section_after}
use Rattle.elf_frames.proofs.Ranges.{range_step}

abbrev pub part : FrameInput → ℕ → ℕ → List Crel
part input i j = slice_range input.relocations i j

-- the relocations up to an index are gone over, and gave a section
pub record AtStart (input : FrameInput) (at first stop index : ℕ) (section : Option ℕ) : Type 0 where
  pub lacking : position_from (lacks_start input at) first (part input first stop) ≡ position_from (lacks_start input at) index (part input index stop)
  pub gave : start_section input at (part input first stop) ≡ section_after input at (part input index stop) section

-- the section of the last start, or else one from before
abbrev pub from_last : FrameInput → ℕ → Option Crel → Option ℕ → Option ℕ
from_last input at None before = before
from_last input at (Some r) before = section_number (input.symbol_section r.symbol)

one_more : (input : FrameInput) (at : ℕ) (o : Option Crel) (b : Bool) (r : Crel) (before : Option ℕ)
    → from_last input at o (cond b (section_number (input.symbol_section r.symbol)) before) ≡ from_last input at (option_or o (cond b (Some r) None)) before
one_more input at (Some q) b r before = refl
one_more input at None true r before = refl
one_more input at None false r before = refl

after_last : (input : FrameInput) (at : ℕ) (rs : List Crel) (before : Option ℕ) → section_after input at rs before ≡ from_last input at (last_that (is_start at) rs) before
after_last input at [] before = refl
after_last input at (r ∷ rs) before = after_last input at rs (section_given input at r before) ∙ one_more input at (last_that (is_start at) rs) (is_start at r) r before

none_before : (input : FrameInput) (at : ℕ) (o : Option Crel) → option_and_then (λ r. section_number (input.symbol_section r.symbol)) o ≡ from_last input at o None
none_before input at None = refl
none_before input at (Some r) = refl

pub begun : (input : FrameInput) (at first stop : ℕ) → AtStart input at first stop first None
begun input at first stop = record {
  lacking = refl;
  gave = none_before input at (last_that (is_start at) (part input first stop)) ∙ sym (after_last input at (part input first stop) None);
}

not_here : (b : Bool) (i : ℕ) (o : Option ℕ) → b ≡ false → cond b (Some i) o ≡ o
not_here true i o e = cc
not_here false i o e = refl

is_here : (b : Bool) (i : ℕ) (o : Option ℕ) → b ≡ true → cond b (Some i) o ≡ Some i
is_here true i o e = refl
is_here false i o e = cc

pub more : (input : FrameInput) (at first stop index : ℕ) (r : Crel) (section section' : Option ℕ) → AtStart input at first stop index section → index < stop → slice_get input.relocations index ≡ Some r
    → lacks_start input at r ≡ false → section' ≡ section_given input at r section → AtStart input at first stop (index + 1) section'
more input at first stop index r section section' h less got has gives = record {
  lacking = h.lacking ∙ ap (position_from (lacks_start input at) index) (range_step input.relocations index stop r less got) ∙ not_here (lacks_start input at r) index _ has;
  gave = h.gave ∙ ap (λ rs. section_after input at rs section) (range_step input.relocations index stop r less got) ∙ ap (section_after input at (part input (index + 1) stop)) (sym gives);
}

pub found : (input : FrameInput) (at first stop index : ℕ) (r : Crel) (section : Option ℕ) → AtStart input at first stop index section → index < stop → slice_get input.relocations index ≡ Some r
    → lacks_start input at r ≡ true → position_from (lacks_start input at) first (part input first stop) ≡ Some index
found input at first stop index r section h less got lacks =
    h.lacking ∙ ap (position_from (lacks_start input at) index) (range_step input.relocations index stop r less got) ∙ is_here (lacks_start input at r) index _ lacks

-- no relocation is left
pub over : (input : FrameInput) (at first stop index : ℕ) (section : Option ℕ) → AtStart input at first stop index section → part input index stop ≡ []
    → (section ≡ start_section input at (part input first stop)) × (position_from (lacks_start input at) first (part input first stop) ≡ None)
over input at first stop index section h e =
    (sym (h.gave ∙ ap (λ rs. section_after input at rs section) e), h.lacking ∙ ap (position_from (lacks_start input at) index) e)

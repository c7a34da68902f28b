-- Laws of the search: one cause, one answer, and what is sorted can be searched.
use Rattle.std.specs.Prelude.{◌≡◌, ℕ, List, take, Option}
use Rattle.elf_format.specs.declared.index.Span.{Span}
use Rattle.sframe_format.specs.declared.fault.SframeOutcome.TheVariants.{Sorted}
use Rattle.sframe_format.specs.Contribution.{read_ones, functions}
use Rattle.sframe_format.specs.Order.{InOrder}
use Rattle.sframe_format.specs.Sorted.{SortOf}
use Rattle.sframe_format.specs.Valid.{IsSortable}
use Rattle.sframe_order.specs.Laws.{AreBytes}
use Rattle.sframe_find.specs.declared.fault.FindFault.{FindFault}
use Rattle.sframe_find.specs.Frames.{Frames, section_functions}
use Rattle.sframe_find.specs.Ordered.{IsOrdered, IsFindCause}
use Rattle.sframe_find.specs.Scan.{IsScan}

-- a section has one cause of a refusal
abbrev pub FindCausesAreOne : Type 0
FindCausesAreOne = (s : List ℕ) (base : ℕ) (e f : FindFault) → IsFindCause s base e → IsFindCause s base f → e ≡ f

-- a section that can be searched has none
abbrev pub OrderedHasNoCause : Type 0
OrderedHasNoCause = (s : List ℕ) (base : ℕ) (e : FindFault) → IsOrdered s base → IsFindCause s base e → ⊥

-- the scan has one answer
abbrev pub ScansAreOne : Type 0
ScansAreOne = (frames : Frames) (a : ℕ) (x y : Option ℕ) → IsScan frames a x → IsScan frames a y → x ≡ y

-- The used bytes of a sorted section can be searched, for each base. They have the functions of the section, in order.
abbrev pub SortedIsOrdered : Type 0
SortedIsOrdered = (s t : List ℕ) (rs : List Span) (used base : ℕ) → AreBytes s → IsSortable s rs → SortOf s rs t (Sorted used) → IsOrdered (take used t) base × InOrder (functions (read_ones s rs)) (section_functions (take used t))

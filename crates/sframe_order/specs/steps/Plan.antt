-- What is to be done with a section. Only private contracts cite this.
use Rattle.std.specs.Prelude.{◌≡◌, ⊤, ℕ, List, [], length}
use Rattle.sframe_format.specs.declared.fault.SframeFault.{SframeFault}
use Rattle.sframe_format.specs.declared.fault.SframeFault.TheVariants as faults
use Rattle.sframe_format.specs.declared.fault.LargeKind.TheVariants as kinds
use Rattle.sframe_format.specs.declared.fault.SframeOutcome.TheVariants as outcomes
use Rattle.elf_format.specs.declared.index.Span.{Span}
use Rattle.sframe_format.specs.Contribution.{Contribution, Function, functions}
use Rattle.sframe_format.specs.Merged.{merged, used_len}
use Rattle.sframe_format.specs.Valid.{MergesInOrder, HasRoom, StartsFit, IsMergedTooLong, HasTooManyFres, HasFarStart}
use Rattle.sframe_format.specs.Sorted.{SortOf}
use Rattle.sframe_order.specs.declared.plan.Plan.{Plan}
use Rattle.sframe_order.specs.declared.plan.Plan.TheVariants.{Keep, Write}

-- the section is kept with this outcome, or these bytes are written to it
abbrev pub IsPlan : List ℕ → List Span → Plan → Type 0
IsPlan s rs (Keep outcome) = SortOf s rs s outcome
IsPlan s rs (Write bytes used) = SortOf s rs bytes.items (outcomes.Sorted used) × (length bytes.items ≡ length s)

-- the bytes are the merged section of what was read, and it has room
pub record IsWritten (s : List ℕ) (read : List Contribution) (bytes : List ℕ) (used : ℕ) : Type 0 where
  pub c : Contribution
  pub cs : List Contribution
  pub gs : List Function
  pub merge : MergesInOrder read c cs gs
  pub room : HasRoom s c cs gs
  pub starts : StartsFit c cs gs
  pub len : length bytes ≡ length s
  pub bytes_are : bytes ≡ merged s c cs gs
  pub used_is : used ≡ used_len c gs

-- the plan for the contributions that were read
abbrev pub IsMergePlan : List ℕ → List Contribution → Plan → Type 0
IsMergePlan s read (Keep outcome) = (outcome ≡ outcomes.NoDescriptors) × (functions read ≡ [])
IsMergePlan s read (Write bytes used) = IsWritten s read bytes.items used

-- why the contributions that were read are not merged
abbrev pub IsMergeFault : List ℕ → List Contribution → SframeFault → Type 0
IsMergeFault s read (faults.TooLarge kinds.Merged needed limit) = IsMergedTooLong s read needed limit
IsMergeFault s read (faults.TooLarge kinds.Rows needed limit) = HasTooManyFres s read needed limit
IsMergeFault s read (faults.TooLarge kinds.Section needed limit) = ⊥
IsMergeFault s read (faults.AddressRange index value) = HasFarStart s read index value
IsMergeFault s read faults.NoMemory = ⊤
IsMergeFault s read (faults.BadRange index) = ⊥
IsMergeFault s read (faults.BadMagic value offset) = ⊥
IsMergeFault s read (faults.Truncated kind offset) = ⊥

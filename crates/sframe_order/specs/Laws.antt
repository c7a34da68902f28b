-- Laws of sorting: what is sorted stays sorted; there is one result, one outcome and one cause.
use Rattle.std.specs.Prelude.{◌≡◌, ◌≢◌, ℕ, ◌<◌, ◌≤◌, List, [], ◌∷◌, length, true, Some, None}
use Rattle.std.specs.List.{All}
use Rattle.elf_format.specs.declared.index.Span.{Span}
use Rattle.sframe_format.specs.declared.fault.SframeOutcome.{SframeOutcome}
use Rattle.sframe_format.specs.declared.fault.SframeOutcome.TheVariants.{Sorted, NoDescriptors, OtherVersion}
use Rattle.sframe_format.specs.declared.fault.SframeFault.{SframeFault}
use Rattle.sframe_format.specs.declared.fault.SframeFault.TheVariants.{NoMemory}
use Rattle.elf_format.specs.Flags.{has_flag}
use Rattle.sframe_format.specs.Numbers.{sframe_version, sframe_header_size, sframe_f_fde_sorted}
use Rattle.sframe_format.specs.Contribution.{Contribution, Function, contribution_at, header, read_ones, other_version, functions, functions_of}
use Rattle.sframe_format.specs.Order.{InOrder}
use Rattle.sframe_format.specs.Valid.{IsSortable, IsSortCause, contribution_fault}
use Rattle.sframe_format.specs.Sorted.{SortOf}

abbrev pub AreBytes : List ℕ → Type 0
AreBytes xs = All (λ b. b < 256) xs

-- the range of the used bytes of a sorted section
abbrev pub used_span : ℕ → Span
used_span used = record { start = 0; stop = used }

-- Sorting the used bytes of a sorted section again changes nothing. Its contributions may have had relative and
-- absolute starts.
abbrev pub StaysSorted : Type 0
StaysSorted = (s t : List ℕ) (rs : List Span) (used : ℕ) → AreBytes s → IsSortable s rs → SortOf s rs t (Sorted used) → SortOf t (used_span used ∷ []) t (Sorted used)

-- the used bytes of a sorted section can be sorted again
abbrev pub StaysValid : Type 0
StaysValid = (s t : List ℕ) (rs : List Span) (used : ℕ) → AreBytes s → IsSortable s rs → SortOf s rs t (Sorted used) → IsSortable t (used_span used ∷ [])

-- a contribution of version 2, with flag 1 and without a fault, whose functions are these in order
pub record IsSortedContribution (fs : List Function) (c : Contribution) : Type 0 where
  pub long : sframe_header_size ≤ length c.bytes
  pub version : (header c).version ≡ sframe_version
  pub flag : has_flag (header c).flags sframe_f_fde_sorted ≡ true
  pub fault : contribution_fault c ≡ None
  pub order : InOrder fs (functions_of c)

-- The used bytes of a sorted section are a sorted contribution, whose functions are those of the section.
abbrev pub IsReadInOrder : Type 0
IsReadInOrder = (s t : List ℕ) (rs : List Span) (used : ℕ) → AreBytes s → IsSortable s rs → SortOf s rs t (Sorted used) → (used ≤ length t) × IsSortedContribution (functions (read_ones s rs)) (contribution_at t (used_span used))

-- sorting gives these bytes and this outcome, and nothing else
abbrev pub IsOnlySort : List ℕ → List Span → List ℕ → SframeOutcome → Type 0
IsOnlySort s rs bytes outcome = (others : List ℕ) (end : SframeOutcome) → SortOf s rs others end → (others ≡ bytes) × (end ≡ outcome)

-- a section and its ranges have one result
abbrev pub SortsInOneWay : Type 0
SortsInOneWay = (s : List ℕ) (rs : List Span) (bytes : List ℕ) (outcome : SframeOutcome) → SortOf s rs bytes outcome → IsOnlySort s rs bytes outcome

-- every section and ranges have a result, also where they cannot be sorted
abbrev pub EachHasSort : Type 0
EachHasSort = (s : List ℕ) (rs : List Span) → (bytes : List ℕ) × (outcome : SframeOutcome) × SortOf s rs bytes outcome

-- every contribution is of version 2, and none has an FDE
abbrev pub HasNoDescriptors : List ℕ → List Span → Type 0
HasNoDescriptors s rs = (other_version s rs ≡ None) × All (λ c. (header c).num_fdes ≡ 0) (read_ones s rs)

-- the outcome is OtherVersion exactly where a contribution has another version, and NoDescriptors exactly where
-- there is no FDE
abbrev pub OutcomesAreExact : Type 0
OutcomesAreExact = (s : List ℕ) (rs : List Span) (bytes : List ℕ) (outcome : SframeOutcome) → SortOf s rs bytes outcome
    → ((v : ℕ) → (outcome ≡ OtherVersion v → other_version s rs ≡ Some v) × (other_version s rs ≡ Some v → outcome ≡ OtherVersion v))
    × (outcome ≡ NoDescriptors → HasNoDescriptors s rs)
    × (HasNoDescriptors s rs → outcome ≡ NoDescriptors)

-- a section that can be sorted fails only where memory runs out
abbrev pub IsRefusedOnlyForMemory : Type 0
IsRefusedOnlyForMemory = (s : List ℕ) (rs : List Span) (e : SframeFault) → IsSortable s rs → IsSortCause s rs e → e ≡ NoMemory

-- a section and its ranges have one cause of an error, apart from out of memory
abbrev pub HasOneSortCause : Type 0
HasOneSortCause = (s : List ℕ) (rs : List Span) (e f : SframeFault) → e ≢ NoMemory → f ≢ NoMemory → IsSortCause s rs e → IsSortCause s rs f → e ≡ f

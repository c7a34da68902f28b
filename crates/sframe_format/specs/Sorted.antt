-- The result of sorting a section by its ranges: its bytes and the outcome.
use Rattle.std.specs.Prelude.{◌≡◌, ℕ, List, [], Some, None}
use Rattle.elf_format.specs.declared.index.Span.{Span}
use Rattle.sframe_format.specs.declared.fault.SframeOutcome.{SframeOutcome}
use Rattle.sframe_format.specs.declared.fault.SframeOutcome.TheVariants.{Sorted, NoDescriptors, OtherVersion}
use Rattle.sframe_format.specs.Contribution.{Contribution, Function, other_version, read_ones, functions}
use Rattle.sframe_format.specs.Merged.{used_len, merged}
use Rattle.sframe_format.specs.Valid.{MergesInOrder}

-- the bytes are the functions of s in order, as one contribution in the first `used` bytes
pub record IsMerged (s : List ℕ) (rs : List Span) (bytes : List ℕ) (used : ℕ) : Type 0 where
  pub c : Contribution
  pub cs : List Contribution
  pub gs : List Function
  pub one_version : other_version s rs ≡ None
  pub merge : MergesInOrder (read_ones s rs) c cs gs
  pub bytes_are : bytes ≡ merged s c cs gs
  pub used_is : used ≡ used_len c gs

abbrev pub SortOf : List ℕ → List Span → List ℕ → SframeOutcome → Type 0
SortOf s rs bytes (Sorted used) = IsMerged s rs bytes used
SortOf s rs bytes NoDescriptors = (bytes ≡ s) × (other_version s rs ≡ None) × (functions (read_ones s rs) ≡ [])
SortOf s rs bytes (OtherVersion v) = (bytes ≡ s) × (other_version s rs ≡ Some v)

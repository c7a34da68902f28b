-- Laws over the definitions: each has one answer.
use Rattle.std.specs.Prelude.{◌≡◌, ◌≢◌, ℕ, List}
use Rattle.index_merge.specs.declared.error.MergeError.{MergeError}
use Rattle.index_merge.specs.declared.error.MergeError.TheVariants.{NoMemory}
use Rattle.index_merge.specs.Cause.{IsIndexMergeCause}
use Rattle.index_merge.specs.Joined.{IsJoinedVector}
use Rattle.index_merge.specs.Merged.{IsMergedSize, IsMergeable}

-- a name has one joined CU vector
abbrev pub JoinedVectorsAreOne : Type 0
JoinedVectorsAreOne = (first second name vs ws : List ℕ) → IsJoinedVector first second name vs → IsJoinedVector first second name ws → vs ≡ ws

-- two indexes have one merged size
abbrev pub MergedSizesAreOne : Type 0
MergedSizesAreOne = (version : ℕ) (first second : List ℕ) (s t : ℕ) → IsMergedSize version first second s → IsMergedSize version first second t → s ≡ t

-- two indexes are not merged for one cause
abbrev pub MergeCausesAreOne : Type 0
MergeCausesAreOne = (version : ℕ) (first second : List ℕ) (offset : ℕ) (e f : MergeError) → IsIndexMergeCause version first second offset e → IsIndexMergeCause version first second offset f → e ≢ NoMemory → f ≢ NoMemory → e ≡ f

-- two indexes that can be merged have no cause but out of memory
abbrev pub MergeableHasNoCause : Type 0
MergeableHasNoCause = (version : ℕ) (first second : List ℕ) (offset : ℕ) (e : MergeError) → IsMergeable version first second offset → IsIndexMergeCause version first second offset e → e ≡ NoMemory

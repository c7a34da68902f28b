-- Why two indexes are not merged. Each cause excludes those before it.
use Rattle.std.specs.Prelude.{◌≡◌, ◌⊎◌, ℕ, ◌^◌, ◌<◌, ◌≤◌, List, position, Some, None, Result, MatchResult}
use Rattle.gdb_index_format.specs.Units.{index_units}
use Rattle.index_merge.specs.declared.error.MergeError.{MergeError}
use Rattle.index_merge.specs.declared.error.MergeError.TheVariants.{OffsetTooLarge, TooManyUnits, IndexTooLarge, NoMemory}
use Rattle.index_merge.specs.Merged.{units_in_all, is_too_far, IsMergedSize}

-- `NoMemory` needs no cause
abbrev pub IsIndexMergeCause : ℕ → List ℕ → List ℕ → ℕ → MergeError → Type 0
IsIndexMergeCause version first second offset (OffsetTooLarge k) = position (is_too_far offset) (index_units second) ≡ Some k
IsIndexMergeCause version first second offset (TooManyUnits n) = (position (is_too_far offset) (index_units second) ≡ None) × (n ≡ units_in_all first second) × (2 ^ 24 < n)
IsIndexMergeCause version first second offset (IndexTooLarge n) = (position (is_too_far offset) (index_units second) ≡ None) × (units_in_all first second ≤ 2 ^ 24) × IsMergedSize version first second n × (2 ^ 32 ≤ n)
IsIndexMergeCause version first second offset NoMemory = Unit {0}

-- the answer where an error has a cause: that error, or out of memory
abbrev pub IsUnmergedFor : {X : Type 0} → Result X MergeError → MergeError → Type 0
IsUnmergedFor r e = MatchResult r (λ _. ⊥) (λ f. (f ≡ e) ⊎ (f ≡ NoMemory))

-- out of memory, and no other refusal
abbrev pub IsMergeMemory : MergeError → Type 0
IsMergeMemory (OffsetTooLarge k) = ⊥
IsMergeMemory (TooManyUnits n) = ⊥
IsMergeMemory (IndexTooLarge n) = ⊥
IsMergeMemory NoMemory = Unit {0}

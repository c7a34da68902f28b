-- What is answered: valid input has tables, or memory ran out; other input is refused for its cause.
use Rattle.std.proofs.Common.{◌≡◌, ◌⊎◌, inl, inr}
use Rattle.derivation.specs.declared.error.DeriveError.{DeriveError}
use Rattle.derivation.specs.declared.error.DeriveError.TheVariants.{NoMemory}
use Rattle.derivation.specs.Cause.{HasCause}
use Rattle.derivation.specs.Input.{Input}
use Rattle.derivation.specs.Laws.{HasOneCause, ValidHasNoCause}
use Rattle.derivation.specs.Valid.{IsValid}
use Rattle.derivation.specs.steps.Derived.{IsRefusedBy}

-- a cause is the one that is told
pub told : HasOneCause → (input : Input) (e f : DeriveError) → IsRefusedBy input f → HasCause input e → (f ≡ e) ⊎ (f ≡ NoMemory)
told one input e f found cause =
    elim found [
      | inl memory ↦ inr memory
      | inr other ↦ inl (one input f e other cause)
    ]

-- valid input is refused only for out of memory
pub only_memory : ValidHasNoCause → (input : Input) (f : DeriveError) → IsRefusedBy input f → IsValid input → f ≡ NoMemory
only_memory none input f found valid =
    elim found [
      | inl memory ↦ memory
      | inr other ↦ absurd (none input f valid other)
    ]

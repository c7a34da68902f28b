-- The fault of a contribution as that of a search. Only private contracts cite this.
use Rattle.std.specs.Prelude.{◌≡◌, Some}
use Rattle.sframe_format.specs.declared.fault.SframeFault.TheVariants as sort
use Rattle.sframe_format.specs.Contribution.{Contribution}
use Rattle.sframe_format.specs.Valid.{contribution_fault}
use Rattle.sframe_find.specs.declared.fault.FindFault.{FindFault}
use Rattle.sframe_find.specs.declared.fault.FindFault.TheVariants as faults

-- the contribution is truncated there
abbrev pub IsTruncation : Contribution → FindFault → Type 0
IsTruncation c (faults.Truncated kind offset) = contribution_fault c ≡ Some (sort.Truncated kind offset)
IsTruncation c faults.Short = ⊥
IsTruncation c (faults.Header error) = ⊥
IsTruncation c faults.NotSorted = ⊥
IsTruncation c (faults.NotAscending k) = ⊥

-- Private steps: what the phases give for an input. Only private contracts cite it.
use Rattle.std.specs.Prelude.{◌≡◌, ◌⊎◌}
use Rattle.gdb_index_format.specs.Version.{version_number}
use Rattle.gdb_tables.specs.Index.{IsIndexOf}
use Rattle.sframe_format.specs.Sorted.{SortOf}
use Rattle.derivation.specs.declared.derive.Derived.{Derived}
use Rattle.derivation.specs.declared.error.DeriveError.{DeriveError}
use Rattle.derivation.specs.declared.error.DeriveError.TheVariants.{NoMemory}
use Rattle.derivation.specs.Cause.{HasCause}
use Rattle.derivation.specs.Input.{Input}
use Rattle.derivation.specs.Objects.{parsed_of}
use Rattle.derivation.specs.Valid.{IsValid}

-- valid input, and its tables
pub record HasTablesOf (input : Input) (derived : Derived) : Type 0 where
  pub valid : IsValid input
  pub index : IsIndexOf (version_number input.version) (parsed_of input.buffer input.objects) input.placements derived.units.items derived.names.items derived.index.items
  pub sframe : SortOf input.sframe input.ranges derived.sframe.items derived.outcome

-- a cause of the error; out of memory needs none
abbrev pub IsRefusedBy : Input → DeriveError → Type 0
IsRefusedBy input e = (e ≡ NoMemory) ⊎ HasCause input e

-- The errors of writing FDEs. Only private contracts cite this.
use Rattle.std.specs.Prelude.{⊤, ℤ, List}
use Rattle.sframe_format.specs.declared.fault.SframeFault.{SframeFault}
use Rattle.sframe_format.specs.declared.fault.SframeFault.TheVariants as faults
use Rattle.sframe_format.specs.Valid.{IsFirstFar}

-- a start value does not fit its field, or memory ran out
abbrev pub IsFarStart : List ℤ → SframeFault → Type 0
IsFarStart starts (faults.AddressRange index value) = IsFirstFar starts index value
IsFarStart starts faults.NoMemory = ⊤
IsFarStart starts (faults.BadRange index) = ⊥
IsFarStart starts (faults.BadMagic value offset) = ⊥
IsFarStart starts (faults.Truncated kind offset) = ⊥
IsFarStart starts (faults.TooLarge kind needed limit) = ⊥

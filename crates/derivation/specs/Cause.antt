-- Why an input has no tables: each error by its cause.
use Rattle.std.specs.Prelude.{◌≡◌, ◌≢◌, ℕ, List, not, length, position, Some}
use Rattle.elf_format.specs.declared.error.ElfError.{ElfError}
use Rattle.elf_format.specs.declared.index.Span.{Span}
use Rattle.elf_format.specs.Span.{is_inside}
use Rattle.elf_view.specs.Parsed.{Parsed}
use Rattle.gdb_index_format.specs.declared.placement.Placement.{Placement}
use Rattle.gdb_index_format.specs.declared.unit.CuBoundary.{CuBoundary}
use Rattle.gdb_index_format.specs.Objects.{AreUnitsOf}
use Rattle.gdb_scan.specs.declared.error.GdbError.{GdbError}
use Rattle.gdb_scan.specs.declared.error.GdbError.TheVariants as gdb
use Rattle.gdb_tables.specs.Addresses.{first_relocation_fault}
use Rattle.gdb_tables.specs.Files as files
use Rattle.gdb_tables.specs.Misplaced.{misplaced}
use Rattle.gdb_tables.specs.Sized.{IsSizeCause}
use Rattle.sframe_format.specs.declared.fault.SframeFault.{SframeFault}
use Rattle.sframe_format.specs.declared.fault.SframeFault.TheVariants as faults
use Rattle.sframe_format.specs.Valid as frames
use Rattle.derivation.specs.declared.error.DeriveError.{DeriveError}
use Rattle.derivation.specs.declared.error.DeriveError.TheVariants as errors
use Rattle.derivation.specs.Input.{Input}
use Rattle.derivation.specs.Objects.{objects_of, parsed_of, IsFirstFaulty}
use Rattle.gdb_index_format.specs.Version.{version_number}
use Rattle.derivation.specs.Valid.{HasSpans, HasObjects, HasPlacements, HasIndex, HasRelocations}

-- the span of this index is the first that is reversed or ends after the end of the buffer
abbrev pub IsSpanCause : Input → DeriveError → Type 0
IsSpanCause input e = (index : ℕ) × (e ≡ errors.BadSpan index) × (position (λ s. not (is_inside (length input.buffer) s)) input.objects ≡ Some index)

-- the object of this index is the first with a fault, and this is its fault
abbrev pub IsObjectCause : Input → DeriveError → Type 0
IsObjectCause input e = (index : ℕ) × (kind : ElfError) × (e ≡ errors.BadElf index kind) × IsFirstFaulty input.machine (objects_of input.buffer input.objects) index kind

-- the placement of this index is the first that does not follow the one before it by object and section, names an object or a
-- section that does not exist, or has an end that does not fit 64 bits
abbrev pub IsPlacementCause : Input → DeriveError → Type 0
IsPlacementCause input e = (index : ℕ) × (e ≡ errors.BadPlacement index) × (misplaced (objects_of input.buffer input.objects) input.placements ≡ Some index)

-- the error of the index, as an error of the tables
abbrev pub of_gdb_error : GdbError → DeriveError
of_gdb_error (gdb.BadElf object kind) = errors.BadElf object kind
of_gdb_error (gdb.CompressedSection object section) = errors.CompressedSection object section
of_gdb_error (gdb.BadUnit object offset fault) = errors.BadUnit object offset fault
of_gdb_error (gdb.BadPubnames object section) = errors.BadPubnames object section
of_gdb_error (gdb.TooManyUnits count) = errors.TooManyUnits count
of_gdb_error (gdb.IndexTooLarge size) = errors.IndexTooLarge size
of_gdb_error gdb.NoMemory = errors.NoMemory

-- the index of files, of this version, has no size, for this cause
abbrev pub IsUnsized : ℕ → List (List ℕ) → List Placement → DeriveError → Type 0
IsUnsized version bytes placements e = (g : GdbError) × (g ≢ gdb.NoMemory) × (e ≡ of_gdb_error g) × IsSizeCause version bytes placements g

abbrev pub IsIndexCause : Input → DeriveError → Type 0
IsIndexCause input e = IsUnsized (version_number input.version) (objects_of input.buffer input.objects) input.placements e

-- the object of this index is the first with two units or more whose relocations have a fault
abbrev pub IsUnrelocated : List Parsed → DeriveError → Type 0
IsUnrelocated parsed e =
    (uss : List (List CuBoundary)) × (index : ℕ) × (kind : ElfError) × (e ≡ errors.BadElf index kind) × AreUnitsOf (files.file_bytes parsed) uss × (first_relocation_fault parsed uss ≡ Some (index, kind))

abbrev pub IsRelocationCause : Input → DeriveError → Type 0
IsRelocationCause input e = IsUnrelocated (parsed_of input.buffer input.objects) e

-- the error of the SFrame section, as an error of the tables
abbrev pub of_sframe_fault : SframeFault → DeriveError
of_sframe_fault (faults.BadRange index) = errors.BadRange index
of_sframe_fault (faults.BadMagic value offset) = errors.BadMagicBytes value offset
of_sframe_fault (faults.Truncated kind offset) = errors.SframeTruncated kind offset
of_sframe_fault (faults.TooLarge kind needed limit) = errors.SframeTooLarge kind needed limit
of_sframe_fault (faults.AddressRange function value) = errors.SframeAddressRange function value
of_sframe_fault faults.NoMemory = errors.NoMemory

-- the SFrame section is not ordered, for this cause
abbrev pub IsUnordered : List ℕ → List Span → DeriveError → Type 0
IsUnordered sframe ranges e = (g : SframeFault) × (g ≢ faults.NoMemory) × (e ≡ of_sframe_fault g) × frames.IsSortCause sframe ranges g

abbrev pub IsSframeCause : Input → DeriveError → Type 0
IsSframeCause input e = IsUnordered input.sframe input.ranges e

-- The cause of an error: that of the first condition, in this order, which does not hold. `NoMemory` has none.
pub data HasCause (input : Input) (e : DeriveError) : Type 0 where
  in_spans : IsSpanCause input e → HasCause input e
  in_objects : HasSpans input → IsObjectCause input e → HasCause input e
  in_placements : HasSpans input → HasObjects input → IsPlacementCause input e → HasCause input e
  in_index : HasSpans input → HasObjects input → HasPlacements input → IsIndexCause input e → HasCause input e
  in_relocations : HasSpans input → HasObjects input → HasPlacements input → HasIndex input → IsRelocationCause input e → HasCause input e
  in_sframe : HasSpans input → HasObjects input → HasPlacements input → HasIndex input → HasRelocations input → IsSframeCause input e → HasCause input e

-- An error of a lower crate is that of the tables, or `NoMemory`.
use Rattle.std.proofs.Common.{◌≡◌, ◌≢◌, ◌⊎◌, ℕ, List, refl, ◌∙◌, inl, inr}
use Rattle.elf_format.specs.declared.index.Span.{Span}
use Rattle.gdb_index_format.specs.declared.placement.Placement.{Placement}
use Rattle.gdb_scan.specs.declared.error.GdbError.{GdbError}
use Rattle.gdb_scan.specs.declared.error.GdbError.TheVariants as gdb
use Rattle.elf_view.specs.Parsed.{Parsed}
use Rattle.gdb_index_format.specs.declared.unit.CuBoundary.{CuBoundary}
use Rattle.gdb_index_format.specs.Objects.{AreUnitsOf}
use Rattle.gdb_tables.specs.Addresses.{first_relocation_fault, IsAddressCause}
use Rattle.gdb_tables.specs.Files.{file_bytes}
use Rattle.gdb_tables.specs.Sized.{IsSizeCause}
use Rattle.sframe_format.specs.declared.fault.SframeFault.{SframeFault}
use Rattle.sframe_format.specs.declared.fault.SframeFault.TheVariants as faults
use Rattle.sframe_format.specs.Valid as frames
use Rattle.derivation.specs.declared.error.DeriveError.{DeriveError}
use Rattle.derivation.specs.declared.error.DeriveError.TheVariants as errors
use Rattle.derivation.specs.Cause.{of_gdb_error, of_sframe_fault, IsUnsized, IsUnordered, IsUnrelocated}

no_gdb_memory : (g : GdbError) → (g ≡ gdb.NoMemory) ⊎ (g ≢ gdb.NoMemory)
no_gdb_memory (gdb.BadElf object kind) = inr (λ h. cc)
no_gdb_memory (gdb.CompressedSection object section) = inr (λ h. cc)
no_gdb_memory (gdb.BadUnit object offset fault) = inr (λ h. cc)
no_gdb_memory (gdb.BadPubnames object section) = inr (λ h. cc)
no_gdb_memory (gdb.TooManyUnits count) = inr (λ h. cc)
no_gdb_memory (gdb.IndexTooLarge size) = inr (λ h. cc)
no_gdb_memory gdb.NoMemory = inl refl

no_sframe_memory : (g : SframeFault) → (g ≡ faults.NoMemory) ⊎ (g ≢ faults.NoMemory)
no_sframe_memory (faults.BadRange place) = inr (λ h. cc)
no_sframe_memory (faults.BadMagic value offset) = inr (λ h. cc)
no_sframe_memory (faults.Truncated kind offset) = inr (λ h. cc)
no_sframe_memory (faults.TooLarge kind needed limit) = inr (λ h. cc)
no_sframe_memory (faults.AddressRange function value) = inr (λ h. cc)
no_sframe_memory faults.NoMemory = inl refl

memory_told : (g : GdbError) → g ≡ gdb.NoMemory → of_gdb_error g ≡ errors.NoMemory
memory_told g none = rw none refl

sframe_memory_told : (g : SframeFault) → g ≡ faults.NoMemory → of_sframe_fault g ≡ errors.NoMemory
sframe_memory_told g none = rw none refl

pub unsized : (version : ℕ) (bytes : List (List ℕ)) (placements : List Placement) (g : GdbError) (e : DeriveError) → e ≡ of_gdb_error g → IsSizeCause version bytes placements g → (e ≡ errors.NoMemory) ⊎ IsUnsized version bytes placements e
unsized version bytes placements g e told cause =
    elim (no_gdb_memory g) [
      | inl none ↦ inl (told ∙ memory_told g none)
      | inr some ↦ inr (g, some, told, cause)
    ]

pub unordered : (sframe : List ℕ) (ranges : List Span) (g : SframeFault) (e : DeriveError) → e ≡ of_sframe_fault g → frames.IsSortCause sframe ranges g → (e ≡ errors.NoMemory) ⊎ IsUnordered sframe ranges e
unordered sframe ranges g e told cause =
    elim (no_sframe_memory g) [
      | inl none ↦ inl (told ∙ sframe_memory_told g none)
      | inr some ↦ inr (g, some, told, cause)
    ]

pub unrelocated : (parsed : List Parsed) (uss : List (List CuBoundary)) (g : GdbError) (e : DeriveError) → e ≡ of_gdb_error g → AreUnitsOf (file_bytes parsed) uss → IsAddressCause (first_relocation_fault parsed uss) g → (e ≡ errors.NoMemory) ⊎ IsUnrelocated parsed e
unrelocated parsed uss (gdb.BadElf object kind) e told held cause = inr (uss, object, kind, told, held, cause)
unrelocated parsed uss (gdb.CompressedSection object section) e told held cause = absurd cause
unrelocated parsed uss (gdb.BadUnit object offset fault) e told held cause = absurd cause
unrelocated parsed uss (gdb.BadPubnames object section) e told held cause = absurd cause
unrelocated parsed uss (gdb.TooManyUnits count) e told held cause = absurd cause
unrelocated parsed uss (gdb.IndexTooLarge size) e told held cause = absurd cause
unrelocated parsed uss gdb.NoMemory e told held cause = inl told

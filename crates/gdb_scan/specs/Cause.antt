-- Why an object is not scanned. Out of memory needs no cause.
use Rattle.std.specs.Prelude.{◌≡◌, ◌⊎◌, ℕ, List, ◌∷◌, ◌++◌, Some, None, Result, MatchResult}
use Rattle.elf_format.specs.declared.error.ElfError.TheVariants.{SectionData}
use Rattle.elf_format.specs.declared.index.SectionIndex.{SectionIndex}
use Rattle.elf_format.specs.Class.{Class}
use Rattle.elf_format.specs.Section.{section_bytes}
use Rattle.gdb_index_format.specs.declared.unit.CuBoundary.{CuBoundary}
use Rattle.gdb_index_format.specs.Units.{FailsAt}
use Rattle.gdb_index_format.specs.Names.{NameSet, IsSetList}
use Rattle.gdb_index_format.specs.Objects.{info_bytes, pubnames_sections, first_compressed, IsUnitsOf, AreSetsOfSections}
use Rattle.gdb_scan.specs.declared.error.GdbError.{GdbError}
use Rattle.gdb_scan.specs.declared.error.GdbError.TheVariants.{BadElf, CompressedSection, BadUnit, BadPubnames, TooManyUnits, IndexTooLarge, NoMemory}

-- why the units of an object are not read: the bytes of its `.debug_info` are out of range, or no unit begins at an
-- offset of them
abbrev pub IsUnitCause : Class → ℕ → List ℕ → GdbError → Type 0
IsUnitCause c object file (BadElf i kind) = (i ≡ object) × (kind ≡ SectionData) × (info_bytes c file ≡ None)
IsUnitCause c object file (CompressedSection i s) = ⊥
IsUnitCause c object file (BadUnit i offset fault) = (i ≡ object) × ((bytes : List ℕ) × (info_bytes c file ≡ Some bytes) × FailsAt bytes offset fault)
IsUnitCause c object file (BadPubnames i s) = ⊥
IsUnitCause c object file (TooManyUnits n) = ⊥
IsUnitCause c object file (IndexTooLarge n) = ⊥
IsUnitCause c object file NoMemory = Unit {0}

-- why the bytes of a pubnames section are not read: they are no list of sets
abbrev pub IsSetsCause : ℕ → SectionIndex → List ℕ → GdbError → Type 0
IsSetsCause object section bytes (BadElf i kind) = ⊥
IsSetsCause object section bytes (CompressedSection i at) = ⊥
IsSetsCause object section bytes (BadUnit i offset fault) = ⊥
IsSetsCause object section bytes (BadPubnames i at) = (i ≡ object) × (at ≡ section) × ((ss : List NameSet) → IsSetList bytes ss → ⊥)
IsSetsCause object section bytes (TooManyUnits n) = ⊥
IsSetsCause object section bytes (IndexTooLarge n) = ⊥
IsSetsCause object section bytes NoMemory = Unit {0}

-- why a pubnames section, by its index and its header, is not read: its bytes are out of range, or no list of sets
pub data IsSectionCause (c : Class) (object : ℕ) (file : List ℕ) (s : ℕ × List ℕ) : GdbError → Type 0 where
  leaves : section_bytes c file s.1 ≡ None → IsSectionCause c object file s (BadElf object SectionData)
  no_sets : (bytes : List ℕ) → section_bytes c file s.1 ≡ Some bytes → (e : GdbError) → IsSetsCause object (record { 0 = s.0 }) bytes e → IsSectionCause c object file s e

-- The first of some sections that is not read, and why.
pub record FirstBadSection (c : Class) (object : ℕ) (file : List ℕ) (sections : List (ℕ × List ℕ)) (e : GdbError) : Type 0 where
  pub before : List (ℕ × List ℕ)
  pub section : ℕ × List ℕ
  pub after : List (ℕ × List ℕ)
  pub listed : sections ≡ before ++ section ∷ after
  pub sets : List NameSet
  pub sound : AreSetsOfSections c file before sets
  pub cause : IsSectionCause c object file section e

-- why the names of an object are not read
abbrev pub IsNamesCause : Class → ℕ → List ℕ → GdbError → Type 0
IsNamesCause c object file e = FirstBadSection c object file (pubnames_sections c file) e

-- An object with a unit whose names are not read.
pub record FailsInNames (c : Class) (object : ℕ) (file : List ℕ) (e : GdbError) : Type 0 where
  pub first : CuBoundary
  pub others : List CuBoundary
  pub units : IsUnitsOf c file (first ∷ others)
  pub names : IsNamesCause c object file e

-- Why an object is not scanned: one of its sections is compressed; or none is, and its units are not read; or
-- it has units, and its names are not read.
pub data IsScanCause (c : Class) (object : ℕ) (file : List ℕ) : GdbError → Type 0 where
  compressed : (s : SectionIndex) → first_compressed c file ≡ Some s.0 → IsScanCause c object file (CompressedSection object s)
  in_units : (e : GdbError) → first_compressed c file ≡ None → IsUnitCause c object file e → IsScanCause c object file e
  in_names : (e : GdbError) → first_compressed c file ≡ None → FailsInNames c object file e → IsScanCause c object file e
  no_memory : IsScanCause c object file NoMemory

-- the answer where an error has a cause: that error, or out of memory
abbrev pub IsRefusedFor : {X : Type 0} → Result X GdbError → GdbError → Type 0
IsRefusedFor r e = MatchResult r (λ _. ⊥) (λ f. (f ≡ e) ⊎ (f ≡ NoMemory))

-- out of memory, and no other refusal
abbrev pub IsOnlyMemory : GdbError → Type 0
IsOnlyMemory (BadElf i kind) = ⊥
IsOnlyMemory (CompressedSection i s) = ⊥
IsOnlyMemory (BadUnit i offset fault) = ⊥
IsOnlyMemory (BadPubnames i s) = ⊥
IsOnlyMemory (TooManyUnits n) = ⊥
IsOnlyMemory (IndexTooLarge n) = ⊥
IsOnlyMemory NoMemory = Unit {0}

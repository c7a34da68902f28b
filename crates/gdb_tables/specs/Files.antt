-- What the scans of all objects say of their bytes.
use Rattle.std.specs.Prelude.{◌≡◌, ℕ, ◌+◌, ◌*◌, ◌^◌, ◌<◌, ◌≤◌, List, [], ◌∷◌, length, map, take, slice_get, Option, Some, None}
use Rattle.std.specs.List.{All, AllByRecursion, sum_by}
use Rattle.elf_format.specs.Section.{sections}
use Rattle.elf_view.specs.Parsed.{Parsed}
use Rattle.elf_view.specs.AnyFile.{parsed}
use Rattle.elf_view.specs.declared.any_file.AnyFile.{AnyFile}
use Rattle.gdb_index_format.specs.declared.placement.Placement.{Placement}
use Rattle.gdb_index_format.specs.Published.{Object, published, unit_lists}
use Rattle.gdb_index_format.specs.Objects.{AreObjectsOf, class_in, first_compressed}
use Rattle.gdb_index_format.specs.Placed.{placed}
use Rattle.gdb_scan.specs.declared.error.GdbError.{GdbError}
use Rattle.gdb_scan.specs.declared.error.GdbError.TheVariants.{NoMemory}
use Rattle.gdb_scan.specs.Cause.{IsScanCause}
use Rattle.gdb_scan.specs.PlacedIn.{ArePlacements}
use Rattle.gdb_scan.specs.Scan.{ObjectScan}
use Rattle.gdb_scan.specs.Scanned.{ScansObject}
use Rattle.gdb_tables.specs.Scans.{AreScansOf, placed_total}

-- files of either class, as they were parsed
abbrev pub all_parsed : List AnyFile → List Parsed
all_parsed files = map parsed files

abbrev pub file_bytes : List Parsed → List (List ℕ)
file_bytes files = map (λ f. f.bytes) files

-- a section of an object that is there
abbrev pub IsThere : Option (List ℕ) → ℕ → Type 0
IsThere None section = ⊥
IsThere (Some file) section = section < length (sections (class_in file) file)

-- Placements in their order, whose ends fit 64 bits, each of an object and a section that are there.
pub record ArePlacedIn (files : List (List ℕ)) (ps : List Placement) : Type 0 where
  pub in_order : ArePlacements ps
  pub there : All (λ p. IsThere (slice_get files p.object) p.section) ps

-- no section of these files that is read is compressed
abbrev pub ArePlain : List (List ℕ) → Type 0
ArePlain files = AllByRecursion (λ file. first_compressed (class_in file) file ≡ None) files

-- the bytes of all published names, with two more for each
abbrev pub published_bytes : List Object → ℕ
published_bytes os = sum_by (λ p. length p.name + 2) (published os)

-- each scan is that of the file beside it, as the object of its index; the first file has the index `at`
abbrev pub AreFileScans : List Placement → ℕ → List (List ℕ) → List (Option ObjectScan) → Type 0
AreFileScans ps at [] [] = Unit {0}
AreFileScans ps at [] (s ∷ ss) = ⊥
AreFileScans ps at (file ∷ files) [] = ⊥
AreFileScans ps at (file ∷ files) (s ∷ ss) = ScansObject (class_in file) file at ps s × AreFileScans ps (at + 1) files ss

-- Files that hold objects, with the scans of these. Their number bounds what they
-- publish, and how many of their sections are placed.
pub record ScansObjects (files : List (List ℕ)) (ps : List Placement) (scans : List (Option ObjectScan)) : Type 0 where
  pub objects : List Object
  pub held : AreObjectsOf files objects
  pub plain : ArePlain files
  pub scanned : AreScansOf objects scans
  pub each : AreFileScans ps 0 files scans
  pub placed : placed_total scans ≡ length (placed files (unit_lists objects) ps)
  pub small : published_bytes objects ≤ length files * 2 ^ 73
  pub few : placed_total scans ≤ length files * 2 ^ 39

-- The first object that is not scanned, and why: those before it are well formed.
pub record FirstBadObject (files : List (List ℕ)) (e : GdbError) : Type 0 where
  pub object : ℕ
  pub file : List ℕ
  pub there : slice_get files object ≡ Some file
  pub before : List Object
  pub held : AreObjectsOf (take object files) before
  pub plain : ArePlain (take object files)
  pub cause : IsScanCause (class_in file) object file e

-- why the objects are not scanned; out of memory needs no cause
pub data IsFilesCause (files : List (List ℕ)) : GdbError → Type 0 where
  in_object : (e : GdbError) → FirstBadObject files e → IsFilesCause files e
  no_memory : IsFilesCause files NoMemory

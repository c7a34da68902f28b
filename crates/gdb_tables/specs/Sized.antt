-- The size of the index of some objects, and why there is none.
use Rattle.std.specs.Prelude.{◌≡◌, ℕ, ◌^◌, ◌<◌, ◌≤◌, List, [], length, Option, Some, None}
use Rattle.gdb_index.specs.Scan.{Scan, IsWellFormedScan}
use Rattle.gdb_index_format.specs.declared.placement.Placement.{Placement}
use Rattle.gdb_index_format.specs.Named.{ListsPublished}
use Rattle.gdb_index_format.specs.Published.{Object, units_of_all, published, unit_lists}
use Rattle.gdb_index_format.specs.Objects.{AreObjectsOf}
use Rattle.gdb_index_format.specs.Placed.{placed}
use Rattle.gdb_index_format.specs.Size.{IsSize, counts_of}
use Rattle.gdb_scan.specs.declared.error.GdbError.{GdbError}
use Rattle.gdb_scan.specs.declared.error.GdbError.TheVariants.{TooManyUnits, IndexTooLarge, NoMemory}
use Rattle.gdb_tables.specs.Addresses.{IsScanOfUnits}
use Rattle.gdb_tables.specs.Files.{ArePlain, FirstBadObject}

-- The units of all objects, their names and CU vectors, and their counts.
pub record IsScanOfAll (os : List Object) (count : ℕ) (scan : Scan) : Type 0 where
  pub some : 0 < length (units_of_all os)
  pub well_formed : IsWellFormedScan scan
  pub own : IsScanOfUnits (unit_lists os) count scan
  pub names : ListsPublished (published os) scan.names

-- without a unit there is no scan
abbrev pub IsScanOrNone : List Object → ℕ → Option Scan → Type 0
IsScanOrNone os count None = units_of_all os ≡ []
IsScanOrNone os count (Some scan) = IsScanOfAll os count scan

-- Files that hold objects, whose index has this size and this scan.
pub record SizesIndex (version : ℕ) (files : List (List ℕ)) (ps : List Placement) (size : ℕ) (scan : Option Scan) : Type 0 where
  pub objects : List Object
  pub held : AreObjectsOf files objects
  pub plain : ArePlain files
  pub few : length (units_of_all objects) ≤ 2 ^ 24
  pub size_is : IsSize version (counts_of objects (length (placed files (unit_lists objects) ps))) size
  pub scanned : IsScanOrNone objects (length (placed files (unit_lists objects) ps)) scan

-- Files that hold objects, whose index has a size that its offsets can count.
pub record IsIndexable (version : ℕ) (files : List (List ℕ)) (ps : List Placement) : Type 0 where
  pub objects : List Object
  pub held : AreObjectsOf files objects
  pub plain : ArePlain files
  pub few : length (units_of_all objects) ≤ 2 ^ 24
  pub size : ℕ
  pub size_is : IsSize version (counts_of objects (length (placed files (unit_lists objects) ps))) size
  pub fits : size < 2 ^ 32

-- Why an index has no size: the first object that is not scanned, or objects that have too many units, or whose
-- index is too large. Out of memory needs no cause.
pub data IsSizeCause (version : ℕ) (files : List (List ℕ)) (ps : List Placement) : GdbError → Type 0 where
  in_object : (e : GdbError) → FirstBadObject files e → IsSizeCause version files ps e
  too_many : (os : List Object) → AreObjectsOf files os → ArePlain files → 2 ^ 24 < length (units_of_all os) → IsSizeCause version files ps (TooManyUnits (length (units_of_all os)))
  too_large : (os : List Object) → AreObjectsOf files os → ArePlain files → length (units_of_all os) ≤ 2 ^ 24 → (size : ℕ) → IsSize version (counts_of os (length (placed files (unit_lists os) ps))) size → 2 ^ 32 ≤ size → IsSizeCause version files ps (IndexTooLarge size)
  no_memory : IsSizeCause version files ps NoMemory

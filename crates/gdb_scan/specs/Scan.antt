-- What one object holds for an index.
use Rattle.std.specs.Prelude.{◌≡◌, ◌≢◌, ℕ, ◌*◌, ◌^◌, ◌<◌, ◌≤◌, List, [], length, Option, Some, None}
use Rattle.std.specs.List.{All, AllByRecursion}
use Rattle.gdb_index_format.specs.declared.unit.CuBoundary.{CuBoundary}
use Rattle.gdb_index_format.specs.Units.{total_length}
use Rattle.gdb_index_format.specs.Published.{Object}
use Rattle.gdb_scan.specs.declared.mark.Mark.{Mark}
use Rattle.gdb_scan.specs.Buckets.{in_buckets}
use Rattle.gdb_scan.specs.Groups.{groups}
use Rattle.gdb_scan.specs.Marks.{marks_of}

-- an object's units, its names by bucket, each with its marks, and how many of its sections are placed
pub record ObjectScan : Type 0 where
  pub units : List CuBoundary
  pub names : List (List ℕ × List Mark)
  pub placed : ℕ

-- A name without a zero byte, with marks that name units of the object.
pub record IsObjectName (units : ℕ) (g : List ℕ × List Mark) : Type 0 where
  pub no_zero : All (λ c. c ≢ 0) g.0
  pub some : g.1 ≢ []
  pub within : AllByRecursion (λ m. m.unit < units) g.1

-- What holds of every scan of an object: the sizes are those of a file of fewer than 2^39 bytes.
pub record IsSoundScan (s : ObjectScan) : Type 0 where
  pub some : 0 < length s.units
  pub counted : 4 * length s.units ≤ total_length s.units
  pub small : total_length s.units < 2 ^ 39
  pub placed : s.placed < 2 ^ 39
  pub names : AllByRecursion (IsObjectName (length s.units)) s.names

-- an object without a unit has no scan
abbrev pub units_in_scan : Option ObjectScan → List CuBoundary
units_in_scan None = []
units_in_scan (Some s) = s.units

abbrev pub names_in_scan : Option ObjectScan → List (List ℕ × List Mark)
names_in_scan None = []
names_in_scan (Some s) = s.names

abbrev pub placed_in_scan : Option ObjectScan → ℕ
placed_in_scan None = 0
placed_in_scan (Some s) = s.placed

-- the names of a scan have marks of its units alone
abbrev pub HasSoundNames : Option ObjectScan → Type 0
HasSoundNames s = AllByRecursion (IsObjectName (length (units_in_scan s))) (names_in_scan s)

-- this is the scan of an object, the number of its placed sections aside: none exactly where the object has no unit.
-- Within one bucket the names stand in the order of first publication.
abbrev pub IsScanOf : Object → Option ObjectScan → Type 0
IsScanOf o None = o.units ≡ []
IsScanOf o (Some s) = (s.units ≡ o.units) × (s.names ≡ in_buckets (groups (marks_of o.units o.sets))) × (o.units ≢ [])

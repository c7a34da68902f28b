-- The scan of an object, by its units and its publications of names.
use Rattle.std.specs.Prelude.{ℕ, ◌<◌, List, length}
use Rattle.std.specs.List.{All}
use Rattle.gdb_index_format.specs.declared.unit.CuBoundary.{CuBoundary}
use Rattle.gdb_scan.specs.declared.mark.Publication.{Publication}
use Rattle.gdb_scan.specs.Buckets.{in_buckets}
use Rattle.gdb_scan.specs.Groups.{groups}
use Rattle.gdb_scan.specs.Marks.{all_marked}
use Rattle.gdb_scan.specs.Scan.{ObjectScan}

abbrev pub scan_of : List CuBoundary → List Publication → ℕ → ObjectScan
scan_of us ps placed = record { units = us; names = in_buckets (groups (all_marked ps)); placed = placed }

-- publications by these units alone
abbrev pub AreWithin : List CuBoundary → List Publication → Type 0
AreWithin us ps = All (λ p. p.unit < length us) ps

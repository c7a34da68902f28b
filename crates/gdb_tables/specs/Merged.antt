-- The merge of all scans.
use Rattle.std.specs.Prelude.{◌≡◌, ℕ, ◌^◌, ◌<◌, ◌≤◌, List, [], ◌∷◌}
use Rattle.std.specs.List.Sorted.{IsPermutation, IsNonDecreasing}
use Rattle.gdb_index.specs.Scan.{Scan}
use Rattle.gdb_index_format.specs.Named.{Named, ListsPublished}
use Rattle.gdb_index_format.specs.Published.{end_to_end}
use Rattle.gdb_scan.specs.declared.error.GdbError.{GdbError}
use Rattle.gdb_scan.specs.declared.error.GdbError.TheVariants.{BadElf, CompressedSection, BadUnit, BadPubnames, TooManyUnits, IndexTooLarge, NoMemory}
use Rattle.gdb_scan.specs.Scan.{ObjectScan}
use Rattle.gdb_tables.specs.Scans.{unit_counts, unit_total, units_in_scans, placed_total, published_in_scans}
use Rattle.std.specs.Prelude.{Option}

-- each name with its values in ascending order
abbrev pub AreSorted : List (List ℕ × List ℕ) → List Named → Type 0
AreSorted [] [] = Unit {0}
AreSorted [] (n ∷ ns) = ⊥
AreSorted (g ∷ gs) [] = ⊥
AreSorted (g ∷ gs) (n ∷ ns) = (n.name ≡ g.0) × IsPermutation g.1 n.words × IsNonDecreasing n.words × AreSorted gs ns

-- The units of all scans, one after another, their names and CU vectors, and their counts.
pub record IsMergeOf (ss : List (Option ObjectScan)) (merged : Scan) : Type 0 where
  pub few : unit_total ss ≤ 2 ^ 24
  pub units : merged.units ≡ end_to_end 0 (units_in_scans ss)
  pub counts : merged.unit_counts ≡ unit_counts ss
  pub placed : merged.placed ≡ placed_total ss
  pub names : ListsPublished (published_in_scans ss) merged.names

-- why scans are not merged: there are too many units; out of memory needs no cause
abbrev pub IsMergeCause : List (Option ObjectScan) → GdbError → Type 0
IsMergeCause ss (BadElf i kind) = ⊥
IsMergeCause ss (CompressedSection i s) = ⊥
IsMergeCause ss (BadUnit i offset fault) = ⊥
IsMergeCause ss (BadPubnames i s) = ⊥
IsMergeCause ss (TooManyUnits n) = (n ≡ unit_total ss) × (2 ^ 24 < n)
IsMergeCause ss (IndexTooLarge n) = ⊥
IsMergeCause ss NoMemory = Unit {0}

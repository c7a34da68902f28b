-- Files have one list of scans, as each file has one scan.
use Rattle.std.proofs.Common.{◌≡◌, ℕ, ◌+◌, List, [], ◌∷◌, Option, refl}
use Rattle.gdb_index_format.specs.Objects.{class_in}
use Rattle.gdb_index_format.specs.declared.placement.Placement.{Placement}
use Rattle.gdb_scan.specs.Scan.{ObjectScan}
use Rattle.gdb_scan.proofs.OneScan.{one_scan}
use Rattle.gdb_tables.specs.Files.{AreFileScans}
use Rattle.gdb_tables.specs.Laws.{HasOneScanEach}

one_each : (ps : List Placement) (at : ℕ) (files : List (List ℕ)) (ss ts : List (Option ObjectScan)) → AreFileScans ps at files ss → AreFileScans ps at files ts → ss ≡ ts
one_each ps at [] [] [] a b = refl
one_each ps at [] [] (t ∷ ts) a b = absurd b
one_each ps at [] (s ∷ ss) ts a b = absurd a
one_each ps at (file ∷ files) [] ts a b = absurd a
one_each ps at (file ∷ files) (s ∷ ss) [] a b = absurd b
one_each ps at (file ∷ files) (s ∷ ss) (t ∷ ts) a b =
    let first : s ≡ t = one_scan (class_in file) file at ps s t a.0 b.0 in
    let rest : ss ≡ ts = one_each ps (at + 1) files ss ts a.1 b.1 in
    cc

pub one_scan_each : HasOneScanEach
one_scan_each files ps ss ts left right = one_each ps 0 files ss ts left.each right.each

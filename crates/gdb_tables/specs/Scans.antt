-- What the scans of all objects hold.
use Rattle.std.specs.Prelude.{ℕ, ◌+◌, List, [], ◌∷◌, ◌++◌, map, length, sum, Option}
use Rattle.std.specs.List.{flat_map}
use Rattle.gdb_index_format.specs.declared.unit.CuBoundary.{CuBoundary}
use Rattle.gdb_index_format.specs.Hash.{element_of}
use Rattle.gdb_index_format.specs.Published.{Object, Pair}
use Rattle.gdb_scan.specs.declared.mark.Mark.{Mark}
use Rattle.gdb_scan.specs.Scan.{ObjectScan, units_in_scan, names_in_scan, placed_in_scan, IsScanOf}

abbrev pub unit_counts : List (Option ObjectScan) → List ℕ
unit_counts ss = map (λ s. length (units_in_scan s)) ss

abbrev pub unit_total : List (Option ObjectScan) → ℕ
unit_total ss = sum (unit_counts ss)

abbrev pub units_in_scans : List (Option ObjectScan) → List CuBoundary
units_in_scans ss = flat_map units_in_scan ss

abbrev pub placed_total : List (Option ObjectScan) → ℕ
placed_total ss = sum (map placed_in_scan ss)

-- the word of a mark, where the object's first unit has the number `first`
abbrev pub mark_word : ℕ → Mark → ℕ
mark_word first m = element_of (first + m.unit) m.flag

abbrev pub words_at : ℕ → List ℕ × List Mark → List (List ℕ × ℕ)
words_at first g = map (λ m. (g.0, mark_word first m)) g.1

abbrev pub words_of_groups : ℕ → List (List ℕ × List Mark) → List (List ℕ × ℕ)
words_of_groups first gs = flat_map (words_at first) gs

-- names with elements, scan by scan
abbrev pub words_from : ℕ → List (Option ObjectScan) → List (List ℕ × ℕ)
words_from first [] = []
words_from first (s ∷ ss) = words_of_groups first (names_in_scan s) ++ words_from (first + length (units_in_scan s)) ss

abbrev pub pair_in : List ℕ × ℕ → Pair
pair_in p = record { name = p.0; word = p.1 }

-- all names of all scans, with their elements
abbrev pub published_in_scans : List (Option ObjectScan) → List Pair
published_in_scans ss = map pair_in (words_from 0 ss)

-- these are the scans of these objects
abbrev pub AreScansOf : List Object → List (Option ObjectScan) → Type 0
AreScansOf [] [] = Unit {0}
AreScansOf [] (s ∷ ss) = ⊥
AreScansOf (o ∷ os) [] = ⊥
AreScansOf (o ∷ os) (s ∷ ss) = IsScanOf o s × AreScansOf os ss

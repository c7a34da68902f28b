-- Private steps: only private contracts cite this module.
-- Two ascending lists of names, merged in one.
use Rattle.std.specs.Prelude.{◌≡◌, ℕ, ◌+◌, ◌%◌, ◌^◌, ◌<◌, List, [], ◌∷◌, ◌++◌, map, length}
use Rattle.std.specs.List.{All}
use Rattle.std.specs.List.Sorted.{IsPermutation, IsNonDecreasing}
use Rattle.std.specs.declared.cmp.Ordering.{Ordering}
use Rattle.std.specs.declared.cmp.Ordering.TheVariants.{Less, Equal, Greater}
use Rattle.std.specs.Cmp.Lexicographic.{slice_cmp}
use Rattle.std.specs.Ordering.{nat_cmp}
use Rattle.gdb_index_format.specs.declared.unit.CuBoundary.{CuBoundary}
use Rattle.gdb_index_format.specs.Named.{Named}
use Rattle.index_browser.specs.NameList.{IsNameListOf}
use Rattle.index_browser.specs.Areas.{unit_count}
use Rattle.gdb_index.specs.Answers.{words_under}
use Rattle.gdb_index.specs.FromParts.{scan_of_parts}
use Rattle.gdb_index.specs.Scan.{Scan, IsWellFormedScan}
use Rattle.gdb_index.specs.Size.{scan_counts}
use Rattle.index_merge.specs.Joined.{moved_element}
use Rattle.index_merge.specs.Merged.{units_of_both, addresses_of_both}

-- a moved element whose CU index still has 24 bits
abbrev pub HasElementRoom : ℕ → ℕ → Type 0
HasElementRoom units element = element % 2 ^ 24 + units < 2 ^ 24

-- a moved unit whose offset still has 64 bits
abbrev pub IsNear : ℕ → CuBoundary → Type 0
IsNear offset u = u.offset < 2 ^ 64 → u.offset + offset < 2 ^ 64

abbrev pub moved_name : ℕ → Named → Named
moved_name units n = record { name = n.name; words = map (moved_element units) n.words }

-- a name of both lists
abbrev pub joined_name : ℕ → Named → Named → Named
joined_name units n m = record { name = n.name; words = n.words ++ map (moved_element units) m.words }

-- one of three, by an order
abbrev pub by_order : {X : Type 0} → Ordering → X → X → X → X
by_order Less x y z = x
by_order Equal x y z = y
by_order Greater x y z = z

-- a name of the first list and those after it, merged with a second list
abbrev pub merged_from : ℕ → Named → (List Named → List Named) → List Named → List Named
merged_from units n rest [] = n ∷ rest []
merged_from units n rest (m ∷ ms) =
    by_order (slice_cmp nat_cmp n.name m.name) (n ∷ rest (m ∷ ms)) (joined_name units n m ∷ rest ms) (moved_name units m ∷ merged_from units n rest ms)

-- the least name first; a name of both lists once
abbrev pub merged_lists : ℕ → List Named → List Named → List Named
merged_lists units [] ms = map (moved_name units) ms
merged_lists units (n ∷ ns) ms = merged_from units n (merged_lists units ns) ms

-- the same name, with its elements in ascending order
pub record IsOrderedName (n ordered : Named) : Type 0 where
  pub name : ordered.name ≡ n.name
  pub same : IsPermutation n.words ordered.words
  pub ascending : IsNonDecreasing ordered.words

abbrev pub AreOrdered : List Named → List Named → Type 0
AreOrdered [] [] = Unit {0}
AreOrdered [] (m ∷ ms) = ⊥
AreOrdered (n ∷ ns) [] = ⊥
AreOrdered (n ∷ ns) (m ∷ ms) = IsOrderedName n m × AreOrdered ns ms

-- The least name of two lists is taken: what is left of them.
pub record IsNameTaken (units : ℕ) (ns ms : List Named) (taken : Named) (ns_left ms_left : List Named) : Type 0 where
  pub least : Named
  pub ordered : IsOrderedName least taken
  pub is : merged_lists units ns ms ≡ least ∷ merged_lists units ns_left ms_left
  pub fewer : length ns_left + length ms_left < length ns + length ms
  pub room : All (λ m. All (HasElementRoom units) m.words) ms → All (λ m. All (HasElementRoom units) m.words) ms_left

-- the names of two indexes, merged
pub record AreMergedNames (first second : List ℕ) (names : List Named) : Type 0 where
  pub ns : List Named
  pub ms : List Named
  pub listed : IsNameListOf first ns
  pub second_listed : IsNameListOf second ms
  pub few : length ns + length ms < 2 ^ 30
  pub ordered : AreOrdered (merged_lists (unit_count first) ns ms) names

-- what the merged index is written from: the units of both indexes, their names, and the number of their address entries
pub record IsScanOfBoth (first second : List ℕ) (offset : ℕ) (s : Scan) : Type 0 where
  pub names : List Named
  pub merged_names : AreMergedNames first second names
  pub units : s.units ≡ units_of_both first second offset
  pub placed : s.placed ≡ length (addresses_of_both first second)
  pub words : (name : List ℕ) → words_under name s.names ≡ words_under name names
  pub size : scan_counts s ≡ scan_counts (scan_of_parts (units_of_both first second offset) names (length (addresses_of_both first second)))
  pub well_formed : IsWellFormedScan s

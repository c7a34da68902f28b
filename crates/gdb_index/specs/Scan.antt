-- What all objects of a program publish, for one index.
use Rattle.std.specs.Prelude.{◌≡◌, ◌≢◌, ℕ, ◌%◌, ◌^◌, ◌<◌, ◌≤◌, List, [], length, sum}
use Rattle.std.specs.List.{All, sum_by}
use Rattle.std.specs.List.Sorted.{IsNonDecreasing}
use Rattle.gdb_index_format.specs.declared.unit.CuBoundary.{CuBoundary}
use Rattle.gdb_index_format.specs.Named.{Named, AreDistinct}

-- the units of all objects, the names in pool order with their CU vectors, the number of placed sections,
-- and the number of units of each object
pub record Scan : Type 0 where
  pub units : List CuBoundary
  pub names : List Named
  pub placed : ℕ
  pub unit_counts : List ℕ

-- the CU index of an element: all of it but the symbol kind and the static bit (GDB manual, "Index
-- Section Format", the elements of a CU vector)
abbrev pub unit_number : ℕ → ℕ
unit_number word = word % 2 ^ 28

-- A name that an index of so many units can hold: no zero byte ends it early, and the elements of its CU vector
-- ascend and have CU indexes below the number of units.
pub record IsNameFor (count : ℕ) (n : Named) : Type 0 where
  pub no_zero : All (λ c. c ≢ 0) n.name
  pub some : n.words ≢ []
  pub ascending : IsNonDecreasing n.words
  pub units : All (λ w. unit_number w < count) n.words

-- the elements of each CU vector fit their four bytes, as each `u32` does
abbrev pub HaveSmallWords : List Named → Type 0
HaveSmallWords ns = All (λ n. All (λ w. w < 2 ^ 32) n.words) ns

-- such a name, with elements that fit their four bytes
pub record IsIndexName (count : ℕ) (n : Named) : Type 0 where
  pub named : IsNameFor count n
  pub fit : All (λ w. w < 2 ^ 32) n.words

-- What holds of every scan result.
pub record IsWellFormedScan (s : Scan) : Type 0 where
  pub units : length s.units ≤ 2 ^ 24
  pub counted : sum s.unit_counts ≡ length s.units
  pub names : All (IsIndexName (length s.units)) s.names
  pub distinct : AreDistinct s.names

abbrev pub word_count : List Named → ℕ
word_count ns = sum_by (λ n. length n.words) ns

-- Private steps: only private contracts cite this module.
-- The CU vectors of the names of one bucket, as they are filled.
use Rattle.std.specs.Prelude.{◌≡◌, ℕ, zero, suc, ◌<◌, ◌==◌, List, [], ◌∷◌, ◌++◌, length, map, slice_get, Some}
use Rattle.std.specs.List.{All, filter, range_with_len}
use Rattle.gdb_index.specs.Scan.{HaveSmallWords}
use Rattle.gdb_index_format.specs.Named.{Named}
use Rattle.gdb_tables.specs.declared.element.IndexedElement.{IndexedElement}
use Rattle.gdb_tables.specs.declared.hashed_name.HashedName.{HashedName}
use Rattle.gdb_tables.specs.Merged.{AreSorted}

abbrev pub keys_shown : List HashedName → List (List ℕ)
keys_shown ks = map (λ k. k.name.now) ks

-- names without elements
abbrev pub without_elements : List HashedName → List Named
without_elements ks = map (λ k. record { name = k.name.now; words = [] }) ks

-- these are the elements of some pairs, each with the index of its name among these names
abbrev pub AreIndexed : List (List ℕ) → List (List ℕ × ℕ) → List IndexedElement → Type 0
AreIndexed names [] [] = Unit {0}
AreIndexed names [] (e ∷ es) = ⊥
AreIndexed names (p ∷ ps) [] = ⊥
AreIndexed names (p ∷ ps) (e ∷ es) = (slice_get names e.index ≡ Some p.0) × (e.element ≡ p.1) × AreIndexed names ps es

abbrev pub AreBelow : ℕ → List IndexedElement → Type 0
AreBelow count es = All (λ e. e.index < count) es

-- how many elements each of so many names has
abbrev pub element_counts : ℕ → List IndexedElement → List ℕ
element_counts names es = map (λ i. length (filter (λ e. e.index == i) es)) (range_with_len 0 names)

-- the names after one more element of the CU vector of one of them
abbrev pub with_element : List Named → ℕ → ℕ → List Named
with_element [] index word = []
with_element (n ∷ ns) zero word = record { name = n.name; words = n.words ++ word ∷ [] } ∷ ns
with_element (n ∷ ns) (suc index) word = n ∷ with_element ns index word

abbrev pub with_elements : List Named → List IndexedElement → List Named
with_elements ns [] = ns
with_elements ns (e ∷ es) = with_elements (with_element ns e.index e.element) es

abbrev pub as_groups : List Named → List (List ℕ × List ℕ)
as_groups ns = map (λ n. (n.name, n.words)) ns

-- Names joined a list, each with its values in ascending order.
pub record AddsSorted (gs : List (List ℕ × List ℕ)) (old new : List Named) : Type 0 where
  pub added : List Named
  pub all : new ≡ old ++ added
  pub sorted : AreSorted gs added
  pub fit : HaveSmallWords added

-- What a scan result can be made of, and the order that its names get.
use Rattle.std.specs.Prelude.{◌≡◌, ℕ, ◌^◌, ◌<◌, ◌≤◌, ◌==◌, List, [], ◌∷◌, length, map}
use Rattle.std.specs.List.{All, filter, flat_map, range_with_len}
use Rattle.gdb_index_format.specs.declared.unit.CuBoundary.{CuBoundary}
use Rattle.gdb_index_format.specs.Named.{Named, AreDistinct}
use Rattle.gdb_index_format.specs.Published.{Pair, bucket}
use Rattle.gdb_index.specs.Scan.{Scan, IsNameFor}

-- Units, names and a number of placed sections that an index can be made of.
pub record AreIndexParts (us : List CuBoundary) (ns : List Named) (placed : ℕ) : Type 0 where
  pub units : length us ≤ 2 ^ 24
  pub few : length ns < 2 ^ 32
  pub names : All (IsNameFor (length us)) ns
  pub distinct : AreDistinct ns
  pub some_unit : us ≡ [] → (ns ≡ []) × (placed ≡ 0)

-- the names of a bucket, in their order
abbrev pub named_in_bucket : ℕ → List Named → List Named
named_in_bucket b ns = filter (λ n. bucket n.name == b) ns

-- the names in ascending order of bucket, and within one bucket in their order
unfoldable pub in_pool_order : List Named → List Named
in_pool_order ns = flat_map (λ b. named_in_bucket b ns) (range_with_len 0 32)

-- each name, once for each element of its CU vector
abbrev pub pairs_of_names : List Named → List Pair
pairs_of_names ns = flat_map (λ n. map (λ w. record { name = n.name; word = w }) n.words) ns

-- these parts as they are given, as one object's
abbrev pub scan_of_parts : List CuBoundary → List Named → ℕ → Scan
scan_of_parts units names placed = record { units = units; names = names; placed = placed; unit_counts = length units ∷ [] }

-- The units of the objects, and the names that they publish with their CU vectors (GDB manual, "Index Section
-- Format": the CU list, the CU vectors).
use Rattle.std.specs.Prelude.{◌≡◌, ℕ, ◌+◌, ◌/◌, ◌^◌, ◌<◌, ◌==◌, not, List, [], ◌∷◌, ◌++◌, map, length, take, slice_index_or, Option, Some, None}
use Rattle.std.specs.List.{position, flat_map, filter, range_with_len}
use Rattle.std.specs.List.Sorted.{IsPermutation, IsNonDecreasing}
use Rattle.std.specs.Str.{bytes_eq}
use Rattle.gdb_index_format.specs.declared.unit.CuBoundary.{CuBoundary}
use Rattle.gdb_index_format.specs.Hash.{name_hash, element_of}
use Rattle.gdb_index_format.specs.Units.{total_length}
use Rattle.gdb_index_format.specs.Names.{Entry, NameSet}

-- what an object holds: its units, and the sets of its `.debug_gnu_pubnames` and `.debug_gnu_pubtypes` in section order
pub record Object : Type 0 where
  pub units : List CuBoundary
  pub sets : List NameSet

-- units of these lengths, each where those before it end, from an offset on
abbrev pub end_to_end : ℕ → List CuBoundary → List CuBoundary
end_to_end at [] = []
end_to_end at (u ∷ us) = record { offset = at; length = u.length } ∷ end_to_end (at + u.length) us

-- the units of each object
abbrev pub unit_lists : List Object → List (List CuBoundary)
unit_lists os = map (λ o. o.units) os

-- the units of all objects in input order, each with its offset in its own object
abbrev pub units_in_lists : List (List CuBoundary) → List CuBoundary
units_in_lists uss = flat_map (λ us. us) uss

-- the units of all objects as an index lists them: each begins where all units before it, of whatever object, end
abbrev pub units_of_lists : List (List CuBoundary) → List CuBoundary
units_of_lists uss = end_to_end 0 (units_in_lists uss)

abbrev pub units_of_all : List Object → List CuBoundary
units_of_all os = units_of_lists (unit_lists os)

-- the units of all objects begin at running sums of their lengths
pub record UnitsOfAllRun : Type 0 where
  pub offsets : (uss : List (List CuBoundary)) (k : ℕ) (d : CuBoundary) → k < length (units_of_lists uss) → (slice_index_or (units_of_lists uss) k d).offset ≡ total_length (take k (units_of_lists uss))
  pub lengths : (uss : List (List CuBoundary)) → map (λ u. u.length) (units_of_lists uss) ≡ map (λ u. u.length) (units_in_lists uss)

-- a name and one element of its CU vector
pub record Pair : Type 0 where
  pub name : List ℕ
  pub word : ℕ

abbrev pub pairs_at : Option ℕ → ℕ → List Entry → List Pair
pairs_at None first es = []
pairs_at (Some index) first es = map (λ e. record { name = e.name; word = element_of (first + index) e.flag }) es

-- what a set of an object publishes, where the object's first unit has the index `first` among all units
abbrev pub pairs_of : ℕ → List CuBoundary → NameSet → List Pair
pairs_of first us s = pairs_at (position (λ u. u.offset == s.unit) us) first s.entries

abbrev pub published_from : ℕ → List Object → List Pair
published_from first [] = []
published_from first (o ∷ os) = flat_map (pairs_of first o.units) o.sets ++ published_from (first + length o.units) os

-- all names with their elements, in input order
abbrev pub published : List Object → List Pair
published os = published_from 0 os

-- each name once, where it stands first
abbrev pub firsts : List (List ℕ) → List (List ℕ)
firsts [] = []
firsts (n ∷ ns) = n ∷ filter (λ m. not (bytes_eq m n)) (firsts ns)

-- the published names, in the order of first publication
abbrev pub first_names : List Pair → List (List ℕ)
first_names ps = firsts (map (λ p. p.name) ps)

-- the bucket of a name, from 0 to 31: the five highest bits of its hash
unfoldable pub bucket : List ℕ → ℕ
bucket name = name_hash name / 2 ^ 27

-- the names of a bucket, in their order
abbrev pub in_bucket : ℕ → List (List ℕ) → List (List ℕ)
in_bucket b ns = filter (λ n. bucket n == b) ns

-- names in ascending order of bucket, and within one bucket in their order
abbrev pub by_bucket : List (List ℕ) → List (List ℕ)
by_bucket ns = flat_map (λ b. in_bucket b ns) (range_with_len 0 32)

-- the published names in pool order: in ascending order of bucket, and within one bucket in the order of first
-- publication
unfoldable pub pool_names : List Pair → List (List ℕ)
pool_names ps = by_bucket (first_names ps)

-- the constant pool has each published name once
abbrev pub PoolHasEachName : Type 0
PoolHasEachName = (ps : List Pair) → IsPermutation (first_names ps) (pool_names ps)

-- every name has one of the 32 buckets
abbrev pub NamesHaveBuckets : Type 0
NamesHaveBuckets = (name : List ℕ) → bucket name < 32

-- the elements of a name, in input order
abbrev pub elements_in_order : List ℕ → List Pair → List ℕ
elements_in_order name ps = map (λ p. p.word) (filter (λ p. bytes_eq p.name name) ps)

-- the CU vector of a name: its elements, ascending, repeats kept
pub record IsVectorOf (name : List ℕ) (ps : List Pair) (words : List ℕ) : Type 0 where
  pub same : IsPermutation (elements_in_order name ps) words
  pub ascending : IsNonDecreasing words

-- a name has one CU vector
abbrev pub VectorsAreOne : Type 0
VectorsAreOne = (name : List ℕ) (ps : List Pair) (vs ws : List ℕ) → IsVectorOf name ps vs → IsVectorOf name ps ws → vs ≡ ws

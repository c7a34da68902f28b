-- The names of an index, in byte order.
use Rattle.std.specs.Prelude.{◌≡◌, ◌==◌, ℕ, Bool, List, [], map, Option, Some, None, Result, Ok, Err}
use Rattle.std.specs.List.{All, Contains, filter, starts_with}
use Rattle.std.specs.List.Sorted.{IsStrictlySortedBy}
use Rattle.std.specs.Cmp.Lexicographic.{slice_cmp}
use Rattle.std.specs.Ordering.{nat_cmp}
use Rattle.gdb_index_format.specs.declared.bad_index.BadIndex.{BadIndex}
use Rattle.gdb_index_format.specs.Named.{Named, names_in}
use Rattle.gdb_index_format.specs.Probe.{probe}
use Rattle.index_browser.specs.declared.names.NameEntry.{NameEntry}

-- an entry as a name with the elements of its CU vector
abbrev pub listed_name : NameEntry → Named
listed_name e = record { name = e.name.now; words = e.vector }

abbrev pub all_listed : List NameEntry → List Named
all_listed es = map listed_name es

-- Exactly the names for which the probe finds a CU vector, ascending by their bytes, each once and with that vector. For
-- every other byte string the probe is Absent.
pub record IsNameListOf (b : List ℕ) (ns : List Named) : Type 0 where
  pub ascending : IsStrictlySortedBy (slice_cmp nat_cmp) (names_in ns)
  pub found : All (λ n. (probe b n.name).answer ≡ Ok (Some n.words)) ns
  pub absent : (name : List ℕ) → (Contains (names_in ns) name → ⊥) → (probe b name).answer ≡ Ok None

-- whether a name begins with a prefix
abbrev pub has_prefix : List ℕ → Named → Bool
has_prefix prefix n = starts_with (λ x y. x == y) n.name prefix

-- the names of an index that begin with a prefix
abbrev pub IsNameListWith : List ℕ → List ℕ → List Named → Type 0
IsNameListWith b prefix ns = (all : List Named) × IsNameListOf b all × (ns ≡ filter (has_prefix prefix) all)

-- the elements in the answer of a probe
abbrev pub elements_in : Result (Option (List ℕ)) BadIndex → List ℕ
elements_in (Ok (Some elements)) = elements
elements_in (Ok None) = []
elements_in (Err fault) = []

-- the elements of the CU vector that an index holds for a name: none where it holds no such name
abbrev pub elements_of : List ℕ → List ℕ → List ℕ
elements_of b name = elements_in (probe b name).answer

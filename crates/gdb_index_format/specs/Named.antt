-- Names with their CU vectors, and what an index returns for them.
use Rattle.std.specs.Prelude.{◌≡◌, ◌≢◌, ℕ, ◌+◌, ◌<◌, ◌≤◌, List, [], length, map, Option, Some, None, Result, Ok, Err, slice_index_or}
use Rattle.std.specs.List.{All, Contains}
use Rattle.gdb_index_format.specs.declared.bad_index.BadIndex.{BadIndex}
use Rattle.gdb_index_format.specs.declared.name_words.NameWords.{NameWords}
use Rattle.gdb_index_format.specs.Published.{Pair, elements_in_order, IsVectorOf, pool_names}
use Rattle.gdb_index_format.specs.Probe.{probe}

-- a name with the elements of its CU vector
pub record Named : Type 0 where
  pub name : List ℕ
  pub words : List ℕ

abbrev pub named : NameWords → Named
named n = record { name = n.name.now; words = n.words.items }

abbrev pub all_named : List NameWords → List Named
all_named ns = map named ns

abbrev pub names_in : List Named → List (List ℕ)
names_in ns = map (λ n. n.name) ns

-- no two names are the same
abbrev pub AreDistinct : List Named → Type 0
AreDistinct ns = (i j : ℕ) (d : Named) → i < length ns → j < length ns → (slice_index_or ns i d).name ≡ (slice_index_or ns j d).name → i ≡ j

-- name i of a list
abbrev pub IsNamed : List Named → List ℕ → ℕ → Type 0
IsNamed ns name i = (i < length ns) × ((d : Named) → (slice_index_or ns i d).name ≡ name)

-- these are the published names, each with its CU vector
pub record AreNamesOf (ps : List Pair) (ns : List Named) : Type 0 where
  pub words : All (λ n. (n.words ≢ []) × IsVectorOf n.name ps n.words) ns
  pub all : All (λ p. (i : ℕ) × IsNamed ns p.name i) ps

-- the published names, each once and in pool order, with their CU vectors
pub record ListsPublished (ps : List Pair) (ns : List Named) : Type 0 where
  pub order : names_in ns ≡ pool_names ps
  pub names : AreNamesOf ps ns
  pub distinct : AreDistinct ns

-- there is one such list
abbrev pub PublishedNamesAreOne : Type 0
PublishedNamesAreOne = (ps : List Pair) (ns ms : List Named) → ListsPublished ps ns → ListsPublished ps ms → ns ≡ ms

-- the answer for a name: its CU vector, where it is published; else that it is absent; never a fault
abbrev pub IsAnswer : List Pair → List ℕ → Result (Option (List ℕ)) BadIndex → Type 0
IsAnswer ps name (Ok (Some words)) = (words ≢ []) × IsVectorOf name ps words
IsAnswer ps name (Ok None) = elements_in_order name ps ≡ []
IsAnswer ps name (Err fault) = ⊥

-- for every byte string
abbrev pub AnswersAll : List ℕ → List Pair → Type 0
AnswersAll b ps = (name : List ℕ) → IsAnswer ps name (probe b name).answer

-- How many steps the probes of an index take in whose constant pool these names stand in this order. Name i, from 0, is
-- found within i + 1 steps. A byte string that is none of the names ends within one step more than there are names,
-- and without a step where there are none.
pub record HasFewSteps (b : List ℕ) (names : List (List ℕ)) : Type 0 where
  pub found : (i : ℕ) (d : List ℕ) → i < length names → (probe b (slice_index_or names i d)).steps ≤ i + 1
  pub absent : (name : List ℕ) → (Contains names name → ⊥) → (probe b name).steps ≤ length names + 1
  pub no_slot : names ≡ [] → (name : List ℕ) → (probe b name).steps ≡ 0

-- Private steps: only private contracts cite this module.
-- The names of the slots, and the CU vectors that their probes find.
use Rattle.std.specs.Prelude.{◌≡◌, ◌==◌, ℕ, Bool, List, map, Option, Some, None, Ok, if◌then◌else◌}
use Rattle.std.specs.List.{All, Contains, filter_map, range_with_len, starts_with}
use Rattle.std.specs.List.Sorted.{IsStrictlySortedBy}
use Rattle.std.specs.Cmp.Lexicographic.{slice_cmp}
use Rattle.std.specs.Ordering.{nat_cmp}
use Rattle.std.specs.Option.{option_and_then}
use Rattle.elf_format.specs.Bytes.{string_at}
use Rattle.gdb_index_format.specs.Named.{Named}
use Rattle.gdb_index_format.specs.Probe.{slot_count, probe}
use Rattle.gdb_index.specs.declared.name_order.ByName.{ByName}
use Rattle.index_browser.specs.declared.slots.Taken.{Taken}
use Rattle.index_browser.specs.NameList.{elements_of}
use Rattle.index_browser.specs.steps.Taken.{taken_in}

-- the name of a slot, where it is taken
abbrev pub name_in : List ℕ → ℕ → Option (List ℕ)
name_in b s = option_and_then (λ (t : Taken). string_at b t.name) (taken_in b s)

abbrev pub taken_names : List ℕ → List (List ℕ)
taken_names b = filter_map (name_in b) (range_with_len 0 (slot_count b))

-- the probe for a name finds a CU vector
abbrev pub HasVector : List ℕ → List ℕ → Type 0
HasVector b name = (elements : List ℕ) × ((probe b name).answer ≡ Ok (Some elements))

abbrev pub named_by : List ℕ → List ℕ → Named
named_by b name = record { name = name; words = elements_of b name }

abbrev pub begins_with : List ℕ → List ℕ → Bool
begins_with prefix name = starts_with (λ x y. x == y) name prefix

-- a name with its elements, where it begins with a prefix
abbrev pub listed_with : List ℕ → List ℕ → List ℕ → Option Named
listed_with b prefix name = if begins_with prefix name then Some (named_by b name) else None

-- the name of a slot with its elements, where it is taken and its name begins with a prefix
abbrev pub listed_from_slot : List ℕ → List ℕ → ℕ → Option Named
listed_from_slot b prefix s = option_and_then (listed_with b prefix) (name_in b s)

abbrev pub listed_slots : List ℕ → List ℕ → List Named
listed_slots b prefix = filter_map (listed_from_slot b prefix) (range_with_len 0 (slot_count b))

-- names that are sorted, as names with elements
abbrev pub slot_named : ByName (List ℕ) → Named
slot_named n = record { name = n.name.now; words = n.item }

abbrev pub all_slots_named : List (ByName (List ℕ)) → List Named
all_slots_named ns = map slot_named ns

-- the names of an index, ascending by their bytes, each once
pub record AreNamesIn (b : List ℕ) (names : List (List ℕ)) : Type 0 where
  pub ascending : IsStrictlySortedBy (slice_cmp nat_cmp) names
  pub vectors : All (HasVector b) names
  pub absent : (name : List ℕ) → (Contains names name → ⊥) → (probe b name).answer ≡ Ok None

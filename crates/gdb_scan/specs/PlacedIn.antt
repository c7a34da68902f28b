-- Which placements of one object an index has room for.
use Rattle.std.specs.Prelude.{◌≡◌, ℕ, ◌+◌, ◌^◌, ◌<◌, ◌⊎◌, ◌==◌, List, length}
use Rattle.std.specs.List.{All, AllPairs, filter}
use Rattle.elf_format.specs.Class.{Class}
use Rattle.elf_format.specs.Section.{sections}
use Rattle.gdb_index_format.specs.declared.placement.Placement.{Placement}
use Rattle.gdb_index_format.specs.Placed.{is_counted}

-- one placement before another, by object and then by section
abbrev pub IsBefore : Placement → Placement → Type 0
IsBefore p q = (p.object < q.object) ⊎ ((p.object ≡ q.object) × (p.section < q.section))

-- Placements in their order, whose ends fit 64 bits.
pub record ArePlacements (ps : List Placement) : Type 0 where
  pub ascend : AllPairs IsBefore ps
  pub fit : All (λ p. p.address + p.size < 2 ^ 64) ps

-- the placements of an object name sections of its file
abbrev pub NameSections : Class → List ℕ → ℕ → List Placement → Type 0
NameSections c file object ps = All (λ p. p.object ≡ object → p.section < length (sections c file)) ps

-- the placements of an object
abbrev pub of_object : ℕ → List Placement → List Placement
of_object object ps = filter (λ p. p.object == object) ps

-- how many placements of an object count
abbrev pub placed_in : Class → List ℕ → ℕ → List Placement → ℕ
placed_in c file object ps = length (filter (is_counted c file) (of_object object ps))

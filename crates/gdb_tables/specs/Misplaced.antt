-- Whether placements are such as an index is made from, and the first that is not.
use Rattle.std.specs.Prelude.{ℕ, ◌+◌, ◌^◌, ◌==◌, ◌&&◌, ◌||◌, not, nat_lt, Bool, true, false, List, ◌∷◌, length, map, slice_get, Option, Some, None, position}
use Rattle.std.specs.List.{zip}
use Rattle.elf_format.specs.Section.{sections}
use Rattle.gdb_index_format.specs.declared.placement.Placement.{Placement}
use Rattle.gdb_index_format.specs.Objects.{class_in}

-- whether a placement follows the one before it, by object and then by section
abbrev pub follows : Option Placement → Placement → Bool
follows None p = true
follows (Some before) p = nat_lt before.object p.object || before.object == p.object && nat_lt before.section p.section

-- whether a section of an object is there
abbrev pub is_there : Option (List ℕ) → ℕ → Bool
is_there None section = false
is_there (Some file) section = nat_lt section (length (sections (class_in file) file))

-- whether a placement, beside the one before it, may stand there: it follows that one, its section is there,
-- and its end fits 64 bits
abbrev pub is_well_placed : List (List ℕ) → Option Placement × Placement → Bool
is_well_placed files w = follows w.0 w.1 && is_there (slice_get files w.1.object) w.1.section && nat_lt (w.1.address + w.1.size) (2 ^ 64)

-- each placement beside the one before it
abbrev pub with_before : Option Placement → List Placement → List (Option Placement × Placement)
with_before before ps = zip (before ∷ map (λ p. Some p) ps) ps

-- the first that may not stand where it does, by its index
abbrev pub misplaced : List (List ℕ) → List Placement → Option ℕ
misplaced files ps = position (λ w. not (is_well_placed files w)) (with_before None ps)

-- Which placements an index has room for: those of code, in objects that have a unit.
use Rattle.std.specs.Prelude.{ℕ, Bool, false, true, ◌&&◌, nat_lt, List, [], ◌∷◌, Option, Some, None, slice_get}
use Rattle.std.specs.List.{filter}
use Rattle.elf_format.specs.Bytes.{get}
use Rattle.elf_format.specs.Class.{Class, sh_flags}
use Rattle.elf_format.specs.Flags.{has_flag, shf_alloc, shf_execinstr}
use Rattle.elf_format.specs.Section.{sections}
use Rattle.gdb_index_format.specs.declared.unit.CuBoundary.{CuBoundary}
use Rattle.gdb_index_format.specs.Objects.{class_in}
use Rattle.gdb_index_format.specs.declared.placement.Placement.{Placement}

-- whether a section is there and holds code that is loaded
abbrev pub is_code : Class → Option (List ℕ) → Bool
is_code c None = false
is_code c (Some header) = has_flag (get (sh_flags c) header) shf_alloc && has_flag (get (sh_flags c) header) shf_execinstr

-- whether a placement has a size and is one of code, by its object's file
abbrev pub is_counted : Class → List ℕ → Placement → Bool
is_counted c file p = nat_lt 0 p.size && is_code c (slice_get (sections c file) p.section)

abbrev pub has_unit : List CuBoundary → Bool
has_unit [] = false
has_unit (u ∷ us) = true

-- whether a placement counts, by its object's file and units
abbrev pub counts_in : Option (List ℕ) → Option (List CuBoundary) → Placement → Bool
counts_in None us p = false
counts_in (Some file) None p = false
counts_in (Some file) (Some us) p = is_counted (class_in file) file p && has_unit us

-- the placements that count, of those of all objects, of either class, whose units are these
abbrev pub placed : List (List ℕ) → List (List CuBoundary) → List Placement → List Placement
placed files uss ps = filter (λ p. counts_in (slice_get files p.object) (slice_get uss p.object) p) ps

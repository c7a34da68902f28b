-- The names that the sections of an object publish, as they are gathered. Only private contracts cite this.
use Rattle.std.specs.Prelude.{◌≡◌, ℕ, List}
use Rattle.std.specs.List.{All}
use Rattle.elf_format.specs.Class.{Class}
use Rattle.gdb_index_format.specs.declared.unit.CuBoundary.{CuBoundary}
use Rattle.gdb_index_format.specs.Names.{NameSet}
use Rattle.gdb_index_format.specs.Objects.{pubnames_sections, AreSetsOfSections}
use Rattle.dwarf_sections.specs.Clean.{IsClean}
use Rattle.gdb_scan.specs.declared.mark.Mark.{Mark}
use Rattle.gdb_scan.specs.Marks.{marks_of}

-- Some sections hold sets whose names have no zero byte, and these are the names that they publish.
pub record Gathers (c : Class) (file : List ℕ) (us : List CuBoundary) (sections : List (ℕ × List ℕ)) (names : List (List ℕ × Mark)) : Type 0 where
  pub sets : List NameSet
  pub list : AreSetsOfSections c file sections sets
  pub clean : All IsClean sets
  pub published : names ≡ marks_of us sets

-- the same of all pubnames sections of an object
abbrev pub GathersNames : Class → List ℕ → List CuBoundary → List (List ℕ × Mark) → Type 0
GathersNames c file us names = Gathers c file us (pubnames_sections c file) names

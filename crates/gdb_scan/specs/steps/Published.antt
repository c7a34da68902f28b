-- What a pubnames section publishes. Only private contracts cite this.
use Rattle.std.specs.Prelude.{◌≡◌, ◌++◌, ℕ, List}
use Rattle.std.specs.List.{All}
use Rattle.gdb_index_format.specs.declared.unit.CuBoundary.{CuBoundary}
use Rattle.gdb_index_format.specs.Names.{NameSet, IsSetList}
use Rattle.dwarf_sections.specs.Clean.{IsClean}
use Rattle.gdb_scan.specs.declared.mark.Mark.{Mark}
use Rattle.gdb_scan.specs.Marks.{marks_of}

-- The bytes are sets whose names have no zero byte, and what they publish follows the names before.
pub record PublishesSection (bytes : List ℕ) (us : List CuBoundary) (old new : List (List ℕ × Mark)) : Type 0 where
  pub sets : List NameSet
  pub list : IsSetList bytes sets
  pub clean : All IsClean sets
  pub published : new ≡ old ++ marks_of us sets

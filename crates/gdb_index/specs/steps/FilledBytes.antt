-- Private steps: only private contracts cite this module.
-- The bytes of a table in which names stand.
use Rattle.std.specs.Prelude.{◌≡◌, ℕ, List}
use Rattle.gdb_index_format.specs.Named.{Named}
use Rattle.gdb_index.specs.Table.{Slot, table_bytes}
use Rattle.gdb_index.specs.Filled.{IsFilled}
use Rattle.gdb_index.specs.steps.Writes.{Extends}

-- the bytes of a table in which all names stand
pub record IsFilledTable (bytes : List ℕ) (slots : ℕ) (ns : List Named) : Type 0 where
  pub table : List Slot
  pub filled : IsFilled table slots ns
  pub bytes_are : bytes ≡ table_bytes table

-- a table of the names stands from an offset on
pub record ExtendsByTable (old new : List ℕ) (at slots : ℕ) (ns : List Named) : Type 0 where
  pub table : List Slot
  pub filled : IsFilled table slots ns
  pub extends : Extends old new at (table_bytes table)

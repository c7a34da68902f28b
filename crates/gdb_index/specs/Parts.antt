-- The parts of an index that a probe reads, for whoever reads it beside a lookup.
use Rattle.std.specs.Prelude.{◌≡◌, ℕ, ◌+◌, ◌*◌, ◌<◌, ◌≤◌, List, length, None}
use Rattle.gdb_index_format.specs.Probe as format
use Rattle.gdb_index.specs.declared.reader.Parts.{Parts}

-- the offsets of the parts of an index that has no fault, and the number of its slots
pub record ArePartsOf (b : List ℕ) (p : Parts) : Type 0 where
  pub sound : format.index_fault b ≡ None
  pub table : p.table ≡ format.table_at b
  pub slots : p.slots ≡ format.slot_count b
  pub pool : p.pool ≡ format.pool_at b
  pub table_within : p.table + 8 * p.slots ≤ length b
  pub pool_within : p.pool < 4294967296
  pub few : p.slots < 4294967296

-- What stands in the symbol hash table of an index, slot by slot (GDB manual, "Index Section Format": the symbol table).
-- Names and CU vectors are read as a probe reads them.
use Rattle.std.specs.Prelude.{ℕ, ◌+◌, ◌-◌, ◌*◌, ◌==◌, ◌&&◌, List, Option, Some, None, Result, if◌then◌else◌}
use Rattle.std.specs.List.{filter_map, range_with_len}
use Rattle.elf_format.specs.Bytes.{u32_at, string_at}
use Rattle.gdb_index_format.specs.declared.bad_index.BadIndex.{BadIndex}
use Rattle.gdb_index_format.specs.Hash.{name_hash}
use Rattle.gdb_index_format.specs.Slots.{slot_of}
use Rattle.gdb_index_format.specs.Probe.{table_at, pool_at, slot_count, vector_at, probe}

-- A taken slot: its number, its name where a zero byte ends it, and the elements of its CU vector or why it has none.
pub record StoredSlot : Type 0 where
  pub slot : ℕ
  pub name : Option (List ℕ)
  pub vector : Result (Option (List ℕ)) BadIndex

-- what a slot holds; a slot of two zeros is free
unfoldable pub stored_in : List ℕ → ℕ → Option StoredSlot
stored_in b s =
    let name_offset = u32_at b (table_at b + 8 * s) in
    let vector_offset = u32_at b (table_at b + 8 * s + 4) in
    if (name_offset == 0) && (vector_offset == 0) then None
    else Some (record { slot = s; name = string_at b (pool_at b + name_offset); vector = vector_at b (pool_at b + vector_offset) })

-- the taken slots, ascending
abbrev pub stored : List ℕ → List StoredSlot
stored b = filter_map (stored_in b) (range_with_len 0 (slot_count b))

-- the slot that the last step of the probe for a name reads: the one at which it ends
unfoldable pub last_slot : List ℕ → List ℕ → ℕ
last_slot b name = slot_of (slot_count b) (name_hash name) ((probe b name).steps - 1)

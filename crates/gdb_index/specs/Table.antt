-- The slots of the symbol hash table as bytes (GDB manual, "Index Section Format": the symbol table).
use Rattle.std.specs.Prelude.{ℕ, List, ◌++◌}
use Rattle.std.specs.List.{flat_map}
use Rattle.std.specs.Int.{w32, to_le_bytes}

-- what a slot holds: where a name and its vector begin, counted from the pool; two zeros where it is free
pub record Slot : Type 0 where
  pub name : ℕ
  pub vector : ℕ

abbrev pub free_slot : Slot
free_slot = record { name = 0; vector = 0 }

abbrev pub slot_bytes : Slot → List ℕ
slot_bytes s = to_le_bytes w32 s.name ++ to_le_bytes w32 s.vector

abbrev pub table_bytes : List Slot → List ℕ
table_bytes slots = flat_map slot_bytes slots

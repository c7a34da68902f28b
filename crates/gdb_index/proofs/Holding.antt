-- What an index holds, said slot by slot, and what the probe gives of it, name by name.
use Rattle.std.proofs.Common.{◌≡◌, ℕ, ◌+◌, ◌*◌, ◌<◌, ◌≤◌, List, length, get_or, Some, None, Ok}
use Rattle.std.specs.Int.{IsPowerOfTwo}
use Rattle.elf_format.specs.Bytes.{u32_at, string_at}
use Rattle.gdb_index_format.specs.Named.{Named}
use Rattle.gdb_index_format.specs.Version.{header_len}
use Rattle.gdb_index_format.specs.Probe.{index_fault, table_at, pool_at, slot_count, vector_at, probe}
use Rattle.gdb_index.specs.Table.{Slot, free_slot}
use Rattle.gdb_index.specs.Pool.{vector_offset, name_offset}
use Rattle.gdb_index.specs.Filled.{IsFilled}

-- the slot's numbers, as they are read
pub record SlotStands (b : List ℕ) (s : ℕ) (slot : Slot) : Type 0 where
  pub name : u32_at b (table_at b + 8 * s) ≡ slot.name
  pub vector : u32_at b (table_at b + 8 * s + 4) ≡ slot.vector

-- a sound index, in whose table the names stand, and in whose pool their vectors and bytes are
pub record HoldsNames (b : List ℕ) (ns : List Named) : Type 0 where
  pub header : header_len (u32_at b 0) ≤ length b
  pub sound : index_fault b ≡ None
  pub power_of_two : IsPowerOfTwo (slot_count b)
  pub room : length ns < slot_count b
  pub table : List Slot
  pub filled : IsFilled table (slot_count b) ns
  pub slots : (s : ℕ) → s < slot_count b → SlotStands b s (get_or table s free_slot)
  pub names : (i : ℕ) (d : Named) → i < length ns → string_at b (pool_at b + name_offset ns i) ≡ Some (get_or ns i d).name
  pub vectors : (i : ℕ) (d : Named) → i < length ns → vector_at b (pool_at b + vector_offset ns i) ≡ Ok (Some (get_or ns i d).words)

-- The probe finds name i, with its CU vector, within i + 1 steps.
pub record Finds (b : List ℕ) (ns : List Named) (i : ℕ) (d : Named) : Type 0 where
  pub answer : (probe b (get_or ns i d).name).answer ≡ Ok (Some (get_or ns i d).words)
  pub steps : (probe b (get_or ns i d).name).steps ≤ i + 1

-- It finds nothing under any other name, within one step more than there are names.
pub record FindsNothing (b : List ℕ) (ns : List Named) (name : List ℕ) : Type 0 where
  pub answer : (probe b name).answer ≡ Ok None
  pub steps : (probe b name).steps ≤ length ns + 1

-- a name is none of a list
abbrev pub IsNone : List Named → List ℕ → Type 0
IsNone ns name = (i : ℕ) (d : Named) → i < length ns → (get_or ns i d).name ≡ name → ⊥

-- The probe answers for each of the names, and for no other.
pub record Answered (b : List ℕ) (ns : List Named) : Type 0 where
  pub found : (i : ℕ) (d : Named) → i < length ns → Finds b ns i d
  pub absent : (name : List ℕ) → IsNone ns name → FindsNothing b ns name

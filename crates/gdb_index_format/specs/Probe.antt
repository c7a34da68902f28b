-- The probe: the CU vector that the bytes of an index hold for a name (GDB manual, "Index Section Format"). The
-- definition reads plain bytes and does not depend on how the index was made.
use Rattle.std.specs.Prelude.{ℕ, zero, suc, ◌+◌, ◌-◌, ◌*◌, ◌/◌, ◌%◌, ◌==◌, ◌&&◌, ◌||◌, Bool, not, List, map, length, Option, Some, None, Result, Ok, Err, nat_lt, nat_le, if◌then◌else◌}
use Rattle.std.specs.Int.{is_power_of_two}
use Rattle.std.specs.List.{range_with_len}
use Rattle.std.specs.Str.{bytes_eq}
use Rattle.gdb_index_format.specs.declared.bad_index.BadIndex.{BadIndex}
use Rattle.gdb_index_format.specs.declared.bad_index.BadIndex.TheVariants.{Version, Offsets, Slots, NameOutside, VectorOutside}
use Rattle.elf_format.specs.Bytes.{u32_at, string_at}
use Rattle.gdb_index_format.specs.Version.{is_known, header_len, pool_field}
use Rattle.gdb_index_format.specs.Hash.{name_hash}
use Rattle.gdb_index_format.specs.Slots.{slot_of}

-- the offsets of the symbol hash table and of the constant pool, and the number of slots
unfoldable pub table_at : List ℕ → ℕ
table_at b = u32_at b 16

unfoldable pub pool_at : List ℕ → ℕ
pool_at b = u32_at b (pool_field (u32_at b 0))

unfoldable pub slot_count : List ℕ → ℕ
slot_count b = (u32_at b 20 - u32_at b 16) / 8

-- the parts stand in order after the header, and within the bytes
unfoldable pub are_in_order : List ℕ → Bool
are_in_order b = nat_le (header_len (u32_at b 0)) (u32_at b 4) && nat_le (u32_at b 4) (u32_at b 8) && nat_le (u32_at b 8) (u32_at b 12) && nat_le (u32_at b 12) (u32_at b 16) && nat_le (u32_at b 16) (u32_at b 20) && nat_le (u32_at b 20) (pool_at b) && nat_le (pool_at b) (length b)

-- the symbol hash table is whole slots, and none or a power of two of them
unfoldable pub is_table : List ℕ → Bool
is_table b = ((u32_at b 20 - u32_at b 16) % 8 == 0) && ((slot_count b == 0) || is_power_of_two (slot_count b))

-- the fault of the index as a whole, for every name
unfoldable pub index_fault : List ℕ → Option BadIndex
index_fault b =
    if not (is_known (u32_at b 0)) then Some Version
    else (if not (are_in_order b) then Some Offsets
    else (if not (is_table b) then Some Slots else None))

-- What one probe step reads: the end of the probe with its answer, or a collision with another name.
pub data ProbeStep : Type 0 where
  Ends : Result (Option (List ℕ)) BadIndex → ProbeStep
  Passes : ProbeStep

-- the elements of the CU vector at an offset: a count, and so many elements of four bytes
unfoldable pub vector_at : List ℕ → ℕ → Result (Option (List ℕ)) BadIndex
vector_at b at =
    if nat_lt (length b) (at + 4) || nat_lt (length b) (at + 4 + 4 * u32_at b at) then Err VectorOutside
    else Ok (Some (map (λ k. u32_at b (at + 4 + 4 * k)) (range_with_len 0 (u32_at b at))))

abbrev pub step_named : List ℕ → List ℕ → ℕ → Option (List ℕ) → ProbeStep
step_named b name at None = Ends (Err NameOutside)
step_named b name at (Some stored) = if bytes_eq stored name then Ends (vector_at b at) else Passes

-- the probe step that reads a slot, for a name
unfoldable pub step_in : List ℕ → List ℕ → ℕ → ProbeStep
step_in b name slot =
    let name_offset = u32_at b (table_at b + 8 * slot) in
    let vector_offset = u32_at b (table_at b + 8 * slot + 4) in
    if (name_offset == 0) && (vector_offset == 0) then Ends (Ok None)
    else step_named b name (pool_at b + vector_offset) (string_at b (pool_at b + name_offset))

-- The answer of a probe, and the number of its steps.
pub record Probed : Type 0 where
  pub answer : Result (Option (List ℕ)) BadIndex
  pub steps : ℕ

abbrev pub after_step : ProbeStep → ℕ → Probed → Probed
after_step (Ends answer) k rest = record { answer = answer; steps = k + 1 }
after_step Passes k rest = rest

-- from step k on, with so many steps left
unfoldable pub probe_from : (ℕ → ProbeStep) → ℕ → ℕ → Probed
probe_from step zero k = record { answer = Ok None; steps = k }
probe_from step (suc left) k = after_step (step k) k (probe_from step left (k + 1))

-- step k of the probe for a name
abbrev pub step_at : List ℕ → List ℕ → ℕ → ProbeStep
step_at b name k = step_in b name (slot_of (slot_count b) (name_hash name) k)

abbrev pub unless_fault : Option BadIndex → Probed → Probed
unless_fault (Some fault) rest = record { answer = Err fault; steps = 0 }
unless_fault None rest = rest

unfoldable pub probe : List ℕ → List ℕ → Probed
probe b name =
    if nat_lt (length b) (header_len (u32_at b 0)) then record { answer = Ok None; steps = 0 }
    else unless_fault (index_fault b) (probe_from (step_at b name) (slot_count b) 0)

-- How many bytes an index has (GDB manual, "Index Section Format").
use Rattle.std.specs.Prelude.{◌≡◌, ℕ, ◌+◌, ◌*◌, ◌==◌, List, length, if◌then◌else◌}
use Rattle.std.specs.List.{sum_by}
use Rattle.gdb_index_format.specs.Version.{header_len, shortcut_len}
use Rattle.gdb_index_format.specs.Slots.{IsSlotCount}
use Rattle.gdb_index_format.specs.Published.{Object, units_of_all, published, first_names}

-- what the size depends on; `name_bytes` counts each name with its zero byte; `words` are the elements of all CU vectors
pub record Counts : Type 0 where
  pub units : ℕ
  pub placed : ℕ
  pub names : ℕ
  pub words : ℕ
  pub name_bytes : ℕ

-- the bytes of an index with so many slots
abbrev pub size_with : ℕ → Counts → ℕ → ℕ
size_with version n slots = header_len version + 16 * n.units + 20 * n.placed + 8 * slots + shortcut_len version + 4 * (n.names + n.words) + n.name_bytes

-- So many bytes has the index: none without a unit.
pub record IsSize (version : ℕ) (n : Counts) (size : ℕ) : Type 0 where
  pub slots : ℕ
  pub counted : IsSlotCount n.names slots
  pub size_is : size ≡ (if n.units == 0 then 0 else size_with version n slots)

-- Counts have one size.
pub record SizesAreOne : Type 0 where
  pub some_size : (version : ℕ) (n : Counts) → (size : ℕ) × IsSize version n size
  pub one_size : (version : ℕ) (n : Counts) (s t : ℕ) → IsSize version n s → IsSize version n t → s ≡ t
  pub one_slot_count : (names s t : ℕ) → IsSlotCount names s → IsSlotCount names t → s ≡ t

-- the counts of what objects hold, with so many placements that count
abbrev pub counts_of : List Object → ℕ → Counts
counts_of os placed = record {
  units = length (units_of_all os);
  placed = placed;
  names = length (first_names (published os));
  words = length (published os);
  name_bytes = sum_by (λ n. length n + 1) (first_names (published os));
}

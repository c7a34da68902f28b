-- The bytes of an index, part by part (GDB manual, "Index Section Format").
use Rattle.std.specs.Prelude.{◌≡◌, ℕ, ◌+◌, ◌*◌, ◌^◌, ◌<◌, List, [], ◌∷◌, ◌++◌, length, replicate}
use Rattle.std.specs.List.{All, flat_map}
use Rattle.std.specs.Int.{w32, w64, to_le_bytes}
use Rattle.gdb_index_format.specs.declared.unit.CuBoundary.{CuBoundary}
use Rattle.gdb_index_format.specs.declared.placement.AddressEntry.{AddressEntry}
use Rattle.gdb_index_format.specs.Slots.{IsSlotCount}
use Rattle.gdb_index_format.specs.Named.{Named}
use Rattle.gdb_index_format.specs.Version.{header_len, shortcut_fields, shortcut_len}
use Rattle.gdb_index.specs.Scan.{Scan}
use Rattle.gdb_index.specs.Table.{Slot, table_bytes}
use Rattle.gdb_index.specs.Filled.{IsFilled}

-- numbers of four bytes, one after another
abbrev pub u32s_bytes : List ℕ → List ℕ
u32s_bytes numbers = flat_map (to_le_bytes w32) numbers

abbrev pub unit_bytes : CuBoundary → List ℕ
unit_bytes u = to_le_bytes w64 u.offset ++ to_le_bytes w64 u.length

-- units whose numbers fit their fields
abbrev pub AreUnits : List CuBoundary → Type 0
AreUnits us = All (λ u. (u.offset < 2 ^ 64) × (u.length < 2 ^ 64)) us

abbrev pub address_bytes : AddressEntry → List ℕ
address_bytes a = to_le_bytes w64 a.low ++ to_le_bytes w64 a.high ++ to_le_bytes w32 a.unit

abbrev pub vector_bytes : Named → List ℕ
vector_bytes n = u32s_bytes (length n.words ∷ n.words)

abbrev pub name_bytes : Named → List ℕ
name_bytes n = n.name ++ 0 ∷ []

-- the offsets of the parts after the CU list
abbrev pub addresses_offset : ℕ → ℕ → ℕ
addresses_offset version units = header_len version + 16 * units

abbrev pub hash_table_offset : ℕ → ℕ → ℕ → ℕ
hash_table_offset version units addresses = addresses_offset version units + 20 * addresses

abbrev pub shortcuts_offset : ℕ → ℕ → ℕ → ℕ → ℕ
shortcuts_offset version units addresses slots = hash_table_offset version units addresses + 8 * slots

abbrev pub pool_offset : ℕ → ℕ → ℕ → ℕ → ℕ
pool_offset version units addresses slots = shortcuts_offset version units addresses slots + shortcut_len version

-- the version and the offsets of the parts: CU list, types CU list, address area, symbol hash table, shortcut table in
-- version 9, constant pool. The types CU list begins where the address area does, so it is empty.
abbrev pub header_numbers : ℕ → ℕ → ℕ → ℕ → List ℕ
header_numbers version units addresses slots =
    version ∷ header_len version ∷ addresses_offset version units ∷ addresses_offset version units ∷ hash_table_offset version units addresses
    ∷ (shortcut_fields version (shortcuts_offset version units addresses slots) ++ pool_offset version units addresses slots ∷ [])

-- The bytes are the index of a scan with these addresses: header, CU list, no types CU list, address area,
-- the symbol hash table in which each name stands in the first slot of its probe that no earlier name holds, in version
-- 9 a shortcut table of zeros, the CU vectors, the names, and zeros to the end.
pub record IsLayoutOf (version : ℕ) (s : Scan) (addresses : List AddressEntry) (b : List ℕ) : Type 0 where
  pub slots : ℕ
  pub counted : IsSlotCount (length s.names) slots
  pub table : List Slot
  pub filled : IsFilled table slots s.names
  pub saved : ℕ
  pub bytes_are : b ≡ u32s_bytes (header_numbers version (length s.units) (length addresses) slots) ++ flat_map unit_bytes s.units ++ flat_map address_bytes addresses ++ table_bytes table ++ replicate (shortcut_len version) 0 ++ flat_map vector_bytes s.names ++ flat_map name_bytes s.names ++ replicate saved 0

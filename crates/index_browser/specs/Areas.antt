-- The areas of an index that are lists: the address area, beside the CU list (GDB manual, "Index Section Format").
use Rattle.std.specs.Prelude.{◌≡◌, ℕ, not, ◌^◌, ◌<◌, ◌||◌, nat_lt, List, [], map, length, slice_range, if◌then◌else◌}
use Rattle.std.specs.List.{All}
use Rattle.elf_format.specs.Bytes.{u32_at, u64_at, whole_records}
use Rattle.gdb_index_format.specs.declared.placement.AddressEntry.{AddressEntry}
use Rattle.gdb_index_format.specs.Version.{is_known, header_len}
use Rattle.gdb_index_format.specs.Units.{index_units}

-- an entry of the address area: its first address, the one past its last, and the index of its unit
abbrev pub address_in : List ℕ → AddressEntry
address_in bytes = record { low = u64_at bytes 0; high = u64_at bytes 8; unit = u32_at bytes 16 }

-- The address entries that an index lists, between its third and its fourth offset: none where the version is unknown,
-- or the bytes are shorter than its header.
unfoldable pub index_addresses : List ℕ → List AddressEntry
index_addresses b =
    if not (is_known (u32_at b 0)) || nat_lt (length b) (header_len (u32_at b 0)) then []
    else map address_in (whole_records 20 (slice_range b (u32_at b 12) (u32_at b 16)))

-- the number of units that an index lists
abbrev pub unit_count : List ℕ → ℕ
unit_count b = length (index_units b)

-- address entries whose numbers fit their fields
abbrev pub AreAddresses : List AddressEntry → Type 0
AreAddresses entries = All (λ a. (a.low < 2 ^ 64) × (a.high < 2 ^ 64) × (a.unit < 2 ^ 32)) entries

-- an index of a version lists these address entries
pub record ListsAddresses (b : List ℕ) (version : ℕ) (entries : List AddressEntry) : Type 0 where
  pub version_is : u32_at b 0 ≡ version
  pub entries_are : index_addresses b ≡ entries

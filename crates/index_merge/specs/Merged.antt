-- The merged index of two indexes (GDB manual, "Index Section Format").
use Rattle.std.specs.Prelude.{◌≡◌, ◌≢◌, ℕ, ◌+◌, ◌^◌, ◌<◌, ◌≤◌, Bool, not, nat_lt, List, [], ◌++◌, map, length, position, None}
use Rattle.std.specs.List.{filter, list_any}
use Rattle.elf_format.specs.Bytes.{u32_at}
use Rattle.gdb_index_format.specs.declared.unit.CuBoundary.{CuBoundary}
use Rattle.gdb_index_format.specs.declared.placement.AddressEntry.{AddressEntry}
use Rattle.gdb_index_format.specs.declared.version.IndexVersion.{IndexVersion}
use Rattle.gdb_index_format.specs.Named.{Named}
use Rattle.gdb_index_format.specs.Probe.{probe}
use Rattle.gdb_index_format.specs.Size.{Counts, IsSize}
use Rattle.gdb_index_format.specs.Units.{index_units}
use Rattle.gdb_index_format.specs.Version.{version_number}
use Rattle.gdb_index.specs.Answers.{is_sought}
use Rattle.gdb_index.specs.Pool.{names_len}
use Rattle.gdb_index.specs.Scan.{word_count}
use Rattle.index_browser.specs.Areas.{index_addresses, unit_count}
use Rattle.index_browser.specs.Checked.{IsChecked}
use Rattle.index_browser.specs.NameList.{IsNameListOf}
use Rattle.index_merge.specs.Joined.{IsJoinedAnswer}

-- a unit so many bytes further on
abbrev pub moved_unit : ℕ → CuBoundary → CuBoundary
moved_unit offset u = record { offset = u.offset + offset; length = u.length }

-- an address entry, where so many units stand before those that it counts from
abbrev pub moved_address : ℕ → AddressEntry → AddressEntry
moved_address units a = record { low = a.low; high = a.high; unit = a.unit + units }

-- the units of the first index, and those of the second so many bytes further on
abbrev pub units_of_both : List ℕ → List ℕ → ℕ → List CuBoundary
units_of_both first second offset = index_units first ++ map (moved_unit offset) (index_units second)

-- the address entries of the first index, and those of the second after the units of the first
abbrev pub addresses_of_both : List ℕ → List ℕ → List AddressEntry
addresses_of_both first second = index_addresses first ++ map (moved_address (unit_count first)) (index_addresses second)

-- the number of units of both indexes
abbrev pub units_in_all : List ℕ → List ℕ → ℕ
units_in_all first second = unit_count first + unit_count second

-- whether the moved offset of a unit needs more than 64 bits
abbrev pub is_too_far : ℕ → CuBoundary → Bool
is_too_far offset u = not (nat_lt (u.offset + offset) 18446744073709551616)

-- the names of the second list that the first does not have
abbrev pub names_beside : List Named → List Named → List Named
names_beside ns ms = filter (λ m. not (list_any (is_sought m.name) ns)) ms

-- What the size of the merged index depends on, where these are the names of both indexes: both numbers of units and of
-- address entries, each name once, and the elements of all CU vectors.
abbrev pub merged_counts : List ℕ → List ℕ → List Named → List Named → Counts
merged_counts first second ns ms = record {
  units = units_in_all first second;
  placed = length (index_addresses first) + length (index_addresses second);
  names = length ns + length (names_beside ns ms);
  words = word_count ns + word_count ms;
  name_bytes = names_len ns + names_len (names_beside ns ms);
}

-- so many bytes has the merged index: none without a unit
pub record IsMergedSize (version : ℕ) (first second : List ℕ) (size : ℕ) : Type 0 where
  pub names : List Named
  pub second_names : List Named
  pub listed : IsNameListOf first names
  pub second_listed : IsNameListOf second second_names
  pub size_is : IsSize version (merged_counts first second names second_names) size

-- The merged index of two indexes, the units of the second so many bytes further on, in a version. It has the merged size,
-- lists the units and address entries of both, and can be browsed. For every byte string its probe finds the joined CU
-- vector where that has elements, and else none.
pub record IsMergedIndex (version : IndexVersion) (first second : List ℕ) (offset : ℕ) (b : List ℕ) : Type 0 where
  pub size : IsMergedSize (version_number version) first second (length b)
  pub version_is : b ≢ [] → u32_at b 0 ≡ version_number version
  pub units : index_units b ≡ units_of_both first second offset
  pub addresses : index_addresses b ≡ addresses_of_both first second
  pub answers : (name : List ℕ) → IsJoinedAnswer first second name (probe b name).answer
  pub checked : IsChecked b

-- no unit of the second index is moved too far, both have few enough units, and the merged size fits 32 bits
pub record IsMergeable (version : ℕ) (first second : List ℕ) (offset : ℕ) : Type 0 where
  pub near : position (is_too_far offset) (index_units second) ≡ None
  pub few : units_in_all first second ≤ 2 ^ 24
  pub size : ℕ
  pub size_is : IsMergedSize version first second size
  pub fits : size < 2 ^ 32

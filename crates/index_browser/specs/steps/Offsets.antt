-- Private steps: only private contracts cite this module.
-- The offsets of the areas of an index, as they are read.
use Rattle.std.specs.Prelude.{◌≡◌, ℕ, ◌+◌, ◌^◌, ◌<◌, ◌≤◌, List, length, None}
use Rattle.elf_format.specs.Bytes.{u32_at, u64_at}
use Rattle.gdb_index_format.specs.declared.unit.CuBoundary.{CuBoundary}
use Rattle.gdb_index_format.specs.declared.placement.AddressEntry.{AddressEntry}
use Rattle.gdb_index_format.specs.Version.{header_len}
use Rattle.gdb_index_format.specs.Probe.{index_fault}
use Rattle.index_browser.specs.declared.areas.Areas.{Areas}

-- an index with a header, in which probes can be made
pub record HasFormat (b : List ℕ) : Type 0 where
  pub long : header_len (u32_at b 0) ≤ length b
  pub format : index_fault b ≡ None

-- the areas follow one another, within the bytes
pub record AreAreasOf (b : List ℕ) (a : Areas) : Type 0 where
  pub units : a.units ≡ u32_at b 4
  pub types : a.types ≡ u32_at b 8
  pub addresses : a.addresses ≡ u32_at b 12
  pub end : a.end ≡ u32_at b 16
  pub first : a.units ≤ a.types
  pub second : a.types ≤ a.addresses
  pub third : a.addresses ≤ a.end
  pub within : a.end ≤ length b
  pub low : a.end < 2 ^ 32

-- the unit, and the address entry, that stand at an offset
abbrev pub unit_from : List ℕ → ℕ → CuBoundary
unit_from b at = record { offset = u64_at b at; length = u64_at b (at + 8) }

abbrev pub address_from : List ℕ → ℕ → AddressEntry
address_from b at = record { low = u64_at b at; high = u64_at b (at + 8); unit = u32_at b (at + 16) }

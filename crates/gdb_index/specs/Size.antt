-- How many bytes an index has, by the counts that the code holds.
use Rattle.std.specs.Prelude.{ℕ, ◌^◌, ◌<◌, ◌≤◌, length}
use Rattle.gdb_index_format.specs.Size.{Counts, IsSize}
use Rattle.gdb_index.specs.declared.size.IndexCounts.{IndexCounts}
use Rattle.gdb_index.specs.declared.size.IndexTooLarge.{IndexTooLarge}
use Rattle.gdb_index.specs.Scan.{Scan, word_count}
use Rattle.gdb_index.specs.Pool.{names_len}

abbrev pub format_counts : IndexCounts → Counts
format_counts c = record { units = c.units; placed = c.placed; names = c.names; words = c.words; name_bytes = c.name_bytes }

-- so many bytes has an index of these counts
abbrev pub IsIndexSize : ℕ → IndexCounts → ℕ → Type 0
IsIndexSize version c size = IsSize version (format_counts c) size

-- the size, where offsets of four bytes can count it
pub record IsCountable (version : ℕ) (c : IndexCounts) (n : ℕ) : Type 0 where
  pub size : IsIndexSize version c n
  pub below : n < 2 ^ 32

-- a size that they cannot count, which the error holds
pub record IsTooLarge (version : ℕ) (c : IndexCounts) (e : IndexTooLarge) : Type 0 where
  pub size : IsIndexSize version c e.0
  pub above : 2 ^ 32 ≤ e.0

-- Counts whose size fits 128 bits.
pub record AreSmall (c : IndexCounts) : Type 0 where
  pub units : c.units < 2 ^ 120
  pub placed : c.placed < 2 ^ 120
  pub names : c.names < 2 ^ 120
  pub words : c.words < 2 ^ 120
  pub name_bytes : c.name_bytes < 2 ^ 120

-- what the size of the index of a scan depends on
abbrev pub scan_counts : Scan → IndexCounts
scan_counts s = record { units = length s.units; placed = s.placed; names = length s.names; words = word_count s.names; name_bytes = names_len s.names }

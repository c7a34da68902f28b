-- Files and a sink that stand in memory and fail at listed calls, as a caller sees them.
use Rattle.std.specs.Prelude.{ℕ, Bool, true, false, List, length, map, ◌==◌, Vec, String, string_bytes, Option, Some, None, nat_lt, if◌then◌else◌}
use Rattle.std.specs.declared.alloc.Global.{Global}
use Rattle.std.specs.List.{list_any}
use Rattle.program_io.specs.Contents.{file_of}
use Rattle.program_io.specs.declared.files.FileFault.{FileFault}
use Rattle.program_io.specs.declared.files.FileFault.TheVariants.{Failed, TooLong}

-- the files, the numbers of the calls that fail, the names that were read, and the counts of calls, of faults and of bytes taken
pub record FilesInMemory : Type 0 where
  pub files : List (List ℕ × List ℕ)
  pub failing : List ℕ
  pub reads : List (List ℕ)
  pub calls : ℕ
  pub faults : ℕ
  pub taken : ℕ

-- what was written, the numbers of the calls that fail, the texts that were put, and the counts of calls and of faults
pub record SinkInMemory : Type 0 where
  pub written : List ℕ
  pub failing : List ℕ
  pub puts : List (List ℕ)
  pub calls : ℕ
  pub faults : ℕ

-- the files that pairs of a name and bytes are
abbrev pub files_of : List (String Global × Vec ℕ Global) → List (List ℕ × List ℕ)
files_of pairs = map (λ pair. (string_bytes pair.0, pair.1.items)) pairs

-- whether a call of this number is to fail
abbrev pub is_listed : List ℕ → ℕ → Bool
is_listed failing number = list_any (λ n. n == number) failing

-- the fault of a read, by whether its call is listed, what its file holds, and the limit
abbrev pub fault_of_read : Bool → Option (List ℕ) → ℕ → Option FileFault
fault_of_read true file limit = Some Failed
fault_of_read false None limit = Some Failed
fault_of_read false (Some bytes) limit = if nat_lt limit (length bytes) then Some TooLong else None

-- the fault of the next read, of this name, where memory does not run out
abbrev pub next_fault : FilesInMemory → List ℕ → ℕ → Option FileFault
next_fault memory name limit = fault_of_read (is_listed memory.failing memory.calls) (file_of memory.files name) limit

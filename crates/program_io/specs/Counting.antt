-- Counts that only rise, and stand still at the last value of a u64.
use Rattle.std.specs.Prelude.{ℕ, ◌+◌, ◌-◌, ◌^◌, ◌≤◌, min, List, Option, Result, Ok, Err}
use Rattle.program_io.specs.declared.files.FileFault.{FileFault}
use Rattle.program_io.specs.declared.files.FileFault.TheVariants as files
use Rattle.program_io.specs.declared.sink.SinkFault.{SinkFault}
use Rattle.program_io.specs.declared.sink.SinkFault.TheVariants as sink

-- the count after n more: a count that would pass the last value stands at it
abbrev pub counted : ℕ → ℕ → ℕ
counted n before = min (before + n) (2 ^ 64 - 1)

-- the count rose by n or more, or stands at the last value
abbrev pub RoseBy : ℕ → ℕ → ℕ → Type 0
RoseBy n before now = min (before + n) (2 ^ 64 - 1) ≤ now

-- the count rose, or stands at the last value
abbrev pub Rose : ℕ → ℕ → Type 0
Rose before now = min (before + 1) (2 ^ 64 - 1) ≤ now

-- the count of faults after a read: it rises at `Failed` and at no other result
abbrev pub faults_after_read : {T : Type 0} → Result T FileFault → ℕ → ℕ
faults_after_read (Ok value) before = before
faults_after_read (Err files.Failed) before = counted 1 before
faults_after_read (Err files.TooLong) before = before
faults_after_read (Err files.NoMemory) before = before

-- the count of faults after a write: it rises at `Failed` and at no other result
abbrev pub faults_after_put : {T : Type 0} → Result T SinkFault → ℕ → ℕ
faults_after_put (Ok value) before = before
faults_after_put (Err sink.Failed) before = counted 1 before
faults_after_put (Err sink.NoMemory) before = before

-- files whose contents are not known: the names that were read, and the counts of faults and of bytes taken
pub record FilesUnknown : Type 0 where
  pub reads : List (List ℕ)
  pub faults : ℕ
  pub taken : ℕ

-- a stream as a sink: what its writer holds, where that is known, the texts that were put, and the count of faults
pub record StreamWritten : Type 0 where
  pub contents : Option (List ℕ)
  pub puts : List (List ℕ)
  pub faults : ℕ

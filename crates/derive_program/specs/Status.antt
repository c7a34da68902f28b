-- The exit status of each answer, and which of them write.
use Rattle.std.specs.Prelude.{ℕ, Bool, true, false}
use Rattle.derive_program.specs.declared.ran.Ran.{Ran}
use Rattle.derive_program.specs.declared.ran.Ran.TheVariants.{Done, Found, Located, Absent, Listed, Merged, Shown, Refused, RefusedIndex, RefusedFrames, RefusedBrowse, RefusedMerge, BadWords, BadLayout, ReadFault, FileTooLong, WriteFault, NoMemory}

abbrev pub status_of : Ran → ℕ
status_of (Done tables) = 0
status_of (Found answer) = 0
status_of (Located index) = 0
status_of Absent = 8
status_of (Listed count) = 0
status_of (Merged len) = 0
status_of (Shown summary tables) = 0
status_of (Refused error) = 1
status_of (RefusedIndex fault) = 1
status_of (RefusedFrames fault) = 1
status_of (RefusedBrowse fault) = 1
status_of (RefusedMerge error) = 1
status_of (BadWords index) = 2
status_of (ReadFault index) = 3
status_of WriteFault = 4
status_of (BadLayout line) = 5
status_of NoMemory = 6
status_of (FileTooLong index) = 7

-- an answer before which something may have been written
abbrev pub may_write : Ran → Bool
may_write (Done tables) = true
may_write (Found answer) = true
may_write (Located index) = true
may_write (Listed count) = true
may_write (Merged len) = true
may_write (Shown summary tables) = true
may_write WriteFault = true
may_write ran = false

-- an answer for arguments that were not collected
abbrev pub IsWordsFault : Ran → Type 0
IsWordsFault (BadWords index) = Unit {0}
IsWordsFault NoMemory = Unit {0}
IsWordsFault ran = ⊥

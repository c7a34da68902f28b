-- Which files a run reads, and how its answer counts faults.
use Rattle.std.specs.Prelude.{◌≡◌, ℕ, ◌++◌, List, take, Result, Ok, Err}
use Rattle.program_io.specs.Counting.{counted}
use Rattle.program_text.specs.Command.{Request}
use Rattle.program_files.specs.Reading.{names_of, names_through}
use Rattle.derive_program.specs.declared.ran.Ran.{Ran}
use Rattle.derive_program.specs.declared.ran.Ran.TheVariants.{BadWords, ReadFault, FileTooLong, WriteFault, NoMemory}

-- the files of a command that are read for an answer, each once, in the order of its arguments: all of them, those up to the file that was
-- refused, or, where memory ran out, some of the first
abbrev pub HasReadFor : Request → List (List ℕ) → List (List ℕ) → Ran → Type 0
HasReadFor command old new (BadWords index) = new ≡ old
HasReadFor command old new (ReadFault index) = new ≡ old ++ take (names_through command index) (names_of command)
HasReadFor command old new (FileTooLong index) = new ≡ old ++ take (names_through command index) (names_of command)
HasReadFor command old new NoMemory = (n : ℕ) × (new ≡ old ++ take n (names_of command))
HasReadFor command old new ran = new ≡ old ++ names_of command

-- the files that are read for an answer to some arguments: none where the arguments are no command
abbrev pub HasReadOf : Result Request ℕ → List (List ℕ) → List (List ℕ) → Ran → Type 0
HasReadOf (Ok command) old new ran = HasReadFor command old new ran
HasReadOf (Err index) old new ran = new ≡ old

-- the files' count of faults after an answer: it rises by one for a file that was not read, and for no other answer
abbrev pub read_faults_after : Ran → ℕ → ℕ
read_faults_after (ReadFault index) before = counted 1 before
read_faults_after ran before = before

-- the sink's count of faults after an answer: it rises by one for a text that was not written, and for no other answer
abbrev pub write_faults_after : Ran → ℕ → ℕ
write_faults_after WriteFault before = counted 1 before
write_faults_after ran before = before

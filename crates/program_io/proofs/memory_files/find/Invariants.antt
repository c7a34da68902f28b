use Rattle.std.proofs.Common.{◌≡◌, length}
use Rattle.program_io.specs.Contents.{file_of}
use Rattle.program_io.specs.InMemory.{files_of}
use Rattle.program_io.proofs.memory_files.find.Given as goal

abbrev pub invariant-loop-rest : goal.invariant-loop-rest
invariant-loop-rest l = file_of (files_of l.rest) l.name ≡ file_of (files_of l.files) l.name

abbrev pub decreases-loop-rest : goal.decreases-loop-rest
decreases-loop-rest l = length l.rest

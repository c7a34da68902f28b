use Rattle.std.proofs.Common.{◌≡◌, ◌+◌, ◌≤◌, length}
use Rattle.program_text.specs.Arguments.{arguments_of}
use Rattle.program_files.proofs.NameLemmas.{NamesSoFar}
use Rattle.program_files.proofs.ObjectLemmas.{ObjectsSoFar}
use Rattle.program_files.proofs.reading.read_objects.Given as goal

abbrev pub invariant-objects : goal.invariant-objects
invariant-objects g l = record {
  held : g.F.Files.held l.files ≡ g.F.Files.held l.initial.files;
  steady : g.F.Files.steady l.files ≡ g.F.Files.steady l.initial.files;
  faults : g.F.Files.faults l.initial.files ≤ g.F.Files.faults l.files;
  taken : g.F.Files.taken l.initial.files ≤ g.F.Files.taken l.files;
  index : l.index + length l.rest ≡ l.first + length l.names;
  counted : g.F.Files.faults l.files ≡ g.F.Files.faults l.initial.files;
  names : NamesSoFar l.first (arguments_of l.names) l.index (arguments_of l.rest) (g.F.Files.reads l.initial.files) (g.F.Files.reads l.files);
  read : ObjectsSoFar (g.F.Files.held l.initial.files) l.first (arguments_of l.names) l.index (arguments_of l.rest) l.buffer.items l.objects.items (g.F.Files.taken l.initial.files) (g.F.Files.taken l.files);
}

abbrev pub decreases-objects : goal.decreases-objects
decreases-objects g l = length l.rest

use Rattle.std.proofs.Common.{◌≡◌, ◌++◌, ℕ, List, length}
use Rattle.std.specs.Io.KnownBytes.{Appends}
use Rattle.program_io.proofs.stream_sink.write_whole.Given as goal

abbrev pub invariant-pieces : goal.invariant-pieces
invariant-pieces g l = record {
  done : List ℕ;
  parts : l.bytes ≡ done ++ l.rest;
  wrote : Appends (g.W.Write.contents l.initial.out) (g.W.Write.contents l.out) done;
}

abbrev pub decreases-pieces : goal.decreases-pieces
decreases-pieces g l = length l.rest

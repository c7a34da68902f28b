use Rattle.std.proofs.Common.{◌≡◌, take}
use Rattle.gdb_tables.specs.Files.{all_parsed}
use Rattle.derivation.specs.Objects.{objects_of, parsed_of, AreObjects}
use Rattle.derivation.proofs.object.parse_objects.Given as goal

abbrev pub invariant-loop-index : goal.invariant-loop-index
invariant-loop-index l = record {
  done : all_parsed l.files.items ≡ parsed_of l.buffer (take l.index l.spans);
  sound : AreObjects l.expected (objects_of l.buffer (take l.index l.spans));
}

use Rattle.std.proofs.Common.{nat_eq}
use Rattle.std.specs.HashMap as hash
use Rattle.gdb_scan.proofs.Assigning.{Assigned}
use Rattle.gdb_scan.proofs.map.map_of_relocations.Given as goal

abbrev pub invariant-loop-index : goal.invariant-loop-index
invariant-loop-index g l = record {
  assigned : Assigned g.C.ElfClass.class l.file.is_dynamic l.file.bytes l.units l.base l.relocations l.index (hash.get nat_eq l.map);
}

use Rattle.std.proofs.Common.{List, ◌++◌, length}
use Rattle.gdb_index_format.specs.Names.{NameSet, IsSetList}
use Rattle.dwarf_sections.specs.Sets.{sets_in}
use Rattle.dwarf_sections.proofs.sets.parse_pubnames_sets.Given as goal

abbrev pub invariant-loop-rest : goal.invariant-loop-rest
invariant-loop-rest l = record {
  sound : (ss : List NameSet) → IsSetList l.rest ss → IsSetList l.bytes (sets_in l.sets.items ++ ss);
  complete : (ss : List NameSet) → IsSetList l.bytes ss → (ts : List NameSet) × IsSetList l.rest ts;
}

abbrev pub decreases-loop-rest : goal.decreases-loop-rest
decreases-loop-rest l = length l.rest

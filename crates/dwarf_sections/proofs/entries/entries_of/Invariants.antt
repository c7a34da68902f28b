use Rattle.std.proofs.Common.{List, ◌++◌, length}
use Rattle.gdb_index_format.specs.Names.{Entry, IsEntries}
use Rattle.dwarf_sections.specs.Entries.{entries_in}
use Rattle.dwarf_sections.proofs.entries.entries_of.Given as goal

abbrev pub invariant-loop-entries : goal.invariant-loop-entries
invariant-loop-entries l = record {
  sound : (es : List Entry) → IsEntries l.format l.rest es → IsEntries l.format l.bytes (entries_in l.entries.items ++ es);
  complete : (es : List Entry) → IsEntries l.format l.bytes es → (fs : List Entry) × IsEntries l.format l.rest fs;
}

abbrev pub decreases-loop-entries : goal.decreases-loop-entries
decreases-loop-entries l = length l.rest

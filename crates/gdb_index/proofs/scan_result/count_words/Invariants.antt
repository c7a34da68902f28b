use Rattle.std.proofs.Common.{◌≡◌, ◌≤◌, ◌+◌, ◌*◌, drop}
use Rattle.gdb_index_format.specs.Named.{all_named}
use Rattle.gdb_index.specs.Scan.{word_count}
use Rattle.gdb_index.proofs.scan_result.count_words.Given as goal

abbrev pub invariant-loop-named : goal.invariant-loop-named
invariant-loop-named l = record {
  left : l.total + word_count (all_named (drop l.named-index l.names)) ≡ word_count (all_named l.names);
  small : l.total ≤ l.named-index * 18446744073709551616;
}

use Rattle.std.proofs.Common.{◌≡◌, ◌≤◌, ◌+◌, ◌*◌, drop}
use Rattle.gdb_index_format.specs.Named.{all_named}
use Rattle.gdb_index.specs.Pool.{names_len}
use Rattle.gdb_index.proofs.scan_result.count_name_bytes.Given as goal

abbrev pub invariant-loop-named : goal.invariant-loop-named
invariant-loop-named l = record {
  left : l.total + names_len (all_named (drop l.named-index l.names)) ≡ names_len (all_named l.names);
  small : l.total ≤ l.named-index * 18446744073709551616;
}

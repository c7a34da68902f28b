use Rattle.std.proofs.Common.{take}
use Rattle.gdb_index_format.specs.Named.{all_named}
use Rattle.gdb_index.specs.Scan.{HaveSmallWords}
use Rattle.gdb_index.proofs.scan_result.read_elements.Given as goal

abbrev pub invariant-loop-named : goal.invariant-loop-named
invariant-loop-named l = HaveSmallWords (all_named (take l.named-index l.names))

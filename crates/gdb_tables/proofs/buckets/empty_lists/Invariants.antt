use Rattle.std.proofs.Common.{◌≡◌, [], map}
use Rattle.std.specs.List.{range_with_len}
use Rattle.gdb_scan.specs.Buckets.{of_bucket}
use Rattle.gdb_tables.specs.steps.Distributed.{lists_shown}
use Rattle.gdb_tables.proofs.buckets.empty_lists.Given as goal

abbrev pub invariant-loop : goal.invariant-loop
invariant-loop l = lists_shown l.lists.items ≡ map (λ b. of_bucket b []) (range_with_len 0 l.counter)

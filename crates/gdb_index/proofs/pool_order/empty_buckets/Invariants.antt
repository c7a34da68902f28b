use Rattle.std.proofs.Common.{◌≡◌, [], map}
use Rattle.std.specs.List.{range_with_len}
use Rattle.gdb_index.specs.FromParts.{named_in_bucket}
use Rattle.gdb_index.specs.steps.Split.{lists_named}
use Rattle.gdb_index.proofs.pool_order.empty_buckets.Given as goal

abbrev pub invariant-loop : goal.invariant-loop
invariant-loop l = lists_named l.lists.items ≡ map (λ b. named_in_bucket b []) (range_with_len 0 l.counter)

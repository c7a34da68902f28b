use Rattle.std.proofs.Common.{◌≡◌, List, ap, ◌∙◌, arith}
use Rattle.std.specs.List.{flat_map}
use Rattle.std.proofs.lemmas.Grind.{common_steps}
use Rattle.gdb_index_format.specs.Named.{Named, all_named}
use Rattle.gdb_index.specs.steps.Split.{lists_named}
use Rattle.gdb_index.proofs.PoolOrders.{joined_buckets}
use Rattle.gdb_index.proofs.pool_order.in_pool_order.Goals as goal

pub returns : goal.returns
returns c =
    let all : c.loop-bucket.yielded ≡ c.in_ok-bucket-items.bucket-items.items = grind (arith, common_steps) in
    c.loop-bucket.invariant.1
    ∙ ap (λ ls. flat_map (λ (ns : List Named). ns) (lists_named ls)) all
    ∙ ap (flat_map (λ (ns : List Named). ns)) c.in_ok-bucket-items.ensures
    ∙ joined_buckets (all_named c.args.names.items)

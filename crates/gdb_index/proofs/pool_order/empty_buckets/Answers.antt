use Rattle.std.proofs.Common.{◌≡◌, [], ◌∷◌, ◌++◌, List, map, sym, ap, ◌∙◌, arith}
use Rattle.std.specs.List.{range_with_len}
use Rattle.std.proofs.lemmas.Grind.{common_steps}
use Rattle.std.proofs.lemmas.List.{map_push}
use Rattle.std.proofs.lemmas.List.FromFn.{map-range_with_len_more}
use Rattle.gdb_index_format.specs.Named.{Named, all_named}
use Rattle.gdb_index.specs.FromParts.{named_in_bucket}
use Rattle.gdb_index.specs.steps.Split.{lists_named}
use Rattle.gdb_index.proofs.pool_order.empty_buckets.Goals as goal

pub loop-preserved : goal.loop-preserved
loop-preserved c =
    let items : c.push.new.self.items ≡ c.loop.lists.items ++ c.new.result ∷ [] = grind (arith, common_steps) in
    let none : all_named c.new.result.items ≡ [] = grind (arith, common_steps) in
    ap lists_named items
    ∙ map_push (λ l. all_named l.items) c.loop.lists.items c.new.result
    ∙ ap (λ l. l ++ all_named c.new.result.items ∷ []) c.loop.invariant
    ∙ ap (λ (ns : List Named). map (λ b. named_in_bucket b []) (range_with_len 0 c.loop.counter) ++ ns ∷ []) none
    ∙ sym (map-range_with_len_more (λ b. named_in_bucket b []) 0 c.loop.counter c.loop.counter (omega arith))

use Rattle.std.proofs.Common.{◌≡◌, ℕ, [], ◌∷◌, ◌++◌, List, map, sym, ap, ◌∙◌, arith}
use Rattle.std.specs.List.{range_with_len}
use Rattle.std.proofs.lemmas.Grind.{common_steps}
use Rattle.std.proofs.lemmas.List.{map_push}
use Rattle.std.proofs.lemmas.List.FromFn.{map-range_with_len_more}
use Rattle.gdb_scan.specs.Buckets.{of_bucket}
use Rattle.gdb_tables.specs.steps.Distributed.{elements_shown, lists_shown}
use Rattle.gdb_tables.proofs.buckets.empty_lists.Goals as goal

pub loop-preserved : goal.loop-preserved
loop-preserved c =
    let items : c.push.new.self.items ≡ c.loop.lists.items ++ c.new.result ∷ [] = grind (arith, common_steps) in
    let none : elements_shown c.new.result.items ≡ [] = grind (arith, common_steps) in
    ap lists_shown items
    ∙ map_push (λ l. elements_shown l.items) c.loop.lists.items c.new.result
    ∙ ap (λ l. l ++ elements_shown c.new.result.items ∷ []) c.loop.invariant
    ∙ ap (λ (ps : List (List ℕ × ℕ)). map (λ b. of_bucket b []) (range_with_len 0 c.loop.counter) ++ ps ∷ []) none
    ∙ sym (map-range_with_len_more (λ b. of_bucket b []) 0 c.loop.counter c.loop.counter (omega arith))

use Rattle.std.proofs.Common.{rules, is_lt}
use Rattle.std.specs.Cmp.Lexicographic.{slice_cmp}
use Rattle.std.specs.Ordering.{nat_cmp}
use Rattle.std.proofs.lemmas.Cmp.{nat_list_cmp_total}
use Rattle.std.proofs.lemmas.List.Sorted.{answers_always, ranks_by}
use Rattle.gdb_index.proofs.name_order.sort_by_name.Goals as goal

pub returns-clause-sorted : goal.returns-clause-sorted
returns-clause-sorted g c =
    c.sort_unstable_by.ensures.sorted (λ x y. is_lt (slice_cmp nat_cmp x.name.now y.name.now))
    (ranks_by nat_list_cmp_total (λ n. n.name.now))
    (answers_always _ _ _ (λ f a r q call. search rules))

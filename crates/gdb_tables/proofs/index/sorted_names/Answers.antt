use Rattle.std.proofs.Common.{List, sym, subst, IsPermutation}
use Rattle.std.proofs.lemmas.List.Sorted.{IsPermutation-map}
use Rattle.gdb_index_format.specs.Named.{Named, named, all_named}
use Rattle.gdb_tables.specs.steps.Keyed.{keyed_named, all_keyed}
use Rattle.gdb_index.proofs.NameLists.{sorted_as}
use Rattle.gdb_tables.proofs.index.sorted_names.Goals as goal

pub returns-clause-sorted : goal.returns-clause-sorted
returns-clause-sorted c = sorted_as keyed_named named c.sort_by_name.new.names.items c.in_ok-names.names.items (sym c.in_ok-names.ensures) c.sort_by_name.ensures.sorted

pub returns-clause-same : goal.returns-clause-same
returns-clause-same c =
    subst (λ (ns : List Named). IsPermutation (all_named c.args.names.items) ns) (sym c.in_ok-names.ensures)
    (subst (λ (ns : List Named). IsPermutation ns (all_keyed c.sort_by_name.new.names.items)) c.in_ok-keyed.ensures
    (IsPermutation-map keyed_named c.in_ok-keyed.keyed.items c.sort_by_name.new.names.items c.sort_by_name.ensures.same))

use Rattle.std.proofs.Common.{List, IsPermutation, subst}
use Rattle.gdb_index_format.specs.Named.{Named, all_named}
use Rattle.gdb_tables.proofs.index.written.Goals as goal

pub returns-clause-names : goal.returns-clause-names
returns-clause-names c = subst (λ (ns : List Named). IsPermutation ns (all_named c.in_ok-names.names.items)) c.into_parts-units.ensures.names c.in_ok-names.ensures.same

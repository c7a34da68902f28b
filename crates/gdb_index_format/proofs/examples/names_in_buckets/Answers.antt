-- The definitions compute.
use Rattle.std.proofs.Common.{refl}
use Rattle.gdb_index_format.specs.Published.{bucket, pool_names}
use Rattle.gdb_index_format.proofs.examples.names_in_buckets.Goals as goal

pub returns-clause-last : goal.returns-clause-last
unfolding bucket
returns-clause-last c = refl

pub returns-clause-first : goal.returns-clause-first
unfolding bucket
returns-clause-first c = refl

pub returns-clause-order : goal.returns-clause-order
unfolding bucket pool_names
returns-clause-order c = refl

pub returns-clause-same : goal.returns-clause-same
unfolding bucket pool_names
returns-clause-same c = refl

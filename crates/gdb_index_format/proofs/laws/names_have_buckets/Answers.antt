use Rattle.gdb_index_format.proofs.Pooling.{names_have_buckets_lem}
use Rattle.gdb_index_format.proofs.laws.names_have_buckets.Goals as goal

pub returns : goal.returns
returns c = names_have_buckets_lem

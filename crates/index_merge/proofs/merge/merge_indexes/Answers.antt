use Rattle.gdb_index_format.specs.Version.{version_number}
use Rattle.index_merge.proofs.Causes.{no_cause, told, only_memory}
use Rattle.index_merge.proofs.merge.merge_indexes.Goals as goal

pub returns-in-Ok-clause-exact : goal.returns-in-Ok-clause-exact
returns-in-Ok-clause-exact c = λ e cause some. some (no_cause c.merged_sizes_are_one.ensures (version_number c.args.version) c.args.first.now c.args.second.now c.args.offset e c.in-Ok.ensures.mergeable cause)

pub returns-in-Err-clause-exact : goal.returns-in-Err-clause-exact
returns-in-Err-clause-exact c = λ e cause some. told c.merged_sizes_are_one.ensures (version_number c.args.version) c.args.first.now c.args.second.now c.args.offset c.in-Err.error e c.in-Err.ensures.cause cause some

pub returns-in-Err-clause-complete : goal.returns-in-Err-clause-complete
returns-in-Err-clause-complete c = λ can. only_memory c.merged_sizes_are_one.ensures (version_number c.args.version) c.args.first.now c.args.second.now c.args.offset c.in-Err.error can c.in-Err.ensures.cause

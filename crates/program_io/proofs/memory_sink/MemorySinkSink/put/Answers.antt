use Rattle.std.proofs.Common.{rules, ◌/◌, length}
use Rattle.program_io.proofs.memory_sink.MemorySinkSink.put.Goals as goal

pub returns-then-contains-clause-prefix : goal.returns-then-contains-clause-prefix
returns-then-contains-clause-prefix c = λ _. (length c.args.bytes.now / 2, search rules)

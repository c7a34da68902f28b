use Rattle.std.proofs.Common.{sym, arith}
use Rattle.std.proofs.Math.ListN.{drop_of_length-le}
use Rattle.std.proofs.lemmas.List.{take_all}
use Rattle.program_io.proofs.disk_files.split_run.Goals as goal

pub returns-then-bytes-lt-RUN-clause-run : goal.returns-then-bytes-lt-RUN-clause-run
returns-then-bytes-lt-RUN-clause-run c = sym (take_all 4096 c.args.bytes.now (omega (arith, c.if-bytes-lt-RUN.true)))

pub returns-then-bytes-lt-RUN-clause-after : goal.returns-then-bytes-lt-RUN-clause-after
returns-then-bytes-lt-RUN-clause-after c = sym (drop_of_length-le c.args.bytes.now {i = 4096} (omega (arith, c.if-bytes-lt-RUN.true)))

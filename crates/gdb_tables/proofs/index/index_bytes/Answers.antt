use Rattle.std.proofs.Common.{rules, ◌≡◌, length, arith}
use Rattle.std.proofs.lemmas.Grind.{common_steps}
use Rattle.gdb_tables.proofs.Indexing.{same_buffer, answers_again}
use Rattle.gdb_tables.proofs.index.index_bytes.Goals as goal

pub returns-clause-published : goal.returns-clause-published
returns-clause-published c =
    let len : c.in_ok-index.index.len ≡ length c.in_ok-index.index.items = search rules in
    let same : length c.write_gdb_index.new.buf ≡ length c.in_ok-index.index.items = grind (arith, common_steps) in
    answers_again c.args.scan.now.names c.write_gdb_index.new.buf _ (same_buffer c.in_ok-index.index.len c.write_gdb_index.new.buf c.in_ok-index.index.items len same) c.write_gdb_index.ensures.published

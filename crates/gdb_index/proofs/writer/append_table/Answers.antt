use Rattle.std.proofs.Common.{◌≡◌, ◌+◌, ◌-◌, ◌++◌, ◌∙◌, ap, length, drop, arith, rules}
use Rattle.std.proofs.lemmas.List.{length-append, length-drop}
use borrow.Rule.Slice.PartMut.{post_of}
use Rattle.gdb_index.specs.Table.{table_bytes}
use Rattle.gdb_index.proofs.SlotLists.{length-table}
use Rattle.gdb_index.proofs.Tables.{Extends-front}
use Rattle.gdb_index.proofs.Extending.{Extends-same}
use Rattle.gdb_index.proofs.writer.append_table.Goals as goal

pub returns-then-slots-gt0-clause-extends : goal.returns-then-slots-gt0-clause-extends
returns-then-slots-gt0-clause-extends c =
    let filled = c.fill_table.ensures in
    let end = c.append_zeros-end.result in
    let front = c.split_at_mut-front.result.0.now in
    let after = c.split_at_mut-front.result.1.now in
    let len : length c.fill_table.new.table ≡ end - c.args.at = ap length filled.bytes_are ∙ length-table filled.table ∙ omega (arith, filled.filled.len, c.append_zeros-end.ensures.end) in
    let none : length (post_of c.args.at (length front - c.args.at) front) ≡ 0 = omega (arith, length-drop (length front - c.args.at) (drop c.args.at front), length-drop c.args.at front) in
    let told : length c.fill_table.new.passed ≡ c.min-room.result = search rules in
    let rest : length (c.fill_table.new.passed ++ drop c.min-room.result after) + end ≡ length c.append_zeros-end.new.buf =
    omega (arith, length-append c.fill_table.new.passed (drop c.min-room.result after), length-drop c.min-room.result after, told, c.min-room.ensures, c.split_at_mut-front.ensures.back_len) in
    record {
      table = filled.table;
      filled = filled.filled;
      extends = Extends-same _ _ c.args.at c.fill_table.new.table (table_bytes filled.table) filled.bytes_are
          (Extends-front c.args.buf.now c.append_zeros-end.new.buf front (post_of c.args.at (length front - c.args.at) front) _ c.fill_table.new.table _ c.args.at end
          c.append_zeros-end.ensures.extends (omega (arith, c.append_zeros-end.ensures.end)) (omega (arith, c.requires.room, c.append_zeros-end.ensures.end, c.append_zeros-end.ensures.extends.same_len)) c.split_at_mut-front.ensures.front none len rest);
    }

use Rattle.std.proofs.Common.{◌++◌, arith}
use Rattle.std.specs.Int.{w32, w64, to_le_bytes}
use Rattle.gdb_index.proofs.Extending.{Extends-then}
use Rattle.gdb_index.proofs.writing.append_address.Goals as goal

pub returns-clause-extends : goal.returns-clause-extends
returns-clause-extends c =
    let low = to_le_bytes w64 c.args.entry.low in
    let high = to_le_bytes w64 c.args.entry.high in
    let both = Extends-then _ _ _ _ _ low high c.append_u64-middle.ensures.extends c.append_u64-middle.ensures.end c.append_u64-last.ensures.extends in
    Extends-then _ _ _ _ _ (low ++ high) (to_le_bytes w32 c.args.entry.unit) both (omega arith) c.append_u32.ensures.extends

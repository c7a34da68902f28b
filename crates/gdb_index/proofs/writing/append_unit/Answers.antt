use Rattle.std.specs.Int.{w64, to_le_bytes}
use Rattle.gdb_index.proofs.Extending.{Extends-then}
use Rattle.gdb_index.proofs.writing.append_unit.Goals as goal

pub returns-clause-extends : goal.returns-clause-extends
returns-clause-extends c = Extends-then _ _ _ _ _ (to_le_bytes w64 c.args.unit.offset) (to_le_bytes w64 c.args.unit.length) c.append_u64-middle.ensures.extends c.append_u64-middle.ensures.end c.append_u64.ensures.extends

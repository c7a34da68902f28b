use Rattle.gdb_tables.proofs.Misplacing.{placed_none}
use Rattle.gdb_tables.proofs.misplaced.placed_are_not_misplaced.Goals as goal

pub returns : goal.returns
returns c = placed_none

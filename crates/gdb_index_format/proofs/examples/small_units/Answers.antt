-- The definitions compute.
use Rattle.std.proofs.Common.{[], refl, inr, arith}
use Rattle.elf_format.specs.Bytes.{le}
use Rattle.gdb_index_format.specs.Units.{unit_length}
use Rattle.gdb_index_format.proofs.UnitLists.{front_from_tiles, list_from_tiles}
use Rattle.gdb_index_format.proofs.examples.small_units.Goals as goal

pub returns-clause-one : goal.returns-clause-one
unfolding le unit_length
returns-clause-one c = list_from_tiles _ _ (refl, refl, tt) (omega arith) (omega arith)

pub returns-clause-ignored : goal.returns-clause-ignored
unfolding le unit_length
returns-clause-ignored c = list_from_tiles _ _ (refl, refl, tt) (omega arith) (omega arith)

pub returns-clause-two : goal.returns-clause-two
unfolding le unit_length
returns-clause-two c = list_from_tiles _ _ (refl, refl, (refl, refl, tt)) (omega arith) (omega arith)

pub returns-clause-zeros : goal.returns-clause-zeros
unfolding le unit_length
returns-clause-zeros c = list_from_tiles _ _ (refl, refl, tt) (omega arith) (omega arith)

pub returns-clause-truncated : goal.returns-clause-truncated
unfolding le unit_length
returns-clause-truncated c = record { units = []; front = front_from_tiles _ _ tt (omega arith); ends = refl; room = omega arith; cause = (refl, omega arith) }

pub returns-clause-beyond : goal.returns-clause-beyond
unfolding le unit_length
returns-clause-beyond c = record { units = []; front = front_from_tiles _ _ tt (omega arith); ends = refl; room = omega arith; cause = (inr (omega arith), omega arith) }

pub returns-clause-long : goal.returns-clause-long
unfolding le unit_length
returns-clause-long c = refl

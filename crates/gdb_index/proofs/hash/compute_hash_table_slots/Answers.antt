use Rattle.gdb_index.proofs.Numbers.{IsSlotCount-from_half}
use Rattle.gdb_index.proofs.hash.compute_hash_table_slots.Goals as goal

pub returns : goal.returns
returns c = IsSlotCount-from_half _ _ c.if-count-eq0.false c.next_power_of_two.ensures.power c.next_power_of_two.ensures.lower_bound c.next_power_of_two.ensures.upper_bound

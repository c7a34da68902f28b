use Rattle.gdb_index.proofs.Numbers.{IsSlotCount-from_half}
use Rattle.gdb_index.proofs.size.slots_for.Goals as goal

pub returns-clause-counted : goal.returns-clause-counted
returns-clause-counted c = IsSlotCount-from_half _ _ c.if-names-eq0.false c.next_power_of_two.ensures.power c.next_power_of_two.ensures.lower_bound c.next_power_of_two.ensures.upper_bound

use Rattle.index_browser.specs.Fault.{slot_fault}
use Rattle.index_browser.proofs.StoredSlots.{free_passes, name_ends_nowhere, vector_tested}
use Rattle.index_browser.proofs.fault.sound_name.Goals as goal

pub returns-in_default-clause-fault : goal.returns-in_default-clause-fault
returns-in_default-clause-fault c = free_passes (slot_fault c.args.units) c.args.index.now c.args.slot c.in_default.ensures.taken

pub returns-in_default-name_from-clause-fault : goal.returns-in_default-name_from-clause-fault
returns-in_default-name_from-clause-fault c = name_ends_nowhere c.args.index.now c.args.units c.args.slot c.in-Some.taken c.in-Some.ensures.taken (c.in_default-name_from.ensures {u = tt})

pub returns-in-Some-vector_fault-clause-fault : goal.returns-in-Some-vector_fault-clause-fault
returns-in-Some-vector_fault-clause-fault c = vector_tested c.args.index.now _ c.args.units c.args.slot c.in-Some.taken _ c.in-Some.ensures.taken (c.in-Some-name_from.ensures {u = tt}) (c.in-Some-vector_fault.ensures {u = tt})

pub returns-in-None-clause-fault : goal.returns-in-None-clause-fault
returns-in-None-clause-fault c = vector_tested c.args.index.now _ c.args.units c.args.slot c.in-Some.taken _ c.in-Some.ensures.taken (c.in-Some-name_from.ensures {u = tt}) (c.in-None.ensures {u = tt})

use Rattle.gdb_index_format.specs.Probe.{slot_count}
use Rattle.index_browser.proofs.ProbeSlots.{ReachesStep}
use Rattle.index_browser.proofs.slots.ends_at.Given as goal

abbrev pub invariant-loop-step : goal.invariant-loop-step
invariant-loop-step l = ReachesStep l.index l.name (slot_count l.index) l.step

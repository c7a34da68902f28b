use Rattle.std.proofs.Common.{◌≤◌, length}
use Rattle.gdb_index_format.specs.Probe.{slot_count}
use Rattle.index_browser.specs.steps.Listing.{all_slots_named, listed_from_slot}
use Rattle.index_browser.proofs.Collecting.{CollectsFrom}
use Rattle.index_browser.proofs.names.names_by_slot.Given as goal

abbrev pub invariant-loop-slot : goal.invariant-loop-slot
invariant-loop-slot l = record {
  collects : CollectsFrom (listed_from_slot l.index l.prefix) (slot_count l.index) (all_slots_named l.names.items) l.slot;
  few : length l.names.items ≤ l.slot;
}

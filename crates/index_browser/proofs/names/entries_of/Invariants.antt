use Rattle.std.proofs.Common.{◌≡◌, ◌++◌}
use Rattle.std.specs.Vec.Iter.{into_iter_items}
use Rattle.index_browser.specs.NameList.{all_listed}
use Rattle.index_browser.specs.steps.Listing.{all_slots_named}
use Rattle.index_browser.proofs.names.entries_of.Given as goal

abbrev pub invariant-loop-named : goal.invariant-loop-named
invariant-loop-named l =
    (l.fn.names.items ≡ l.yielded ++ into_iter_items l.named-iterator) × (all_listed l.entries.items ≡ all_slots_named l.yielded)

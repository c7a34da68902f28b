use Rattle.index_browser.specs.Areas.{index_addresses, AreAddresses}
use Rattle.index_merge.specs.Merged.{moved_address}
use Rattle.index_merge.proofs.Pushing.{IsPushed}
use Rattle.index_merge.proofs.addresses.push_addresses.Given as goal

abbrev pub invariant-loop-number : goal.invariant-loop-number
invariant-loop-number l = record {
  pushed : IsPushed (moved_address l.units) (index_addresses l.index) l.initial.entries.items l.entries.items l.number;
  fit : AreAddresses l.initial.entries.items → AreAddresses l.entries.items;
}

use Rattle.std.proofs.Common.{◌≡◌, ◌+◌, ◌-◌, ◌≤◌, List, ◌++◌, length, drop}
use Rattle.gdb_index_format.specs.Named.{Named, all_named}
use Rattle.index_browser.specs.NameList.{all_listed}
use Rattle.index_merge.specs.steps.Merging.{merged_lists, AreOrdered}
use Rattle.index_merge.proofs.Taking.{HaveRoom}
use Rattle.index_merge.proofs.names.merge_names.Given as goal

abbrev pub invariant-loop-left : goal.invariant-loop-left
invariant-loop-left l = record {
  parts : (done : List Named) × (done ++ merged_lists l.units (all_listed (drop l.left l.first)) (all_listed (drop l.right l.second)) ≡ merged_lists l.units (all_listed l.first) (all_listed l.second)) × AreOrdered done (all_named l.names.items);
  room : HaveRoom l.units (all_listed (drop l.right l.second));
  first_within : l.left ≤ length l.first;
  second_within : l.right ≤ length l.second;
}

abbrev pub decreases-loop-left : goal.decreases-loop-left
decreases-loop-left l = length l.first + length l.second - (l.left + l.right)

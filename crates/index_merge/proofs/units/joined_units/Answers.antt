use Rattle.gdb_index_format.specs.Units.{index_units}
use Rattle.index_merge.specs.Merged.{moved_unit}
use Rattle.index_merge.proofs.Pushing.{all_near, both_pushed, unit_stays}
use Rattle.index_merge.proofs.units.joined_units.Goals as goal

pub push_units-requires-2 : goal.push_units-requires-2
push_units-requires-2 c = all_near c.args.offset (index_units c.args.second.now) c.requires.near

pub returns : goal.returns
returns c =
    both_pushed (moved_unit 0) (moved_unit c.args.offset) (index_units c.args.first.now) (index_units c.args.second.now) c.in_ok-units.units.items c.push_units.new.units.items c.push_units-2.new.units.items unit_stays
    c.in_ok-units.ensures.items c.in_ok-push_units.ensures c.in_ok-push_units-2.ensures

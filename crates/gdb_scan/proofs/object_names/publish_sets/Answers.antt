use Rattle.gdb_scan.specs.Marks.{all_marked}
use Rattle.gdb_scan.proofs.Marking.{set_step}
use Rattle.gdb_scan.proofs.object_names.publish_sets.Goals as goal

pub loop-set-preserved : goal.loop-set-preserved
loop-set-preserved c = record {
  left = set_step c.args.units.now c.args.sets.now c.loop-set.set-index c.set-item.result (all_marked c.loop-set.names.items) (all_marked c.publish_set.new.names.items) _ c.loop-set-test.true c.set-item.is c.in_ok-publish_set.ensures.published c.loop-set.invariant.left;
}

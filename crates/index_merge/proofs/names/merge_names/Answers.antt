use Rattle.std.proofs.Common.{ap, ◌∙◌, arith}
use Rattle.std.proofs.lemmas.List.{map_push}
use Rattle.gdb_index_format.specs.Named.{named, all_named}
use Rattle.index_browser.specs.NameList.{all_listed}
use Rattle.index_merge.specs.steps.Merging.{merged_lists}
use Rattle.index_merge.proofs.Merging.{taken_of_slices, merged_more, room_more, slice_is, slice_len}
use Rattle.index_merge.proofs.names.merge_names.Goals as goal

pub loop-left-preserved : goal.loop-left-preserved
loop-left-preserved c =
    let u = c.args.units in
    let xs = c.args.first.now in
    let ys = c.args.second.now in
    let i = c.loop-left.left in
    let j = c.loop-left.right in
    let t = c.in_ok-taken.taken in
    let inv = c.loop-left.invariant in
    let at = taken_of_slices u xs ys i j _ _ (named t.named) t.from_first t.from_second (slice_is xs i) (slice_is ys j) (c.in_ok-taken.ensures.taken) in
    let within = c.in_ok-taken.ensures.within in
    record {
      parts = merged_more u xs ys i j (merged_lists u (all_listed xs) (all_listed ys)) (all_named c.loop-left.names.items) (all_named c.push.new.self.items) (named t.named) t.from_first t.from_second at
          (ap all_named (c.in_ok-push.ensures.items) ∙ map_push named c.loop-left.names.items t.named) inv.parts;
      room = room_more u xs ys i j (named t.named) t.from_first t.from_second at inv.room;
      first_within = omega (arith, within.0, slice_len xs i, inv.first_within);
      second_within = omega (arith, within.1, slice_len ys j, inv.second_within);
    }

use Rattle.std.proofs.Common.{◌≡◌, ◌-◌, length, map}
use Rattle.std.specs.List.{range_with_len}
use Rattle.sframe_format.specs.Contribution.{row_offset, fres_start, next_above}
use Rattle.sframe_order.specs.Reader.{contribution_view}
use Rattle.sframe_order.proofs.contribution.Contribution.next_row_offset.Given as goal

abbrev pub invariant-loop-other : goal.invariant-loop-other
invariant-loop-other l = l.next ≡ next_above (map (row_offset (contribution_view l.self)) (range_with_len 0 l.other)) (length l.self.bytes.now - fres_start (contribution_view l.self)) (row_offset (contribution_view l.self) l.d)

use Rattle.std.proofs.Common.{◌≡◌, ◌*◌, ◌^◌, ◌≤◌, map}
use Rattle.std.specs.List.{range_with_len}
use Rattle.sframe_format.specs.Contribution.{function_at}
use Rattle.sframe_format.specs.Merged.{fres_len}
use Rattle.sframe_order.specs.Reader.{contribution_view}
use Rattle.sframe_order.proofs.room.fres_len_of.Given as goal

abbrev pub invariant-loop-d : goal.invariant-loop-d
invariant-loop-d l = (l.len ≡ fres_len (map (function_at (contribution_view l.contribution)) (range_with_len 0 l.d))) × (l.len ≤ 2 ^ 32 * l.d)

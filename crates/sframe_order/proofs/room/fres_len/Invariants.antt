use Rattle.std.proofs.Common.{◌≡◌, ◌*◌, ◌^◌, ◌≤◌, take}
use Rattle.std.specs.List.{sum_by}
use Rattle.sframe_format.specs.Contribution as format
use Rattle.sframe_format.specs.Contribution.{functions_of}
use Rattle.sframe_format.specs.Merged.{fres_len}
use Rattle.sframe_order.specs.steps.View.{contributions_view}
use Rattle.sframe_order.proofs.room.fres_len.Given as goal

abbrev pub invariant-loop-contribution : goal.invariant-loop-contribution
invariant-loop-contribution l = (l.len ≡ sum_by (λ (c : format.Contribution). fres_len (functions_of c)) (contributions_view (take l.contribution-index l.contributions))) × (l.len ≤ 2 ^ 64 * l.contribution-index)

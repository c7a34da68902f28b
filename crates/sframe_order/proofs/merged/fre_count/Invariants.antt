use Rattle.std.proofs.Common.{◌≡◌, ◌*◌, ◌^◌, ◌≤◌, take}
use Rattle.sframe_format.specs.Merged.{fre_count}
use Rattle.sframe_order.specs.steps.View.{contributions_view}
use Rattle.sframe_order.proofs.merged.fre_count.Given as goal

abbrev pub invariant-loop-contribution : goal.invariant-loop-contribution
invariant-loop-contribution l = (l.count ≡ fre_count (contributions_view (take l.contribution-index l.contributions))) × (l.count ≤ 2 ^ 32 * l.contribution-index)

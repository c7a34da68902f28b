use Rattle.std.proofs.Common.{◌≡◌, ◌*◌, ◌^◌, ◌≤◌, take}
use Rattle.sframe_format.specs.Merged.{fres_len}
use Rattle.sframe_order.specs.steps.View.{views}
use Rattle.sframe_order.proofs.merged.fres_len.Given as goal

abbrev pub invariant-loop-function : goal.invariant-loop-function
invariant-loop-function l = (l.len ≡ fres_len (views (take l.function-index l.functions))) × (l.len ≤ 2 ^ 63 * l.function-index)

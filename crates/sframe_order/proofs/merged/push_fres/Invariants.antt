use Rattle.std.proofs.Common.{◌≡◌, ◌+◌, ◌++◌, take, vec_len}
use Rattle.std.specs.List.{flat_map}
use Rattle.sframe_format.specs.Merged.{fres_len}
use Rattle.sframe_order.specs.steps.View.{views}
use Rattle.sframe_order.proofs.merged.push_fres.Given as goal

abbrev pub invariant-loop-function : goal.invariant-loop-function
invariant-loop-function l = (l.bytes.items ≡ l.fn.bytes.items ++ flat_map (λ g. g.fres) (views (take l.function-index l.functions))) × (vec_len l.bytes ≡ vec_len l.fn.bytes + fres_len (views (take l.function-index l.functions)))

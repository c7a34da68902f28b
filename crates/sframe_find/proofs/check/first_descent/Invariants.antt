use Rattle.std.proofs.Common.{ℕ, ◌+◌, ◌<◌, ◌≤ℤ◌, get_or}
use Rattle.sframe_format.specs.Contribution.{Function, functions_of}
use Rattle.sframe_order.specs.Reader.{contribution_view}
use Rattle.sframe_find.specs.Frames.{function_address}
use Rattle.sframe_find.proofs.check.first_descent.Given as goal

abbrev pub invariant-loop-d : goal.invariant-loop-d
invariant-loop-d l = (j : ℕ) (f : Function) → j + 1 < l.d → function_address l.base (get_or (functions_of (contribution_view l.contribution)) j f) ≤ℤ function_address l.base (get_or (functions_of (contribution_view l.contribution)) (j + 1) f)

use Rattle.std.proofs.Common.{rules, arith}
use Rattle.std.specs.Int.{w128}
use Rattle.std.proofs.lemmas.Int.{to_z-of_z}
use Rattle.sframe_format.specs.Contribution.{functions_of}
use Rattle.sframe_order.specs.Reader.{contribution_view}
use Rattle.sframe_find.proofs.Functions.{function_count}
use Rattle.sframe_find.proofs.Compared.{less_true, less_false}
use Rattle.sframe_find.proofs.Descending.{first_at, up_more}
use Rattle.sframe_find.proofs.check.first_descent.Goals as goal

pub address-requires-clause-exists : goal.address-requires-clause-exists
address-requires-clause-exists c = omega (arith, function_count (contribution_view c.args.contribution.now), c.num_fdes-d-end.ensures)

pub address-requires-in-loop-d-clause-exists : goal.address-requires-in-loop-d-clause-exists
address-requires-in-loop-d-clause-exists c = omega (arith, function_count (contribution_view c.args.contribution.now), c.num_fdes-d-end.ensures)

pub loop-d-preserved : goal.loop-d-preserved
loop-d-preserved c =
    up_more c.args.base (functions_of (contribution_view c.args.contribution.now)) c.loop-d.d c.address.result c.address-in-loop-d.result c.loop-d.auto.d c.address.ensures c.address-in-loop-d.ensures (less_false _ _ _ _ (to_z-of_z w128 c.address.result (search rules)) (to_z-of_z w128 c.address-in-loop-d.result (search rules)) c.if-address.false) c.loop-d.invariant

pub returns-then-address : goal.returns-then-address
returns-then-address c =
    first_at c.args.base (functions_of (contribution_view c.args.contribution.now)) c.loop-d.d c.address.result c.address-in-loop-d.result c.loop-d.auto.d (omega (arith, function_count (contribution_view c.args.contribution.now), c.num_fdes-d-end.ensures)) c.address.ensures c.address-in-loop-d.ensures (less_true _ _ _ _ (to_z-of_z w128 c.address.result (search rules)) (to_z-of_z w128 c.address-in-loop-d.result (search rules)) c.if-address.true) c.loop-d.invariant

pub returns : goal.returns
returns c = λ j d below. c.loop-d.invariant j d (omega (arith, function_count (contribution_view c.args.contribution.now), c.num_fdes-d-end.ensures))

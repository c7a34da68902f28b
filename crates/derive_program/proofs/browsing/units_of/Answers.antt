use Rattle.std.proofs.Common.{arith}
use Rattle.gdb_index_format.specs.Units.{index_units}
use Rattle.derive_program.proofs.Gathering.{gathered_more, gathered_all}
use Rattle.derive_program.proofs.browsing.units_of.Goals as goal

pub units-preserved : goal.units-preserved
units-preserved c =
    gathered_more (index_units c.args.index.now) c.units.units.items c.push.new.self.items c.in-Some.unit c.len.result (omega (arith, c.len.ensures, c.units.units.ok)) (c.in-Some.ensures {u = tt}) c.in_ok-push.ensures.items c.units.invariant

pub returns : goal.returns
returns c = gathered_all (index_units c.args.index.now) c.units.units.items c.len.result (omega (arith, c.len.ensures, c.units.units.ok)) (c.in_default.ensures {u = tt}) c.units.invariant

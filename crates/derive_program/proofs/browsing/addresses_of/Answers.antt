use Rattle.std.proofs.Common.{arith}
use Rattle.index_browser.specs.Areas.{index_addresses}
use Rattle.derive_program.proofs.Gathering.{gathered_more, gathered_all}
use Rattle.derive_program.proofs.browsing.addresses_of.Goals as goal

pub addresses-preserved : goal.addresses-preserved
addresses-preserved c =
    gathered_more (index_addresses c.args.index.now) c.addresses.addresses.items c.push.new.self.items c.in-Some.entry c.len.result (omega (arith, c.len.ensures, c.addresses.addresses.ok)) (c.in-Some.ensures {u = tt}) c.in_ok-push.ensures.items c.addresses.invariant

pub returns : goal.returns
returns c = gathered_all (index_addresses c.args.index.now) c.addresses.addresses.items c.len.result (omega (arith, c.len.ensures, c.addresses.addresses.ok)) (c.in_default.ensures {u = tt}) c.addresses.invariant

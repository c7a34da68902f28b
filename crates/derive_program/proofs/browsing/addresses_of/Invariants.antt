use Rattle.std.proofs.Common.{◌≡◌, ◌-◌, length, take}
use Rattle.index_browser.specs.Areas.{index_addresses}
use Rattle.derive_program.proofs.browsing.addresses_of.Given as goal

abbrev pub invariant-addresses : goal.invariant-addresses
invariant-addresses l = l.addresses.items ≡ take (length l.addresses.items) (index_addresses l.index)

abbrev pub decreases-addresses : goal.decreases-addresses
decreases-addresses l = length (index_addresses l.index) - length l.addresses.items

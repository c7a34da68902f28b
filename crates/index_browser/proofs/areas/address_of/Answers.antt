use Rattle.std.proofs.Common.{arith, Some, ap, ◌∙◌}
use Rattle.gdb_index_format.specs.declared.placement.AddressEntry.{AddressEntry}
use Rattle.index_browser.proofs.AreaLists.{address_within, address_is}
use Rattle.index_browser.proofs.areas.address_of.Goals as goal

pub overflow_mul-at : goal.overflow_mul-at
overflow_mul-at c = omega (arith, address_within c.args.index.now c.args.areas.now c.args.number c.requires.format c.requires.areas (omega (arith, c.count_addresses.ensures)), c.requires.areas.within, c.requires.areas.low)

pub overflow_add-at : goal.overflow_add-at
overflow_add-at c = omega (arith, address_within c.args.index.now c.args.areas.now c.args.number c.requires.format c.requires.areas (omega (arith, c.count_addresses.ensures)), c.requires.areas.within, c.requires.areas.low)

pub read_address-requires : goal.read_address-requires
read_address-requires c = omega (arith, address_within c.args.index.now c.args.areas.now c.args.number c.requires.format c.requires.areas (omega (arith, c.count_addresses.ensures)), c.requires.areas.within, c.requires.areas.low)

pub returns : goal.returns
returns c = ap (λ (x : AddressEntry). Some x) c.read_address.ensures ∙ address_is c.args.index.now c.args.areas.now c.args.number c.requires.format c.requires.areas (omega (arith, c.count_addresses.ensures))

-- The shortest header has room for each of these numbers.
use Rattle.std.proofs.Common.{arith}
use Rattle.elf_format.specs.Bytes.{u32_at}
use Rattle.index_browser.proofs.Headers.{header_len-least, areas_read}
use Rattle.index_browser.proofs.areas.areas_of.Goals as goal

pub read_u32-units-requires : goal.read_u32-units-requires
read_u32-units-requires c = omega (arith, header_len-least (u32_at c.args.index.now 0), c.requires.long)

pub read_u32-types-requires : goal.read_u32-types-requires
read_u32-types-requires c = omega (arith, header_len-least (u32_at c.args.index.now 0), c.requires.long)

pub read_u32-addresses-requires : goal.read_u32-addresses-requires
read_u32-addresses-requires c = omega (arith, header_len-least (u32_at c.args.index.now 0), c.requires.long)

pub read_u32-end-requires : goal.read_u32-end-requires
read_u32-end-requires c = omega (arith, header_len-least (u32_at c.args.index.now 0), c.requires.long)

pub returns : goal.returns
returns c =
    areas_read c.args.index.now c.read_u32-units.result c.read_u32-types.result c.read_u32-addresses.result c.read_u32-end.result c.requires.format
    c.read_u32-units.ensures c.read_u32-types.ensures c.read_u32-addresses.ensures c.read_u32-end.ensures c.read_u32-end.type_inv

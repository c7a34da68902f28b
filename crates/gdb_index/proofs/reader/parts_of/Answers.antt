-- The shortest header has room for each of these numbers.
use Rattle.std.proofs.Common.{arith}
use Rattle.elf_format.specs.Bytes.{u32_at}
use Rattle.gdb_index.proofs.Versions.{header_len-least}
use Rattle.gdb_index.proofs.reader.parts_of.Goals as goal

pub read_u32-version-requires : goal.read_u32-version-requires
read_u32-version-requires c = omega (arith, header_len-least (u32_at c.args.index.now 0), c.requires)

pub read_u32-units-requires : goal.read_u32-units-requires
read_u32-units-requires c = omega (arith, header_len-least (u32_at c.args.index.now 0), c.requires)

pub read_u32-types-requires : goal.read_u32-types-requires
read_u32-types-requires c = omega (arith, header_len-least (u32_at c.args.index.now 0), c.requires)

pub read_u32-addresses-requires : goal.read_u32-addresses-requires
read_u32-addresses-requires c = omega (arith, header_len-least (u32_at c.args.index.now 0), c.requires)

pub read_u32-table-requires : goal.read_u32-table-requires
read_u32-table-requires c = omega (arith, header_len-least (u32_at c.args.index.now 0), c.requires)

pub read_u32-shortcuts-requires : goal.read_u32-shortcuts-requires
read_u32-shortcuts-requires c = omega (arith, header_len-least (u32_at c.args.index.now 0), c.requires)

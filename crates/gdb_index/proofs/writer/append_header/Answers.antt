use Rattle.std.proofs.Common.{◌+◌, ◌*◌, arith}
use Rattle.gdb_index.proofs.Headers.{header_written}
use Rattle.gdb_index.proofs.Versions.{header_len_is}
use Rattle.gdb_index.proofs.writer.append_header.Goals as goal

pub append_shortcut_field-at-requires : goal.append_shortcut_field-at-requires
append_shortcut_field-at-requires c = record {
  room = omega (arith, c.requires.room, c.header_len-header.ensures.is, header_len_is c.args.version (c.header_len-header.result + 16 * c.args.units + 20 * c.args.addresses + 8 * c.args.slots), c.append_u32s-at.ensures.end, c.append_u32s-at.ensures.extends.same_len);
}

pub append_u32s-requires : goal.append_u32s-requires
append_u32s-requires c =
    omega (arith, c.requires.room, c.header_len-header.ensures.is, header_len_is c.args.version (c.header_len-header.result + 16 * c.args.units + 20 * c.args.addresses + 8 * c.args.slots), c.append_u32s-at.ensures.end, c.append_u32s-at.ensures.extends.same_len, c.append_shortcut_field-at.ensures.end, c.append_shortcut_field-at.ensures.extends.same_len)

pub returns-clause-extends : goal.returns-clause-extends
returns-clause-extends c =
    header_written c.args.version c.header_len-header.result c.shortcut_len.result c.args.units c.args.addresses c.args.slots _ _ _ _ c.append_u32s-at.result c.append_shortcut_field-at.result c.header_len-header.ensures.is c.shortcut_len.ensures
    c.append_u32s-at.ensures.extends (omega (arith, c.append_u32s-at.ensures.end)) c.append_shortcut_field-at.ensures.extends c.append_shortcut_field-at.ensures.end c.append_u32s.ensures.extends

pub returns-clause-end : goal.returns-clause-end
returns-clause-end c =
    omega (arith, header_len_is c.args.version (c.header_len-header.result + 16 * c.args.units + 20 * c.args.addresses + 8 * c.args.slots), c.append_u32s-at.ensures.end, c.append_shortcut_field-at.ensures.end, c.append_u32s.ensures.end)

use Rattle.std.proofs.Common.{◌≡◌, ◌+◌, ◌<◌, length, take, get_or, ap, arith}
use Rattle.std.proofs.lemmas.List.{length-map, take_all}
use Rattle.gdb_index_format.specs.Named.{named as named_of, all_named}
use Rattle.gdb_index.specs.Pool.{names_len}
use Rattle.gdb_index.specs.Layout.{name_bytes}
use Rattle.gdb_index.proofs.Filling.{item_is}
use Rattle.gdb_index.proofs.Lengths.{length-names}
use Rattle.gdb_index.proofs.Extending.{Extends-item, names_len-more}
use Rattle.gdb_index.proofs.writing.append_names.Goals as goal

pub append_name-offset-requires : goal.append_name-offset-requires
append_name-offset-requires c =
    let ns = all_named c.args.names.now in
    let item = named_of c.named-item.result in
    let is : item ≡ get_or ns c.loop-named.named-index item = item_is c.args.names.now c.loop-named.named-index c.named-item.result (omega arith) c.named-item.is in
    let less : c.loop-named.named-index < length ns = omega (arith, length-map c.args.names.now named_of) in
    let more = names_len-more ns c.loop-named.named-index item item less is in
    omega (arith, more.0, more.1, c.loop-named.invariant.offset_is)

pub loop-named-preserved : goal.loop-named-preserved
loop-named-preserved c =
    let ns = all_named c.args.names.now in
    let i = c.loop-named.named-index in
    let item = named_of c.named-item.result in
    let is : item ≡ get_or ns i item = item_is c.args.names.now i c.named-item.result (omega arith) c.named-item.is in
    let less : i < length ns = omega (arith, length-map c.args.names.now named_of) in
    let more = names_len-more ns i item item less is in
    record {
      extends = Extends-item name_bytes _ _ _ _ c.loop-named.offset ns i item item less is c.loop-named.invariant.extends c.loop-named.invariant.end c.append_name-offset.ensures.extends;
      end = omega (arith, more.0, c.loop-named.invariant.offset_is, c.append_name-offset.ensures.end, length-names (take (i + 1) ns));
      offset_is = omega (arith, more.0, c.loop-named.invariant.offset_is, c.append_name-offset.ensures.end);
    }

pub returns-clause-end : goal.returns-clause-end
returns-clause-end c = omega (arith, c.loop-named.invariant.offset_is, ap names_len (take_all c.loop-named.named-index (all_named c.args.names.now) (omega (arith, length-map c.args.names.now named_of))))

use Rattle.std.proofs.Common.{◌≡◌, ◌+◌, ◌<◌, length, take, get_or, ap, arith}
use Rattle.std.proofs.lemmas.List.{length-map, take_all}
use Rattle.gdb_index_format.specs.Named.{named as named_of, all_named}
use Rattle.gdb_index.specs.Pool.{vectors_len}
use Rattle.gdb_index.specs.Layout.{vector_bytes}
use Rattle.gdb_index.proofs.Filling.{item_is}
use Rattle.gdb_index.proofs.Lengths.{length-vectors}
use Rattle.gdb_index.proofs.Extending.{Extends-item, vectors_len-more}
use Rattle.gdb_index.proofs.writing.append_vectors.Goals as goal

pub append_vector-offset-requires-clause-room : goal.append_vector-offset-requires-clause-room
append_vector-offset-requires-clause-room c =
    let ns = all_named c.args.names.now in
    let item = named_of c.named-item.result in
    let is : item ≡ get_or ns c.loop-named.named-index item = item_is c.args.names.now c.loop-named.named-index c.named-item.result (omega arith) c.named-item.is in
    let less : c.loop-named.named-index < length ns = omega (arith, length-map c.args.names.now named_of) in
    let more = vectors_len-more ns c.loop-named.named-index item item less is in
    omega (arith, more.0, more.1, c.loop-named.invariant.offset_is)

pub loop-named-preserved : goal.loop-named-preserved
loop-named-preserved c =
    let ns = all_named c.args.names.now in
    let i = c.loop-named.named-index in
    let item = named_of c.named-item.result in
    let is : item ≡ get_or ns i item = item_is c.args.names.now i c.named-item.result (omega arith) c.named-item.is in
    let less : i < length ns = omega (arith, length-map c.args.names.now named_of) in
    let more = vectors_len-more ns i item item less is in
    record {
      extends = Extends-item vector_bytes _ _ _ _ c.loop-named.offset ns i item item less is c.loop-named.invariant.extends c.loop-named.invariant.end c.append_vector-offset.ensures.extends;
      end = omega (arith, more.0, c.loop-named.invariant.offset_is, c.append_vector-offset.ensures.end, length-vectors (take (i + 1) ns));
      offset_is = omega (arith, more.0, c.loop-named.invariant.offset_is, c.append_vector-offset.ensures.end);
    }

pub returns-clause-end : goal.returns-clause-end
returns-clause-end c = omega (arith, c.loop-named.invariant.offset_is, ap vectors_len (take_all c.loop-named.named-index (all_named c.args.names.now) (omega (arith, length-map c.args.names.now named_of))))

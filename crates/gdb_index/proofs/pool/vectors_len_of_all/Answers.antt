use Rattle.std.proofs.Common.{◌≡◌, get_or, arith}
use Rattle.std.proofs.lemmas.List.{length-map}
use Rattle.gdb_index_format.specs.Named.{named as named_of, all_named}
use Rattle.gdb_index.proofs.Filling.{item_is}
use Rattle.gdb_index.proofs.Extending.{vectors_len-more}
use Rattle.gdb_index.proofs.pool.vectors_len_of_all.Goals as goal

pub vector_len-total-requires : goal.vector_len-total-requires
vector_len-total-requires c =
    let ns = all_named c.args.names.now in
    let i = c.loop-named.named-index in
    let item = named_of c.named-item.result in
    let is : item ≡ get_or ns i item = item_is c.args.names.now i c.named-item.result c.loop-named-test.true c.named-item.is in
    let more = vectors_len-more ns i item item (omega (arith, length-map c.args.names.now named_of)) is in
    omega (arith, more.0, more.1, c.loop-named.invariant)

pub overflow_add-total : goal.overflow_add-total
overflow_add-total c =
    let ns = all_named c.args.names.now in
    let i = c.loop-named.named-index in
    let item = named_of c.named-item.result in
    let is : item ≡ get_or ns i item = item_is c.args.names.now i c.named-item.result c.loop-named-test.true c.named-item.is in
    let more = vectors_len-more ns i item item (omega (arith, length-map c.args.names.now named_of)) is in
    omega (arith, more.0, more.1, c.loop-named.invariant, c.vector_len-total.ensures)

pub loop-named-preserved : goal.loop-named-preserved
loop-named-preserved c =
    let ns = all_named c.args.names.now in
    let i = c.loop-named.named-index in
    let item = named_of c.named-item.result in
    let is : item ≡ get_or ns i item = item_is c.args.names.now i c.named-item.result c.loop-named-test.true c.named-item.is in
    let more = vectors_len-more ns i item item (omega (arith, length-map c.args.names.now named_of)) is in
    omega (arith, more.0, c.loop-named.invariant, c.vector_len-total.ensures)

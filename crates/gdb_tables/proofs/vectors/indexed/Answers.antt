use Rattle.std.proofs.Common.{refl}
use Rattle.gdb_tables.specs.declared.element.IndexedElement.{IndexedElement}
use Rattle.gdb_tables.proofs.Vectoring.{indexing_more}
use Rattle.gdb_tables.proofs.vectors.indexed.Goals as goal

pub loop-named-preserved : goal.loop-named-preserved
loop-named-preserved c =
    let x : IndexedElement = record { index = c.in_ok-index.index; element = c.named-item.result.element } in
    let stored = c.in_ok-index.ensures.stored in
    indexing_more c.args.elements.now c.loop-named.named-index c.named-item.result c.loop-named.names.keys c.insert_full.new.self.keys _ stored.0 c.loop-named.indexes.items c.push.new.self.items x
    c.loop-named-test.true c.named-item.is c.loop-named.invariant c.in_ok-index.ensures.keys refl stored.1 stored.2 c.in_ok-push.ensures.items refl

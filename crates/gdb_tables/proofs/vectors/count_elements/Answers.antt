use Rattle.std.proofs.Common.{◌+◌, ◌<◌, ◌≤◌, ◌∙◌, length, get_or, set, take, ap, arith, rules}
use Rattle.std.proofs.lemmas.List.{length-take, get_or_default}
use Rattle.gdb_tables.specs.declared.element.IndexedElement.{IndexedElement}
use Rattle.gdb_tables.proofs.Vectoring.{counts_long, count_small, counted_none, counted_more}
use Rattle.gdb_tables.proofs.vectors.count_elements.Goals as goal

pub loop-element-init : goal.loop-element-init
loop-element-init c = record { counted = c.in_ok-counts.ensures.items_if_clones_equal (λ y same. same) ∙ counted_none c.args.names }

pub index_mut-requires : goal.index_mut-requires
index_mut-requires c =
    let es = c.args.elements.now in
    let k = c.loop-element.element-index in
    let none : IndexedElement = record { index = 0; element = 0 } in
    omega (arith, c.requires k none c.loop-element-test.true, ap length c.loop-element.invariant.counted, counts_long c.args.names (take k es))

pub overflow_add-index_mut : goal.overflow_add-index_mut
overflow_add-index_mut c =
    let es = c.args.elements.now in
    let k = c.loop-element.element-index in
    let cs = c.loop-element.counts.items in
    let none : IndexedElement = record { index = 0; element = 0 } in
    let e : IndexedElement = get_or es k none in
    let below : e.index < c.args.names = c.requires k none c.loop-element-test.true in
    let less : e.index < length cs = omega (arith, below, ap length c.loop-element.invariant.counted, counts_long c.args.names (take k es)) in
    let small : c.index_mut.result.now ≤ k = omega (arith, c.index_mut.ensures.value, get_or_default cs e.index c.index_mut.result.now 0 less, ap (λ xs. get_or xs e.index 0) c.loop-element.invariant.counted, count_small c.args.names (take k es) e.index below, length-take k es) in
    let room : k < length es = c.loop-element-test.true in
    search rules

pub loop-element-preserved : goal.loop-element-preserved
loop-element-preserved c =
    let es = c.args.elements.now in
    let k = c.loop-element.element-index in
    let cs = c.loop-element.counts.items in
    let none : IndexedElement = record { index = 0; element = 0 } in
    let e : IndexedElement = get_or es k none in
    let below : e.index < c.args.names = c.requires k none c.loop-element-test.true in
    let less : e.index < length cs = omega (arith, below, ap length c.loop-element.invariant.counted, counts_long c.args.names (take k es)) in
    record {
      counted = ap (λ n. set cs e.index (n + 1)) (c.index_mut.ensures.value ∙ get_or_default cs e.index _ 0 less)
          ∙ counted_more c.args.names es k e cs c.loop-element-test.true (get_or_default es k none e c.loop-element-test.true) below c.loop-element.invariant.counted;
    }

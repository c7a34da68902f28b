use Rattle.std.proofs.Common.{◌+◌, ◌<◌, ◌∙◌, length, get_or, drop, sym, ap, refl, arith}
use Rattle.std.proofs.lemmas.List.{length-set, drop_more}
use Rattle.gdb_index_format.specs.declared.name_words.NameWords.{NameWords}
use Rattle.gdb_index_format.specs.Named.{all_named}
use Rattle.gdb_tables.specs.declared.element.IndexedElement.{IndexedElement}
use Rattle.gdb_tables.specs.steps.Vectors.{with_elements}
use Rattle.gdb_tables.proofs.Vectoring.{filled_step}
use Rattle.gdb_tables.proofs.vectors.fill.Goals as goal

pub loop-element-preserved : goal.loop-element-preserved
loop-element-preserved c =
    let es = c.args.elements.now in
    let vs = c.loop-element.names.items in
    let k = c.loop-element.element-index in
    let none : IndexedElement = record { index = 0; element = 0 } in
    let e : IndexedElement = get_or es k none in
    let old = c.index_mut.result.now in
    let new : NameWords = record { name = old.name; words = c.push.new.self } in
    let inv = c.loop-element.invariant in
    let less : e.index < length vs = omega (arith, c.requires k none c.loop-element-test.true, inv.long) in
    record {
      left = ap (λ ns. with_elements ns (drop (k + 1) es)) (filled_step vs e.index old new e.element less c.index_mut.ensures.value refl c.in_ok-push.ensures.items)
          ∙ sym (ap (with_elements (all_named vs)) (drop_more es k none c.loop-element-test.true))
          ∙ inv.left;
      long = length-set vs e.index new ∙ inv.long;
    }

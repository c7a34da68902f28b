use Rattle.std.proofs.Common.{◌<◌, ◌∙◌, length, refl, arith}
use Rattle.std.proofs.lemmas.List.{length-set}
use Rattle.gdb_tables.proofs.Distributing.{publication_step}
use Rattle.gdb_tables.proofs.buckets.add_publications.Goals as goal

pub loop-publication-preserved : goal.loop-publication-preserved
loop-publication-preserved c =
    let lists = c.loop-publication.lists.items in
    let inv = c.loop-publication.invariant in
    let at = c.bucket_of.result in
    let less : at < length lists = omega (arith, c.bucket_of.ensures.below, inv.buckets) in
    record {
      left = publication_step c.args.first c.args.publications.now c.loop-publication.publication-index c.publication-item.result lists _ at c.index_mut.result.now c.push.new.self c.element_of-element.result _
          c.loop-publication-test.true c.publication-item.is c.bucket_of.ensures.is less c.index_mut.ensures.value (c.in_ok-push.ensures {u = tt}).items refl c.element_of-element.ensures inv.left;
      buckets = length-set lists at c.push.new.self ∙ inv.buckets;
    }

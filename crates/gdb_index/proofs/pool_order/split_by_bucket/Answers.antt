use Rattle.std.proofs.Common.{◌≡◌, ◌<◌, [], ◌∷◌, ◌++◌, List, length, set, get_or, sym, ap, ◌∙◌, append_assoc, arith}
use Rattle.std.specs.Vec.Iter.{into_iter_items}
use Rattle.std.proofs.lemmas.List.{map_push, map-set, length-map, get_or-map}
use Rattle.gdb_index_format.specs.Named.{Named, all_named, named as named_of}
use Rattle.gdb_index.specs.FromParts.{named_in_bucket}
use Rattle.gdb_index.specs.steps.Split.{split_by_bucket as split_of}
use Rattle.gdb_index.proofs.PoolOrders.{split_len, split_here, split_more}
use Rattle.gdb_index.proofs.pool_order.split_by_bucket.Goals as goal

pub index_mut-requires : goal.index_mut-requires
index_mut-requires c =
    let lists = c.loop-named.lists.items in
    omega (arith, c.bucket_of.ensures.below, ap length c.loop-named.invariant.1, split_len (all_named c.loop-named.yielded), length-map lists (λ l. all_named l.items))

pub loop-named-preserved : goal.loop-named-preserved
loop-named-preserved c =
    let done = all_named c.loop-named.yielded in
    let lists = c.loop-named.lists.items in
    let n = c.in-Some.named in
    let at = c.bucket_of.result in
    let old = c.index_mut.result.now in
    let inv = c.loop-named.invariant in
    let taken : into_iter_items c.loop-named.named-iterator ≡ n ∷ into_iter_items c.next.new.self = c.in-Some.ensures.steps.0 in
    let less : at < length lists = omega (arith, c.bucket_of.ensures.below, ap length inv.1, split_len done, length-map lists (λ l. all_named l.items)) in
    let before : all_named old.items ≡ named_in_bucket at done =
    ap (λ l. all_named l.items) c.index_mut.ensures.value
    ∙ sym (get_or-map (λ l. all_named l.items) lists at old [] less)
    ∙ ap (λ l. get_or l at []) inv.1
    ∙ split_here done at c.bucket_of.ensures.below in
    let now : all_named c.push.new.self.items ≡ named_in_bucket at done ++ named_of n ∷ [] =
    ap all_named (c.in_ok-push.ensures {u = tt}).items ∙ map_push named_of old.items n ∙ ap (λ l. l ++ named_of n ∷ []) before in (
      inv.0 ∙ ap (λ l. c.loop-named.yielded ++ l) taken ∙ sym (append_assoc c.loop-named.yielded (n ∷ []) (into_iter_items c.next.new.self)),
      map-set (λ l. all_named l.items) lists at c.push.new.self
          ∙ ap (λ (ls : List (List Named)). set ls at (all_named c.push.new.self.items)) inv.1
          ∙ ap (λ (ns : List Named). set (split_of done) at ns) now
          ∙ split_more done (named_of n) at (sym c.bucket_of.ensures.is) c.bucket_of.ensures.below
          ∙ ap split_of (sym (map_push named_of c.loop-named.yielded n)),
    )

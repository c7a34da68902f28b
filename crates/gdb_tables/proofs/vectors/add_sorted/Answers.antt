use Rattle.std.proofs.Common.{◌≡◌, ◌++◌, ◌∷◌, [], sym, ap, subst, ◌∙◌, append_assoc, arith}
use Rattle.std.specs.Vec.Iter.{into_iter_items}
use Rattle.std.proofs.lemmas.List.{map_push}
use Rattle.std.proofs.lemmas.Grind.{common_steps}
use Rattle.gdb_index_format.specs.Named.{all_named, named as named_of}
use Rattle.gdb_tables.specs.steps.Vectors.{as_groups, AddsSorted}
use Rattle.gdb_tables.proofs.Vectoring.{adds_push}
use Rattle.gdb_tables.proofs.vectors.add_sorted.Goals as goal

pub loop-named-preserved : goal.loop-named-preserved
loop-named-preserved c =
    let n = c.in-Some.named in
    let s = c.in_ok-sorted.sorted in
    let inv = c.loop-named.invariant in
    let done = c.loop-named.yielded in
    let taken : into_iter_items c.loop-named.named-iterator ≡ n ∷ into_iter_items c.next.new.self = c.in-Some.ensures.steps.0 in
    let items : c.push.new.self.items ≡ c.loop-named.list.items ++ s ∷ [] = grind (arith, common_steps) in
    record {
      taken = inv.taken ∙ ap (λ l. done ++ l) taken ∙ sym (append_assoc done (n ∷ []) (into_iter_items c.next.new.self));
      added = subst (λ gs. AddsSorted gs (all_named c.args.list.now.items) (all_named c.push.new.self.items)) (sym (ap as_groups (map_push named_of done n) ∙ map_push (λ m. (m.name, m.words)) (all_named done) (named_of n)))
          (adds_push (as_groups (all_named done)) _ (all_named c.loop-named.list.items) (all_named c.push.new.self.items) (n.name.now, n.words.items) (named_of s) inv.added
          (ap all_named items ∙ map_push named_of c.loop-named.list.items s) c.in_ok-sorted.ensures.name c.in_ok-sorted.ensures.same c.in_ok-sorted.ensures.ascending c.in_ok-sorted.ensures.fits);
    }

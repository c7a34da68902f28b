use Rattle.std.proofs.Common.{◌≡◌, ◌++◌, ◌∷◌, [], List, ℕ, ◌∙◌, sym, subst, ap, append_assoc, arith}
use Rattle.std.specs.List.{flat_map}
use Rattle.std.specs.Vec.Iter.{into_iter_items}
use Rattle.std.proofs.lemmas.Grind.{common_steps, flat_map-append}
use Rattle.std.proofs.lemmas.List.{append-nil, map_push}
use Rattle.gdb_index_format.specs.Named.{all_named}
use Rattle.gdb_index.specs.Scan.{HaveSmallWords}
use Rattle.gdb_scan.specs.Groups.{groups}
use Rattle.gdb_tables.specs.Merged.{AreSorted}
use Rattle.gdb_tables.specs.steps.Distributed.{elements_shown, lists_shown}
use Rattle.gdb_tables.specs.steps.Vectors.{AddsSorted}
use Rattle.gdb_tables.proofs.Distributing.{groups_of_lists}
use Rattle.gdb_tables.proofs.Vectoring.{adds_more}
use Rattle.gdb_tables.proofs.merge.pool_names.Goals as goal

pub loop-elements-preserved : goal.loop-elements-preserved
loop-elements-preserved c =
    let e = c.in-Some.elements in
    let done = c.loop-elements.yielded in
    let inv = c.loop-elements.invariant in
    let old = all_named c.loop-elements.list.items in
    let new = all_named c.add_bucket.new.list.items in
    let own = groups (elements_shown e.items) in
    let before = flat_map (λ (ps : List (List ℕ × ℕ)). groups ps) (lists_shown done) in
    let taken : into_iter_items c.loop-elements.elements-iterator ≡ e ∷ into_iter_items c.next.new.self = c.in-Some.ensures.steps.0 in
    let joined : flat_map (λ (ps : List (List ℕ × ℕ)). groups ps) (lists_shown (done ++ e ∷ [])) ≡ before ++ own =
    ap (flat_map (λ (ps : List (List ℕ × ℕ)). groups ps)) (map_push (λ l. elements_shown l.items) done e)
    ∙ flat_map-append (λ (ps : List (List ℕ × ℕ)). groups ps) (lists_shown done) (elements_shown e.items ∷ [])
    ∙ ap (λ l. before ++ l) (append-nil own) in
    let adds : AddsSorted own old new = subst (λ es. AddsSorted (groups (elements_shown es)) old new) c.deref.ensures.value c.in_ok-add_bucket.ensures.names in
    let more : AreSorted (before ++ own) new × HaveSmallWords new = adds_more before own old new inv.sorted inv.fit adds in
    record {
      taken = inv.taken ∙ ap (λ l. done ++ l) taken ∙ sym (append_assoc done (e ∷ []) (into_iter_items c.next.new.self));
      sorted = subst (λ gs. AreSorted gs new) (sym joined) more.0;
      fit = more.1;
      hashed = c.in_ok-add_bucket.ensures.hashes;
    }

pub returns-clause-sorted : goal.returns-clause-sorted
returns-clause-sorted c =
    let all : c.loop-elements.yielded ≡ c.in_ok-elements-items.elements-items.items = grind (arith, common_steps) in
    subst (λ gs. AreSorted gs (all_named c.loop-elements.list.items))
    (ap (λ ls. flat_map (λ (ps : List (List ℕ × ℕ)). groups ps) (lists_shown ls)) all ∙ groups_of_lists c.args.scans.items (lists_shown c.in_ok-elements-items.elements-items.items) c.in_ok-elements-items.ensures)
    c.loop-elements.invariant.sorted

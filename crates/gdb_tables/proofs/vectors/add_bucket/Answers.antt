use Rattle.std.proofs.Common.{◌≡◌, ◌∙◌, [], length, sym, subst, ap, arith}
use Rattle.std.specs.Result.{OnOk}
use Rattle.std.proofs.lemmas.List.{length-map}
use Rattle.gdb_tables.specs.declared.hashed_name.HashedName.{HashedName}
use Rattle.gdb_index_format.specs.Named.{Named, all_named, named as named_of}
use Rattle.gdb_tables.specs.steps.Distributed.{elements_shown}
use Rattle.gdb_tables.specs.steps.Vectors.{keys_shown, AreBelow, with_elements, AddsSorted}
use Rattle.std.proofs.lemmas.Result.{on_ok_weaker}
use Rattle.gdb_tables.proofs.Vectoring.{indexed_below, filled_groups, adds_hashes}
use Rattle.gdb_tables.proofs.vectors.add_bucket.Goals as goal

abbrev unfilled : HashedName → Named
unfilled k = record { name = k.name.now; words = [] }

pub count_elements-requires : goal.count_elements-requires
count_elements-requires c =
    let ks = c.in_ok-keys.keys.keys in
    let es = c.in_ok-keys.indexes.items in
    let count : length (keys_shown ks) ≡ c.len.result = omega (arith, length-map ks (λ (k : HashedName). k.name.now), c.len.ensures.len) in
    subst (AreBelow c.len.result) (sym c.deref.ensures.value) (subst (λ n. AreBelow n es) count (indexed_below (keys_shown ks) (elements_shown c.args.elements.now) es c.in_ok-keys.ensures.indexed))

pub fill-requires : goal.fill-requires
fill-requires c =
    let ks = c.in_ok-keys.keys.keys in
    let es = c.in_ok-keys.indexes.items in
    let count : length (keys_shown ks) ≡ length c.in_ok-names.names.items =
    omega (arith, length-map ks (λ (k : HashedName). k.name.now), length-map c.in_ok-names.names.items named_of, ap length c.in_ok-names.ensures.names, length-map ks unfilled) in
    subst (AreBelow (length c.in_ok-names.names.items)) (sym c.deref-3.ensures.value) (subst (λ n. AreBelow n es) count (indexed_below (keys_shown ks) (elements_shown c.args.elements.now) es c.in_ok-keys.ensures.indexed))

pub returns-clause-names : goal.returns-clause-names
returns-clause-names c =
    let ps = elements_shown c.args.elements.now in
    let es = c.in_ok-keys.indexes.items in
    let empty = all_named c.in_ok-names.names.items in
    let full = all_named c.fill.new.names.items in
    let old = all_named c.args.list.now.items in
    let new = all_named c.add_sorted.new.list.items in
    subst (λ gs. OnOk c.add_sorted.result (AddsSorted gs old new))
    (filled_groups ps c.in_ok-keys.keys.keys es empty full c.in_ok-keys.ensures.names c.in_ok-keys.ensures.indexed c.in_ok-names.ensures.names (c.in_ok-fill.ensures ∙ ap (with_elements empty) c.deref-3.ensures.value))
    c.add_sorted.ensures

pub returns-clause-hashes : goal.returns-clause-hashes
returns-clause-hashes c =
    on_ok_weaker c.add_sorted.result
    (λ adds. adds_hashes (elements_shown c.args.elements.now) c.in_ok-keys.keys.keys (all_named c.args.list.now.items) (all_named c.add_sorted.new.list.items) c.args.hashes.now.items c.empty_vectors.new.hashes.items c.in_ok-keys.ensures.names adds c.requires c.in_ok-names.ensures.hashes)
    (returns-clause-names c)

use Rattle.std.proofs.Common.{◌∷◌, length, subst, ap, arith}
use Rattle.std.specs.Vec.Iter.{into_iter_items}
use Rattle.std.proofs.lemmas.List.{length-map}
use Rattle.gdb_scan.specs.Marks.{all_marked}
use Rattle.gdb_tables.specs.steps.Distributed.{elements_shown, lists_shown}
use Rattle.gdb_tables.proofs.Distributing.{Distributing, split_len, distributing_within, distributing_more}
use Rattle.gdb_tables.proofs.buckets.distributed.Goals as goal

pub add_publications-requires-clause-buckets : goal.add_publications-requires-clause-buckets
add_publications-requires-clause-buckets c =
    let d = c.loop-scan.invariant in
    omega (arith, length-map c.loop-scan.lists.items (λ l. elements_shown l.items), ap length d.split, split_len d.pairs)

pub add_publications-requires-clause-within : goal.add_publications-requires-clause-within
add_publications-requires-clause-within c = λ k d l.
    let lists = lists_shown c.loop-scan.lists.items in
    let left = into_iter_items c.next.new.self in
    let first = c.loop-scan.first in
    let here : Distributing lists first (c.in-Some.scan ∷ left) c.args.scans.items = subst (λ ss. Distributing lists first ss c.args.scans.items) c.in-Some.ensures.steps.0 c.loop-scan.invariant in
    omega (arith, c.publications_of.ensures.within k d l, distributing_within lists first c.in-Some.scan left c.args.scans.items here, c.requires)

pub loop-scan-preserved : goal.loop-scan-preserved
loop-scan-preserved c =
    let lists = lists_shown c.loop-scan.lists.items in
    let left = into_iter_items c.next.new.self in
    let first = c.loop-scan.first in
    let here : Distributing lists first (c.in-Some.scan ∷ left) c.args.scans.items = subst (λ ss. Distributing lists first ss c.args.scans.items) c.in-Some.ensures.steps.0 c.loop-scan.invariant in
    distributing_more lists (lists_shown c.add_publications.new.lists.items) first (length c.units_of.result.now) c.in-Some.scan left c.args.scans.items (all_marked c.publications_of.result.now) here c.publications_of.ensures.names (ap length c.units_of.ensures.units) c.in_ok-add_publications.ensures

pub loop-scan-preserved-in_ok-add_publications : goal.loop-scan-preserved-in_ok-add_publications
loop-scan-preserved-in_ok-add_publications c =
    let lists = lists_shown c.loop-scan.lists.items in
    let left = into_iter_items c.next.new.self in
    let first = c.loop-scan.first in
    let here : Distributing lists first (c.in-Some.scan ∷ left) c.args.scans.items = subst (λ ss. Distributing lists first ss c.args.scans.items) c.in-Some.ensures.steps.0 c.loop-scan.invariant in
    distributing_more lists (lists_shown c.add_publications.new.lists.items) first (length c.units_of.result.now) c.in-Some.scan left c.args.scans.items (all_marked c.publications_of.result.now) here c.publications_of.ensures.names (ap length c.units_of.ensures.units) c.in_ok-add_publications.ensures

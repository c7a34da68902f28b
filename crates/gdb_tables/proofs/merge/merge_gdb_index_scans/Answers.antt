use Rattle.std.proofs.Common.{◌≡◌, ◌^◌, ◌≤◌, List, Option, subst, sym, ap, ◌∙◌, arith}
use Rattle.std.specs.List.{AllByRecursion}
use Rattle.gdb_index.specs.Scan.{Scan}
use Rattle.gdb_index_format.specs.Named.{all_named, ListsPublished}
use Rattle.gdb_index_format.specs.Published.{published, end_to_end}
use Rattle.gdb_scan.specs.Groups.{groups}
use Rattle.gdb_scan.specs.Buckets.{in_buckets}
use Rattle.gdb_tables.specs.Merged.{AreSorted, IsMergeOf}
use Rattle.gdb_scan.specs.Scan.{ObjectScan, HasSoundNames}
use Rattle.gdb_tables.specs.Scans.{unit_total, unit_counts, units_in_scans, placed_total, words_from}
use Rattle.gdb_tables.proofs.Listing.{lists_of_scans, lists_of_objects}
use Rattle.gdb_tables.proofs.Merging.{sound_merge}
use Rattle.gdb_tables.proofs.merge.merge_gdb_index_scans.Goals as goal

pub new-requires-clause-well_formed : goal.new-requires-clause-well_formed
new-requires-clause-well_formed c =
    let ss = c.args.scans.items in
    let is : c.as_slice-all.result.now ≡ ss = c.as_slice-all.ensures.value in
    let few : unit_total ss ≤ 2 ^ 24 = omega (arith, c.count_units-count.ensures.total, ap unit_total is, c.if-count-gt-MAX_UNITS.false) in
    let ns = all_named c.in_ok-names.names.items in
    let sorted : AreSorted (in_buckets (groups (words_from 0 ss))) ns = c.in_ok-names.ensures.sorted in
    sound_merge ss c.in_ok-units.units.items ns c.count_placed-placed.result c.in_ok-counts.counts.items
    (c.in_ok-units.ensures ∙ ap (λ (xs : List (Option ObjectScan)). end_to_end 0 (units_in_scans xs)) is) (c.in_ok-counts.ensures ∙ ap unit_counts is) few (subst (AllByRecursion HasSoundNames) is c.count_units-count.ensures.sound) sorted c.in_ok-names.ensures.fit

pub returns-clause-merged : goal.returns-clause-merged
returns-clause-merged c =
    let ss = c.args.scans.items in
    let is : c.as_slice-all.result.now ≡ ss = c.as_slice-all.ensures.value in
    let few : unit_total ss ≤ 2 ^ 24 = omega (arith, c.count_units-count.ensures.total, ap unit_total is, c.if-count-gt-MAX_UNITS.false) in
    let ns = all_named c.in_ok-names.names.items in
    let sorted : AreSorted (in_buckets (groups (words_from 0 ss))) ns = c.in_ok-names.ensures.sorted in
    subst (IsMergeOf ss) (sym c.new.ensures) record {
      few = few;
      units = c.in_ok-units.ensures ∙ ap (λ (xs : List (Option ObjectScan)). end_to_end 0 (units_in_scans xs)) is;
      counts = c.in_ok-counts.ensures ∙ ap unit_counts is;
      placed = c.count_placed-placed.ensures ∙ ap placed_total is;
      names = lists_of_scans ss ns sorted;
    }

pub returns-clause-objects : goal.returns-clause-objects
returns-clause-objects c = λ os scans.
    let ss = c.args.scans.items in
    let is : c.as_slice-all.result.now ≡ ss = c.as_slice-all.ensures.value in
    let ns = all_named c.in_ok-names.names.items in
    let sorted : AreSorted (in_buckets (groups (words_from 0 ss))) ns = c.in_ok-names.ensures.sorted in
    subst (ListsPublished (published os)) (sym (ap (λ (m : Scan). m.names) c.new.ensures)) (lists_of_objects os ss ns scans sorted)

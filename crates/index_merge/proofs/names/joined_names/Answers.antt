use Rattle.std.proofs.Common.{List, subst, sym, ◌+◌, ◌^◌, ◌≤◌, arith}
use Rattle.index_browser.specs.declared.names.NameEntry.{NameEntry}
use Rattle.index_browser.specs.Areas.{unit_count}
use Rattle.index_browser.specs.NameList.{all_listed}
use Rattle.index_merge.proofs.Taking.{HaveRoom}
use Rattle.index_merge.proofs.Merging.{names_have_room}
use Rattle.index_merge.proofs.names.joined_names.Goals as goal

pub merge_names-requires-clause-room : goal.merge_names-requires-clause-room
merge_names-requires-clause-room c =
    let few : c.args.units + unit_count c.args.second.now ≤ 2 ^ 24 = omega (arith, c.requires.few, c.requires.units) in
    subst (λ (xs : List NameEntry). HaveRoom c.args.units (all_listed xs)) (sym c.deref-2.ensures.value)
    (names_have_room c.args.second.now c.args.units (all_listed c.in_ok-second_names.second_names.items) (c.checked_is_well_formed.ensures c.args.second.now c.bytes-second.ensures.checked) few (c.in_ok-second_names.ensures.names))

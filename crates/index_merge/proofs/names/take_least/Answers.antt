use Rattle.std.proofs.Common.{◌≡◌, ◌<◌, length, ap, sym, arith}
use Rattle.std.proofs.lemmas.Bool.{eqb-true}
use Rattle.index_browser.specs.NameList.{listed_name, all_listed}
use Rattle.gdb_index_format.specs.Named.{named}
use Rattle.index_merge.proofs.Taking.{rest, apart, no_item, head_room, take_alone, take_second_alone}
use Rattle.index_merge.proofs.names.take_least.Goals as goal

pub own_name-requires : goal.own_name-requires
own_name-requires c =
    let none : length c.args.first.now ≡ 0 = eqb-true _ _ (sym (c.if-is_empty.ensures {u = tt})) in
    let some : 0 < length c.args.second.now = omega (arith, none, c.requires.some) in
    head_room c.args.units (all_listed c.args.second.now) (all_listed (rest c.args.second.now)) (listed_name c.index-second-0.result) (apart c.args.second.now c.index-second-0.result some c.index-second-0.is) c.requires.room

pub returns-then-is_empty-clause-taken : goal.returns-then-is_empty-clause-taken
returns-then-is_empty-clause-taken c =
    let none : length c.args.first.now ≡ 0 = eqb-true _ _ (sym (c.if-is_empty.ensures {u = tt})) in
    let some : 0 < length c.args.second.now = omega (arith, none, c.requires.some) in
    take_second_alone c.args.units (all_listed c.args.first.now) (all_listed c.args.second.now) (all_listed (rest c.args.second.now)) (listed_name c.index-second-0.result) (named c.in_ok-named.named)
    (ap all_listed (no_item c.args.first.now none)) (apart c.args.second.now c.index-second-0.result some c.index-second-0.is) (c.in_ok-named.ensures {u = tt})

pub returns-then-is_empty-2-clause-taken : goal.returns-then-is_empty-2-clause-taken
returns-then-is_empty-2-clause-taken c =
    let none : length c.args.second.now ≡ 0 = eqb-true _ _ (sym (c.if-is_empty-2.ensures {u = tt})) in
    let some : 0 < length c.args.first.now = omega (arith, none, c.requires.some) in
    take_alone c.args.units (all_listed c.args.first.now) (all_listed c.args.second.now) (all_listed (rest c.args.first.now)) (listed_name c.index-first-0.result) (named c.in_ok-named-2.named)
    (apart c.args.first.now c.index-first-0.result some c.index-first-0.is) (ap all_listed (no_item c.args.second.now none)) (c.in_ok-named-2.ensures {u = tt})

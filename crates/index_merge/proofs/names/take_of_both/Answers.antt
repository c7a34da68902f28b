use Rattle.std.proofs.Common.{sym}
use Rattle.index_browser.specs.NameList.{listed_name, all_listed}
use Rattle.gdb_index_format.specs.Named.{named}
use Rattle.index_merge.proofs.Taking.{rest, apart, head_room, take_first, take_both, take_second}
use Rattle.index_merge.proofs.names.take_of_both.Goals as goal

pub joined_name-requires : goal.joined_name-requires
joined_name-requires c = head_room c.args.units (all_listed c.args.second.now) (all_listed (rest c.args.second.now)) (listed_name c.index-second-0.result) (apart c.args.second.now c.index-second-0.result c.requires.second c.index-second-0.is) c.requires.room

pub own_name-requires-in-Greater : goal.own_name-requires-in-Greater
own_name-requires-in-Greater c = head_room c.args.units (all_listed c.args.second.now) (all_listed (rest c.args.second.now)) (listed_name c.index-second-0.result) (apart c.args.second.now c.index-second-0.result c.requires.second c.index-second-0.is) c.requires.room

pub returns-in_ok-named-in-Less-clause-taken : goal.returns-in_ok-named-in-Less-clause-taken
returns-in_ok-named-in-Less-clause-taken c =
    take_first c.args.units (all_listed c.args.first.now) (all_listed c.args.second.now) (all_listed (rest c.args.first.now)) (all_listed (rest c.args.second.now)) (listed_name c.index-first-0.result) (listed_name c.index-second-0.result) (named c.in_ok-named-in-Less.named)
    (apart c.args.first.now c.index-first-0.result c.requires.first c.index-first-0.is) (apart c.args.second.now c.index-second-0.result c.requires.second c.index-second-0.is) (sym (c.in-Less.ensures {u = tt})) (c.in_ok-named-in-Less.ensures {u = tt})

pub returns-in_ok-named-in-Equal-clause-taken : goal.returns-in_ok-named-in-Equal-clause-taken
returns-in_ok-named-in-Equal-clause-taken c =
    take_both c.args.units (all_listed c.args.first.now) (all_listed c.args.second.now) (all_listed (rest c.args.first.now)) (all_listed (rest c.args.second.now)) (listed_name c.index-first-0.result) (listed_name c.index-second-0.result) (named c.in_ok-named-in-Equal.named)
    (apart c.args.first.now c.index-first-0.result c.requires.first c.index-first-0.is) (apart c.args.second.now c.index-second-0.result c.requires.second c.index-second-0.is) (sym (c.in-Equal.ensures {u = tt})) (c.in_ok-named-in-Equal.ensures {u = tt})

pub returns-in_ok-named-in-Greater-clause-taken : goal.returns-in_ok-named-in-Greater-clause-taken
returns-in_ok-named-in-Greater-clause-taken c =
    take_second c.args.units (all_listed c.args.first.now) (all_listed c.args.second.now) (all_listed (rest c.args.first.now)) (all_listed (rest c.args.second.now)) (listed_name c.index-first-0.result) (listed_name c.index-second-0.result) (named c.in_ok-named-in-Greater.named)
    (apart c.args.first.now c.index-first-0.result c.requires.first c.index-first-0.is) (apart c.args.second.now c.index-second-0.result c.requires.second c.index-second-0.is) (sym (c.in-Greater.ensures {u = tt})) (c.in_ok-named-in-Greater.ensures {u = tt})

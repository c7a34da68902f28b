use Rattle.std.proofs.Common.{◌≡◌, ◌<◌, ◌++◌, length, ap, sym, ◌∙◌, arith}
use Rattle.std.proofs.lemmas.Grind.{common_steps}
use Rattle.std.proofs.lemmas.List.{append-nil}
use Rattle.gdb_tables.specs.steps.ObjectEntries.{unit_mapped}
use Rattle.gdb_tables.proofs.Adjoining.{unit_within, no_entries, some_entries}
use Rattle.gdb_tables.proofs.ListedUnits.{listed_length}
use Rattle.gdb_tables.proofs.addresses.add_object.Goals as goal

pub returns-then-is_empty-clause-entries : goal.returns-then-is_empty-clause-entries
returns-then-is_empty-clause-entries g c = λ us units.
    let class = g.C.ElfClass.class in
    let file = c.args.file.now in
    let none : length c.args.units.now ≡ 0 = grind (arith, common_steps) in
    sym (append-nil c.args.entries.now.items) ∙ ap (λ es. c.args.entries.now.items ++ es) (sym (no_entries class file c.args.first us c.args.placements.now (omega (arith, none, listed_length class file.bytes c.args.units.now c.requires.held us units))))

pub add_entries-requires-clause-small : goal.add_entries-requires-clause-small
add_entries-requires-clause-small g c = λ section.
    let class = g.C.ElfClass.class in
    let file = c.args.file.now in
    let us = c.requires.held.own in
    omega (arith, c.in-Ok.ensures.mapped us c.requires.held.held section, unit_within class file.is_dynamic file.bytes us section, listed_length class file.bytes c.args.units.now c.requires.held us c.requires.held.held, c.requires.room)

pub returns-clause-entries : goal.returns-clause-entries
returns-clause-entries g c = λ us units.
    let class = g.C.ElfClass.class in
    let file = c.args.file.now in
    let some : 0 < length c.args.units.now = grind (arith, common_steps) in
    c.in_ok-add_entries.ensures ∙ ap (λ es. c.args.entries.now.items ++ es) (some_entries class file c.args.first us c.args.placements.now (unit_mapped c.in-Ok.map) (c.in-Ok.ensures.mapped us units) (omega (arith, some, listed_length class file.bytes c.args.units.now c.requires.held us units)))

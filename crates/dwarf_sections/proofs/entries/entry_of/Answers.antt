use Rattle.std.proofs.Common.{◌++◌, List, ℕ, ap, ◌∙◌}
use Rattle.gdb_index_format.specs.Names.{number}
use Rattle.dwarf_sections.proofs.SetReading.{closed_at_zero, no_end}
use Rattle.dwarf_sections.proofs.entries.entry_of.Goals as goal

pub returns-then-offset-eq0-clause-found : goal.returns-then-offset-eq0-clause-found
returns-then-offset-eq0-clause-found c = closed_at_zero c.args.format c.args.bytes.now c.in-Some.rest.now c.in-Some.offset c.if-offset-eq0.true (c.in-Some.ensures {u = tt}).1

pub returns-in_default-split_name-clause-bad : goal.returns-in_default-split_name-clause-bad
returns-in_default-split_name-clause-bad c =
    let read = c.in-Some.ensures {u = tt} in
    let cut = (c.in-Some-split_first.ensures {u = tt}).cases in
    no_end c.args.format c.args.bytes.now c.in-Some-split_first.rest.now c.in-Some.offset c.in-Some-split_first.flag.now c.if-offset-eq0.false read.0
    (read.1 ∙ ap (λ (t : List ℕ). number c.args.format c.in-Some.offset ++ t) cut.0) (c.in_default-split_name.ensures {u = tt})

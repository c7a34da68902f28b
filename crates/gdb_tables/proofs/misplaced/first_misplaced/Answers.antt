use Rattle.std.proofs.Common.{ap, ◌∙◌}
use Rattle.std.proofs.lemmas.List.{drop_all}
use Rattle.gdb_tables.specs.Files.{all_parsed, file_bytes}
use Rattle.gdb_tables.proofs.Misplacing.{misplaced_from, from_the_first, none_misplaced}
use Rattle.gdb_tables.proofs.misplaced.first_misplaced.Goals as goal

pub loop-index-init : goal.loop-index-init
loop-index-init c = record { left = from_the_first (file_bytes (all_parsed c.args.files.now)) c.args.placements.now }

pub returns-clause-none : goal.returns-clause-none
returns-clause-none c =
    let files = file_bytes (all_parsed c.args.files.now) in
    let before = c.loop-index.before in
    λ none. none_misplaced files c.args.placements.now (c.loop-index.invariant.left ∙ ap (misplaced_from files c.loop-index.index before) (drop_all c.loop-index.index c.args.placements.now c.loop-index-test.false))

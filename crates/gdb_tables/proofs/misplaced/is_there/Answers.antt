use Rattle.std.proofs.Common.{ap, sym, ◌∙◌}
use Rattle.elf_view.specs.AnyFile.{parsed}
use Rattle.gdb_tables.specs.Files.{all_parsed, file_bytes}
use Rattle.gdb_tables.specs.Misplaced.{is_there}
use Rattle.gdb_tables.proofs.Misplacing.{sections_there, no_file}
use Rattle.gdb_tables.proofs.Scanning.{below_parsed, past_files, parsed_here, file_at}
use Rattle.gdb_tables.proofs.misplaced.is_there.Goals as goal

pub returns-in-Some : goal.returns-in-Some
returns-in-Some c =
    let files = c.args.files.now in
    let i = c.args.placement.now.object in
    let section = c.args.placement.now.section in
    let f = c.in-Some.file.now in
    let found = c.in-Some.ensures.lookup in
    sections_there (parsed f).bytes section c.num_sections.result c.num_sections.ensures
    ∙ ap (λ o. is_there o section) (sym (file_at (all_parsed files) i (parsed f) (below_parsed files i found.3.0) (parsed_here files i f found.3.0 found.1)))

pub returns-in-None : goal.returns-in-None
returns-in-None c = no_file (file_bytes (all_parsed c.args.files.now)) c.args.placement.now.object c.args.placement.now.section (past_files c.args.files.now c.args.placement.now.object c.in-None.ensures.lookup.3)

use Rattle.std.proofs.Common.{◌∙◌, Some}
use Rattle.gdb_tables.proofs.BuildCauses.{address_cause}
use Rattle.gdb_tables.proofs.Indexing.{indexed}
use Rattle.gdb_index_format.specs.Published.{unit_lists}
use Rattle.gdb_index_format.specs.Version.{version_number}
use Rattle.gdb_index_format.proofs.ObjectLists.{units_of_objects}
use Rattle.gdb_tables.specs.Files.{all_parsed, file_bytes}
use Rattle.gdb_tables.specs.Index.{in_size}
use Rattle.gdb_tables.specs.Sized.{no_memory}
use Rattle.gdb_tables.proofs.index.tables_of_scan.Goals as goal

pub returns-in-Err-clause-cause : goal.returns-in-Err-clause-cause
returns-in-Err-clause-cause c = address_cause (version_number c.args.version) (all_parsed c.args.files.now) c.args.placements.now c.args.size (Some c.args.scan) c.in-Err.error c.requires.indexable c.requires.sized c.in-Err.ensures.cause

pub returns-in-Ok-written-clause-index : goal.returns-in-Ok-written-clause-index
returns-in-Ok-written-clause-index c =
    let done = c.in-Ok-written.ensures in
    indexed (version_number c.args.version) (all_parsed c.args.files.now) c.args.placements.now c.args.size c.args.scan c.deref.result.now c.in-Ok-written.tables.units.items c.in-Ok-written.tables.names.items c.in-Ok-written.tables.index.items
    c.requires.sized (λ uss held. c.deref.ensures.value ∙ c.in-Ok.ensures.entries uss held) done.size done.layout done.listed done.steps done.published done.units done.names done.sorted

pub returns-clause-cause : goal.returns-clause-cause
returns-clause-cause c = in_size no_memory

pub build_address_entries-requires-clause-scanned : goal.build_address_entries-requires-clause-scanned
build_address_entries-requires-clause-scanned c =
    let sized = c.requires.sized in
    (unit_lists sized.objects, units_of_objects (file_bytes (all_parsed c.args.files.now)) sized.objects sized.held, sized.scanned.own)

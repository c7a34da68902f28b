use Rattle.gdb_index_format.specs.Published.{unit_lists}
use Rattle.gdb_index_format.proofs.ObjectLists.{units_of_objects}
use Rattle.gdb_tables.specs.Files.{all_parsed, file_bytes}
use Rattle.gdb_tests.proofs.written.write_scan.Goals as goal

pub build_address_entries-requires-clause-scanned : goal.build_address_entries-requires-clause-scanned
build_address_entries-requires-clause-scanned c =
    let sized = c.requires.sized in
    (unit_lists sized.objects, units_of_objects (file_bytes (all_parsed c.args.files.now)) sized.objects sized.held, sized.scanned.own)

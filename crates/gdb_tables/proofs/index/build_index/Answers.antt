use Rattle.std.proofs.Common.{Option, subst}
use Rattle.gdb_index.specs.Scan.{Scan}
use Rattle.gdb_index_format.specs.Version.{version_number}
use Rattle.gdb_tables.specs.Files.{all_parsed, file_bytes}
use Rattle.gdb_tables.specs.Index.{in_size}
use Rattle.gdb_tables.specs.Sized.{SizesIndex}
use Rattle.gdb_tables.proofs.BuildCauses.{told_build, no_build_cause, only_build_memory}
use Rattle.gdb_tables.proofs.NoUnits.{indexed_none, relocated}
use Rattle.gdb_tables.proofs.index.build_index.Goals as goal

pub returns-in-Ok-default-None-clause-index : goal.returns-in-Ok-default-None-clause-index
returns-in-Ok-default-None-clause-index c =
    indexed_none (version_number c.args.version) (all_parsed c.args.files.now) c.args.placements.now c.in-Ok-default-None.field-0-0 c.new.result.items c.new-in-Ok-default-None.result.items c.new-in-Ok-default-None-2.result.items
    (subst (λ (scan : Option Scan). SizesIndex (version_number c.args.version) (file_bytes (all_parsed c.args.files.now)) c.args.placements.now c.in-Ok-default-None.field-0-0 scan) c.in-Ok-default-None.field-0-1-is c.in-Ok-default-None.ensures.size)
    c.new.ensures.items c.new-in-Ok-default-None.ensures.items c.new-in-Ok-default-None-2.ensures.items

pub returns-in-Ok-default-None-clause-relocated : goal.returns-in-Ok-default-None-clause-relocated
returns-in-Ok-default-None-clause-relocated c =
    relocated (version_number c.args.version) (all_parsed c.args.files.now) c.args.placements.now c.in-Ok-default-None.field-0-0
    (subst (λ (scan : Option Scan). SizesIndex (version_number c.args.version) (file_bytes (all_parsed c.args.files.now)) c.args.placements.now c.in-Ok-default-None.field-0-0 scan) c.in-Ok-default-None.field-0-1-is c.in-Ok-default-None.ensures.size)

pub returns-in-Ok-default-None-clause-exact : goal.returns-in-Ok-default-None-clause-exact
returns-in-Ok-default-None-clause-exact c = λ e cause some. some (no_build_cause (version_number c.args.version) (all_parsed c.args.files.now) c.args.placements.now e c.in-Ok-default-None.ensures.indexable (returns-in-Ok-default-None-clause-relocated c) cause)

pub returns-in-Err-clause-cause : goal.returns-in-Err-clause-cause
returns-in-Err-clause-cause c = in_size c.in-Err.ensures.cause

pub returns-in-Err-clause-exact : goal.returns-in-Err-clause-exact
returns-in-Err-clause-exact c = λ e cause some. told_build (version_number c.args.version) (all_parsed c.args.files.now) c.args.placements.now c.in-Err.error e (in_size c.in-Err.ensures.cause) cause some

pub returns-in-Err-clause-complete : goal.returns-in-Err-clause-complete
returns-in-Err-clause-complete c = λ index relocated. only_build_memory (version_number c.args.version) (all_parsed c.args.files.now) c.args.placements.now c.in-Err.error index relocated (in_size c.in-Err.ensures.cause)

pub returns-in-Err-tables_of_scan-clause-exact : goal.returns-in-Err-tables_of_scan-clause-exact
returns-in-Err-tables_of_scan-clause-exact c = λ e cause some. told_build (version_number c.args.version) (all_parsed c.args.files.now) c.args.placements.now c.in-Err-tables_of_scan.error e c.in-Err-tables_of_scan.ensures.cause cause some

pub returns-in-Err-tables_of_scan-clause-complete : goal.returns-in-Err-tables_of_scan-clause-complete
returns-in-Err-tables_of_scan-clause-complete c = λ index relocated. only_build_memory (version_number c.args.version) (all_parsed c.args.files.now) c.args.placements.now c.in-Err-tables_of_scan.error index relocated c.in-Err-tables_of_scan.ensures.cause

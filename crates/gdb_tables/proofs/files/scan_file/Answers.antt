use Rattle.std.proofs.Common.{◌≡◌, IfOk, IfErr, subst, sym}
use Rattle.gdb_index_format.specs.Objects.{class_in}
use Rattle.gdb_index_format.proofs.ObjectLists.{class_is_the_named}
use Rattle.gdb_scan.specs.Cause.{IsScanCause}
use Rattle.gdb_scan.specs.PlacedIn.{NameSections}
use Rattle.gdb_scan.specs.Scanned.{ScansObject}
use Rattle.gdb_tables.proofs.files.scan_file.Goals as goal

pub scan_one_object-requires-clause-named : goal.scan_one_object-requires-clause-named
scan_one_object-requires-clause-named g c =
    let file = c.args.file.now.bytes in
    let is : class_in file ≡ g.C.ElfClass.class = class_is_the_named _ file c.well_formed-2.ensures.class in
    subst (λ k. NameSections k file c.args.object c.args.placements.now) is c.requires.named

pub returns-clause-scan : goal.returns-clause-scan
returns-clause-scan g c =
    let file = c.args.file.now.bytes in
    let is : class_in file ≡ g.C.ElfClass.class = class_is_the_named _ file c.well_formed-2.ensures.class in
    subst (λ k. IfOk c.scan_one_object.result (ScansObject k file c.args.object c.args.placements.now)) (sym is) c.scan_one_object.ensures.scan

pub returns-clause-cause : goal.returns-clause-cause
returns-clause-cause g c =
    let file = c.args.file.now.bytes in
    let is : class_in file ≡ g.C.ElfClass.class = class_is_the_named _ file c.well_formed-2.ensures.class in
    subst (λ k. IfErr c.scan_one_object.result (IsScanCause k c.args.object file)) (sym is) c.scan_one_object.ensures.cause

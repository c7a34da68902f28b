use Rattle.std.proofs.Common.{◌≡◌, ◌++◌, List, None, OnOk, IfErr, subst, sym}
use Rattle.elf_format.specs.Class.{Class}
use Rattle.gdb_index_format.specs.declared.unit.CuBoundary.{CuBoundary}
use Rattle.gdb_index_format.specs.Addresses.{unit_relocation_fault}
use Rattle.gdb_index_format.specs.Objects.{class_in, IsUnitsOf}
use Rattle.gdb_index_format.proofs.ObjectLists.{class_is_the_named}
use Rattle.gdb_tables.specs.steps.ObjectEntries.{AreListedUnits, entries_of, IsEntriesCause}
use Rattle.gdb_tables.proofs.addresses.add_file.Goals as goal

pub add_object-requires-clause-held : goal.add_object-requires-clause-held
add_object-requires-clause-held g c =
    let file = c.args.file.now in
    let is : class_in file.bytes ≡ g.C.ElfClass.class = class_is_the_named _ file.bytes c.well_formed-2.ensures.class in
    subst (λ (k : Class). AreListedUnits k file.bytes c.args.units.now) is c.requires.held

pub returns-clause-entries : goal.returns-clause-entries
returns-clause-entries g c =
    let file = c.args.file.now in
    let is : class_in file.bytes ≡ g.C.ElfClass.class = class_is_the_named _ file.bytes c.well_formed-2.ensures.class in
    subst (λ (k : Class). OnOk c.add_object.result ((us : List CuBoundary) → IsUnitsOf k file.bytes us → c.add_object.new.entries.items ≡ c.args.entries.now.items ++ entries_of k file c.args.first us c.args.placements.now)) (sym is) c.add_object.ensures.entries

pub returns-clause-sound : goal.returns-clause-sound
returns-clause-sound g c =
    let file = c.args.file.now in
    let is : class_in file.bytes ≡ g.C.ElfClass.class = class_is_the_named _ file.bytes c.well_formed-2.ensures.class in
    subst (λ (k : Class). OnOk c.add_object.result ((us : List CuBoundary) → IsUnitsOf k file.bytes us → unit_relocation_fault k file.is_dynamic file.bytes us ≡ None)) (sym is) c.add_object.ensures.sound

pub returns-clause-cause : goal.returns-clause-cause
returns-clause-cause g c =
    let file = c.args.file.now in
    let is : class_in file.bytes ≡ g.C.ElfClass.class = class_is_the_named _ file.bytes c.well_formed-2.ensures.class in
    subst (λ (k : Class). IfErr c.add_object.result (λ e. (us : List CuBoundary) → IsUnitsOf k file.bytes us → IsEntriesCause c.args.object (unit_relocation_fault k file.is_dynamic file.bytes us) e)) (sym is) c.add_object.ensures.cause

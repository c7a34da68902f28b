use Rattle.std.proofs.Common.{◌≡◌, ◌<◌, ◌≤◌, length, Some, None, Err, ap, sym, subst, ◌∙◌, arith, option_map}
use Rattle.std.specs.List.{filter}
use Rattle.std.proofs.lemmas.Grind.{common_steps}
use Rattle.std.proofs.lemmas.Result.{err_from_is_err_and}
use Rattle.elf_format.specs.declared.index.SectionIndex.{SectionIndex}
use Rattle.elf_format.specs.Section.{sections}
use Rattle.gdb_index_format.specs.Objects.{first_compressed}
use Rattle.dwarf_sections.specs.UnitSearch.{Ascend}
use Rattle.gdb_scan.specs.Cause.{IsScanCause, compressed, in_units, in_names}
use Rattle.gdb_scan.specs.steps.Gathered.{GathersNames}
use Rattle.gdb_scan.specs.Marks.{all_marked}
use Rattle.gdb_scan.specs.PlacedIn.{placed_in}
use Rattle.gdb_index_format.specs.Placed.{is_counted}
use Rattle.gdb_scan.proofs.Causes.{holds_of, only_memory}
use Rattle.gdb_scan.proofs.OneCause.{refused_by, one_scan_cause, told_object, no_scan_cause}
use Rattle.gdb_scan.proofs.Sounding.{units_ascend, placed_few, sound_scan, gathered_within, scanned, scanned_none, fails_in_names}
use Rattle.gdb_scan.proofs.scan.scan_one_object.Goals as goal

pub returns-in-Some-clause-cause : goal.returns-in-Some-clause-cause
returns-in-Some-clause-cause g c = compressed c.in-Some.section (sym c.first_compressed.ensures ∙ ap (option_map (λ (i : SectionIndex). i.0)) c.in-Some.is)

pub returns-in-Some-clause-exact : goal.returns-in-Some-clause-exact
returns-in-Some-clause-exact g c = λ e cause some. told_object g.C.ElfClass.class c.args.object c.args.file.now.bytes _ e (returns-in-Some-clause-cause g c) cause some

pub returns-in_err-units-clause-cause : goal.returns-in_err-units-clause-cause
returns-in_err-units-clause-cause g c =
    let class = g.C.ElfClass.class in
    let file = c.args.file.now.bytes in
    let object = c.args.object in
    let plain : first_compressed class file ≡ None = sym c.first_compressed.ensures ∙ ap (option_map (λ (i : SectionIndex). i.0)) c.in_default.is in
    let p = err_from_is_err_and c.from_residual.result c.from_residual.ensures.1 in
    holds_of (IsScanCause class object file) c.from_residual.result c.in_err-units.field-0.0 (p.1 ∙ ap (λ e. Err e) p.2) (in_units c.in_err-units.field-0.0 plain c.in_err-units.ensures.cause)

pub returns-in_err-units-clause-exact : goal.returns-in_err-units-clause-exact
returns-in_err-units-clause-exact g c =
    let class = g.C.ElfClass.class in
    let object = c.args.object in
    let file = c.args.file.now.bytes in
    let p = err_from_is_err_and c.from_residual.result c.from_residual.ensures.1 in
    λ e cause some. refused_by (IsScanCause class object file) c.from_residual.result c.in_err-units.field-0.0 e (one_scan_cause class object file) (p.1 ∙ ap (λ x. Err x) p.2) (returns-in_err-units-clause-cause g c) cause some

pub returns-in_err-units-clause-complete : goal.returns-in_err-units-clause-complete
returns-in_err-units-clause-complete g c = λ o is none. only_memory g.C.ElfClass.class c.args.object c.args.file.now.bytes o c.from_residual.result is none (returns-in_err-units-clause-cause g c)

pub returns-then-is_empty-clause-scan : goal.returns-then-is_empty-clause-scan
returns-then-is_empty-clause-scan g c =
    let class = g.C.ElfClass.class in
    let file = c.args.file.now.bytes in
    let object = c.args.object in
    let plain : first_compressed class file ≡ None = sym c.first_compressed.ensures ∙ ap (option_map (λ (i : SectionIndex). i.0)) c.in_default.is in
    let us = c.in_ok-units.units.items in
    let units = c.in_ok-units.ensures.units in
    let none : length us ≡ 0 = grind (arith, common_steps) in
    scanned_none class file object c.args.placements.now us units none plain

pub returns-then-is_empty-clause-exact : goal.returns-then-is_empty-clause-exact
returns-then-is_empty-clause-exact g c = λ e cause some. some (no_scan_cause g.C.ElfClass.class c.args.object c.args.file.now.bytes c.args.placements.now None e (returns-then-is_empty-clause-scan g c) cause)

pub ascending-requires : goal.ascending-requires
ascending-requires g c = subst Ascend (sym c.deref.ensures.value) (units_ascend g.C.ElfClass.class c.args.file.now.bytes c.in_ok-units.units.items c.in_ok-units.ensures.units)

pub returns-in_err-names-clause-cause : goal.returns-in_err-names-clause-cause
returns-in_err-names-clause-cause g c =
    let class = g.C.ElfClass.class in
    let file = c.args.file.now.bytes in
    let object = c.args.object in
    let plain : first_compressed class file ≡ None = sym c.first_compressed.ensures ∙ ap (option_map (λ (i : SectionIndex). i.0)) c.in_default.is in
    let us = c.in_ok-units.units.items in
    let units = c.in_ok-units.ensures.units in
    let some : 0 < length us = grind (arith, common_steps) in
    let p = err_from_is_err_and c.from_residual-in_err-names.result c.from_residual-in_err-names.ensures.1 in
    holds_of (IsScanCause class object file) c.from_residual-in_err-names.result c.in_err-names.field-0.0 (p.1 ∙ ap (λ e. Err e) p.2) (in_names c.in_err-names.field-0.0 plain (fails_in_names class object file us c.in_err-names.field-0.0 units some c.in_err-names.ensures.cause))

pub returns-in_err-names-clause-exact : goal.returns-in_err-names-clause-exact
returns-in_err-names-clause-exact g c =
    let class = g.C.ElfClass.class in
    let object = c.args.object in
    let file = c.args.file.now.bytes in
    let p = err_from_is_err_and c.from_residual-in_err-names.result c.from_residual-in_err-names.ensures.1 in
    λ e cause some. refused_by (IsScanCause class object file) c.from_residual-in_err-names.result c.in_err-names.field-0.0 e (one_scan_cause class object file) (p.1 ∙ ap (λ x. Err x) p.2) (returns-in_err-names-clause-cause g c) cause some

pub returns-in_err-names-clause-complete : goal.returns-in_err-names-clause-complete
returns-in_err-names-clause-complete g c = λ o is none. only_memory g.C.ElfClass.class c.args.object c.args.file.now.bytes o c.from_residual-in_err-names.result is none (returns-in_err-names-clause-cause g c)

pub new-requires-clause-sound : goal.new-requires-clause-sound
new-requires-clause-sound g c =
    let class = g.C.ElfClass.class in
    let file = c.args.file.now.bytes in
    let object = c.args.object in
    let us = c.in_ok-units.units.items in
    let units = c.in_ok-units.ensures.units in
    let some : 0 < length us = grind (arith, common_steps) in
    let gathered : GathersNames class file us (all_marked c.in_ok-names.names.items) = subst (λ xs. GathersNames class file xs (all_marked c.in_ok-names.names.items)) (c.ascending.ensures ∙ c.deref.ensures.value) c.in_ok-names.ensures.names in
    let count : c.count_placed-placed.result ≡ placed_in class file object c.args.placements.now = c.count_placed-placed.ensures ∙ ap (λ l. length (filter (is_counted class file) l)) c.placements_of.ensures in
    sound_scan class file us c.in_ok-names.names.items c.count_placed-placed.result c.requires.small units some gathered c.in_ok-names.ensures.fit (subst (λ n. n ≤ length (sections class file)) (sym count) (placed_few class file object c.args.placements.now c.requires.placements c.requires.named))

pub new-requires-clause-within : goal.new-requires-clause-within
new-requires-clause-within g c =
    let class = g.C.ElfClass.class in
    let file = c.args.file.now.bytes in
    let us = c.in_ok-units.units.items in
    gathered_within class file us c.in_ok-names.names.items (subst (λ xs. GathersNames class file xs (all_marked c.in_ok-names.names.items)) (c.ascending.ensures ∙ c.deref.ensures.value) c.in_ok-names.ensures.names)

pub returns-clause-scan : goal.returns-clause-scan
returns-clause-scan g c =
    let class = g.C.ElfClass.class in
    let file = c.args.file.now.bytes in
    let object = c.args.object in
    let plain : first_compressed class file ≡ None = sym c.first_compressed.ensures ∙ ap (option_map (λ (i : SectionIndex). i.0)) c.in_default.is in
    let us = c.in_ok-units.units.items in
    let units = c.in_ok-units.ensures.units in
    let some : 0 < length us = grind (arith, common_steps) in
    let gathered : GathersNames class file us (all_marked c.in_ok-names.names.items) = subst (λ xs. GathersNames class file xs (all_marked c.in_ok-names.names.items)) (c.ascending.ensures ∙ c.deref.ensures.value) c.in_ok-names.ensures.names in
    let count : c.count_placed-placed.result ≡ placed_in class file object c.args.placements.now = c.count_placed-placed.ensures ∙ ap (λ l. length (filter (is_counted class file) l)) c.placements_of.ensures in
    scanned class file object c.args.placements.now us c.in_ok-names.names.items c.count_placed-placed.result c.new.result c.new.ensures units some gathered plain count c.in_ok-names.ensures.fit

pub returns-clause-exact : goal.returns-clause-exact
returns-clause-exact g c = λ e cause some. some (no_scan_cause g.C.ElfClass.class c.args.object c.args.file.now.bytes c.args.placements.now (Some c.new.result) e (returns-clause-scan g c) cause)

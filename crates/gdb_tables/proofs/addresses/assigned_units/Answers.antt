use Rattle.std.proofs.Common.{◌<◌, length, nat_eq, refl, ap, sym, subst, ◌∙◌, arith}
use Rattle.std.specs.Prelude.{unwrap_or}
use Rattle.std.specs.Map.{lookup}
use Rattle.gdb_index_format.specs.Addresses.{relocation_fault, unit_relocation_fault}
use Rattle.gdb_tables.specs.steps.ObjectEntries.{IsEntriesCause}
use Rattle.gdb_tables.proofs.Adjoining.{few_told, few_sound, many_told, many_fault, map_cause}
use Rattle.gdb_tables.proofs.ListedUnits.{listed_length, listed_adjoin, listed_from}
use Rattle.gdb_tables.proofs.addresses.assigned_units.Goals as goal

pub returns-then-units-lt2-clause-mapped : goal.returns-then-units-lt2-clause-mapped
returns-then-units-lt2-clause-mapped g c = λ us units section.
    let few : length us < 2 = omega (arith, listed_length g.C.ElfClass.class c.args.file.now.bytes c.args.units.now c.requires.held us units, c.if-units-lt2.true) in
    ap (λ es. unwrap_or (lookup (λ k. nat_eq section k) es) 0) c.new.ensures.empty ∙ few_told g.C.ElfClass.class c.args.file.now.is_dynamic c.args.file.now.bytes us section few

pub returns-then-units-lt2-clause-sound : goal.returns-then-units-lt2-clause-sound
returns-then-units-lt2-clause-sound g c = λ us units.
    few_sound g.C.ElfClass.class c.args.file.now.is_dynamic c.args.file.now.bytes us (omega (arith, listed_length g.C.ElfClass.class c.args.file.now.bytes c.args.units.now c.requires.held us units, c.if-units-lt2.true))

pub section_units-requires-clause-adjacent : goal.section_units-requires-clause-adjacent
section_units-requires-clause-adjacent g c = listed_adjoin g.C.ElfClass.class c.args.file.now.bytes c.args.units.now c.requires.held

pub returns-in-Ok-clause-mapped : goal.returns-in-Ok-clause-mapped
returns-in-Ok-clause-mapped g c = λ us units section.
    let class = g.C.ElfClass.class in
    let file = c.args.file.now in
    let long = listed_length class file.bytes c.args.units.now c.requires.held us units in
    let many : 1 < length us = omega (arith, long, c.if-units-lt2.false) in
    ap (λ o. unwrap_or o 0) (c.in-Ok.ensures.map us (listed_from class file.bytes c.args.units.now c.requires.held us _ _ units (omega (arith, c.if-units-lt2.false)) refl) section) ∙ many_told class file.is_dynamic file.bytes us section many

pub returns-in-Err-clause-cause : goal.returns-in-Err-clause-cause
returns-in-Err-clause-cause g c = λ us units.
    let class = g.C.ElfClass.class in
    let file = c.args.file.now in
    let many : 1 < length us = omega (arith, listed_length class file.bytes c.args.units.now c.requires.held us units, c.if-units-lt2.false) in
    let fault = unit_relocation_fault class file.is_dynamic file.bytes us in
    subst (IsEntriesCause c.args.object fault) (sym c.of_relocations.ensures)
    (map_cause c.args.object fault (relocation_fault class file.is_dynamic file.bytes) c.in-Err.error (many_fault class file.is_dynamic file.bytes us many) c.in-Err.ensures.cause)

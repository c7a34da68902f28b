use Rattle.std.proofs.Common.{◌∙◌, sym, refl}
use Rattle.elf_format.specs.declared.architecture.Architecture.TheVariants.{X86_64}
use Rattle.gdb_index_format.specs.declared.version.IndexVersion.TheVariants.{V9}
use Rattle.derive_program.specs.ProgramInput.{ProgramInput, AreTablesOf, HasTables}
use Rattle.derive_program.proofs.AnswerLemmas.{same_input, of_same, after_summary, after_no_refusal}
use Rattle.derive_program.proofs.showing.show_demo.Goals as goal

pub returns-in-Ok-derive_tables-clause-answer : goal.returns-in-Ok-derive_tables-clause-answer
returns-in-Ok-derive_tables-clause-answer g c =
    let made = c.in-Ok.ensures.made in
    let same = same_input X86_64 V9 0 _ _ _ _ _ _ _ _ _ _ (c.deref-3.ensures.value ∙ made.placements) (c.deref-5.ensures.value ∙ made.ranges) (c.deref.ensures.value ∙ made.buffer) (c.deref-2.ensures.value ∙ made.objects) (c.deref-4.ensures.value ∙ made.sframe) in
    let derived = c.in-Ok-derive_tables.derived in
    let facts = c.in-Ok-derive_tables.ensures in
    let P : ProgramInput → Type 0 = λ i. AreTablesOf i derived.units.items derived.names.items derived.index.items derived.sframe.items derived.outcome in
    let are = of_same _ _ P same (record { has = facts.valid; listed = facts.index; ordered = facts.sframe }) in
    after_summary c.args.count _ _ _ _ _ _ _ _ are c.summarize-summary.ensures c.write_summary.ensures.answer

pub returns-clause-answer : goal.returns-clause-answer
returns-clause-answer g c =
    let same = same_input X86_64 V9 0 _ _ _ _ _ _ _ _ _ _ (sym c.deref-3.ensures.value) (sym c.deref-5.ensures.value) (sym c.deref.ensures.value) (sym c.deref-2.ensures.value) (sym c.deref-4.ensures.value) in
    let valid = of_same _ _ HasTables same (c.in-Ok.ensures.valid V9) in
    after_no_refusal c.args.count c.in-Err.error _ _ (c.in-Err.ensures.complete valid) (record { written = refl; puts = refl }) c.from.ensures

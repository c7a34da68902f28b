use Rattle.std.proofs.Common.{◌≡◌, ◌⊎◌, ◌∙◌, ap, sym}
use Rattle.derivation.specs.declared.error.DeriveError.{DeriveError}
use Rattle.derivation.specs.declared.error.DeriveError.TheVariants.{NoMemory}
use Rattle.program_text.specs.Layout.{layout_of}
use Rattle.derive_program.specs.Cause.{HasCauseIn}
use Rattle.derive_program.specs.ProgramInput.{ProgramInput, AreTablesOf, HasTables}
use Rattle.derive_program.proofs.AnswerLemmas.{same_input, of_same, started_report, after_refusal}
use Rattle.derive_program.proofs.steps.derive_read.Goals as goal

pub returns-in-Ok-start_report-clause-started : goal.returns-in-Ok-start_report-clause-started
returns-in-Ok-start_report-clause-started c =
    let same = same_input c.args.machine c.args.version c.in-Ok.layout.base _ _ _ _ _ _ _ _ _ _ c.deref-4.ensures.value c.deref-6.ensures.value c.deref-2.ensures.value c.deref-3.ensures.value c.deref-5.ensures.value in
    let derived = c.in-Ok-derive_tables.derived in
    let facts = c.in-Ok-derive_tables.ensures in
    let P : ProgramInput → Type 0 = λ i. AreTablesOf i derived.units.items derived.names.items derived.index.items derived.sframe.items derived.outcome in
    let are = of_same _ _ P same (record { has = facts.valid; listed = facts.index; ordered = facts.sframe }) in
    let N : ProgramInput → Type 0 = λ i. (error : DeriveError) → HasCauseIn i error → ⊥ in
    let none = of_same _ _ N same facts.exact in
    let start = c.in-Ok-start_report.ensures in
    started_report c.args.machine c.args.version c.args.read.now _ _ _ _ _ _ _ _ _ _ (ap layout_of (sym c.deref.ensures.value) ∙ c.in-Ok.ensures) are none start.text start.index start.sframe start.outcome

pub returns-clause-refused : goal.returns-clause-refused
returns-clause-refused c = λ writes silent.
    let same = same_input c.args.machine c.args.version c.in-Ok.layout.base _ _ _ _ _ _ _ _ _ _ c.deref-4.ensures.value c.deref-6.ensures.value c.deref-2.ensures.value c.deref-3.ensures.value c.deref-5.ensures.value in
    let error = c.in-Err.error in
    let P : ProgramInput → Type 0 = λ i. (error ≡ NoMemory) ⊎ HasCauseIn i error in
    let Q : ProgramInput → Type 0 = λ i. HasTables i → error ≡ NoMemory in
    let R : ProgramInput → Type 0 = λ i. (other : DeriveError) → HasCauseIn i other → (error ≡ other) ⊎ (error ≡ NoMemory) in
    after_refusal c.args.machine c.args.version c.args.read.now _ _ _ _ (ap layout_of (sym c.deref.ensures.value) ∙ c.in-Ok.ensures) (of_same _ _ P same c.in-Err.ensures.cause)
    (of_same _ _ Q same c.in-Err.ensures.complete) (of_same _ _ R same c.in-Err.ensures.exact) silent c.from.ensures

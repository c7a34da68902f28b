use Rattle.std.proofs.Common.{◌≡◌, nat_eq, Some, None, Err, IfErr, sym, ap, ◌∙◌, subst, rules}
use Rattle.std.specs.Prelude.{slice_get}
use Rattle.std.specs.HashMap as hash
use Rattle.std.proofs.lemmas.Result.{err_from_is_err_and}
use Rattle.gdb_scan.specs.steps.SymbolCause.{IsSymbolCause}
use Rattle.gdb_scan.proofs.Assigning.{assigned_next, assigned_skip, assigned_cause}
use Rattle.gdb_scan.proofs.map.map_of_relocations.Goals.{in-Some+in_ok-note_relocation, in_default}
use Rattle.gdb_scan.proofs.map.map_of_relocations.Goals as goal

pub returns-in_err-note_relocation-clause-cause : goal.returns-in_err-note_relocation-clause-cause
returns-in_err-note_relocation-clause-cause g c =
    let p = err_from_is_err_and c.from_residual.result c.from_residual.ensures.1 in
    let there : slice_get c.args.relocations.now c.loop-index.index ≡ Some c.in-Some.relocation.values = sym c.in-Some.ensures in
    subst (λ r. IfErr r (IsSymbolCause g.C.ElfClass.class c.args.file.now.is_dynamic c.args.file.now.bytes c.args.relocations.now)) (sym (p.1 ∙ ap (λ e. Err e) p.2))
    (assigned_cause g.C.ElfClass.class c.args.file.now.is_dynamic c.args.file.now.bytes c.args.units.now c.args.base c.args.relocations.now c.loop-index.index c.in-Some.relocation.values (hash.get nat_eq c.loop-index.map) _ there c.loop-index.invariant.assigned c.in_err-note_relocation.ensures.cause)

pub loop-index-preserved : goal.loop-index-preserved
loop-index-preserved g c = elim c.match-get.branch [
  | in-Some+in_ok-note_relocation w ↦
      let there : slice_get c.args.relocations.now c.loop-index.index ≡ Some w.in-Some.relocation.values = sym w.in-Some.ensures in
      record { assigned = assigned_next g.C.ElfClass.class c.args.file.now.is_dynamic c.args.file.now.bytes c.args.units.now c.args.base c.args.relocations.now c.loop-index.index w.in-Some.relocation.values (hash.get nat_eq c.loop-index.map) (hash.get nat_eq c.match-get.map) there w.in_ok-note_relocation.ensures.sound (search rules) c.loop-index.invariant.assigned }
  | in_default w ↦
      let none : slice_get c.args.relocations.now c.loop-index.index ≡ None = search rules in
      record { assigned = assigned_skip g.C.ElfClass.class c.args.file.now.is_dynamic c.args.file.now.bytes c.args.units.now c.args.base c.args.relocations.now c.loop-index.index (hash.get nat_eq c.match-get.map) none (search rules) }
]

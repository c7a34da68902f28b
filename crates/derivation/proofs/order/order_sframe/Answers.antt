use Rattle.std.proofs.Common.{◌≡◌, ◌⊎◌, rules, subst, sym, List, ℕ, IfErr}
use Rattle.std.proofs.lemmas.Result.{err_from_is_err_and}
use Rattle.sframe_format.specs.Valid as frames
use Rattle.derivation.specs.declared.error.DeriveError.TheVariants.{NoMemory}
use Rattle.derivation.specs.Cause.{IsUnordered}
use Rattle.derivation.proofs.Refusing.{unordered}
use Rattle.derivation.proofs.order.order_sframe.Goals as goal

pub returns-in_err-outcome-clause-cause : goal.returns-in_err-outcome-clause-cause
returns-in_err-outcome-clause-cause c =
    let same : c.deref_mut.result.now ≡ c.args.sframe.now = search rules in
    let p = err_from_is_err_and c.from_residual-in_err-outcome.result c.from_residual-in_err-outcome.ensures.1 in
    subst (λ r. IfErr r (λ e. (e ≡ NoMemory) ⊎ IsUnordered c.args.sframe.now c.args.ranges.now e)) (sym p.1)
    (unordered c.args.sframe.now c.args.ranges.now c.in_err-outcome.field-0.0 p.0 p.2 (subst (λ (s : List ℕ). frames.IsSortCause s c.args.ranges.now c.in_err-outcome.field-0.0) same c.in_err-outcome.ensures.cause))

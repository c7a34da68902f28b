use Rattle.derivation.proofs.Answering.{told, only_memory}
use Rattle.derivation.proofs.derive.derive_tables.Goals as goal

pub returns-in-Ok-clause-exact : goal.returns-in-Ok-clause-exact
returns-in-Ok-clause-exact c = λ e cause. c.valid_has_no_cause.ensures _ e c.in-Ok.ensures.valid cause

pub returns-in-Ok-clause-checked : goal.returns-in-Ok-clause-checked
returns-in-Ok-clause-checked c = c.indexes_are_checked.ensures _ _ _ _ c.in-Ok.ensures.valid c.in-Ok.ensures.index

pub returns-in-Err-clause-exact : goal.returns-in-Err-clause-exact
returns-in-Err-clause-exact c = λ e cause. told c.refused_for_one_cause.ensures _ e c.in-Err.error c.in-Err.ensures cause

pub returns-in-Err-clause-complete : goal.returns-in-Err-clause-complete
returns-in-Err-clause-complete c = λ valid. only_memory c.valid_has_no_cause.ensures _ c.in-Err.error c.in-Err.ensures valid

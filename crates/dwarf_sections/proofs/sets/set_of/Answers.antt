use Rattle.std.proofs.Common.{Err, ap, ◌∙◌}
use Rattle.std.proofs.lemmas.Result.{err_from_is_err_and}
use Rattle.dwarf_sections.specs.Entries.{entries_in}
use Rattle.dwarf_sections.proofs.SetReading.{IsBad-weaker}
use Rattle.dwarf_sections.proofs.SetFinding.{no_set_entries, set_found}
use Rattle.dwarf_sections.proofs.sets.set_of.Goals as goal

pub returns-in_err-entries-clause-bad : goal.returns-in_err-entries-clause-bad
returns-in_err-entries-clause-bad c =
    let p = err_from_is_err_and c.from_residual.result c.from_residual.ensures.1 in
    IsBad-weaker c.entries_of.result _ (c.in_err-entries.was {u = tt})
    (λ none. no_set_entries c.args.bytes.now c.in-Some.head (c.in-Some.ensures {u = tt}) none)
    c.entries_of.ensures.bad c.from_residual.result (p.1 ∙ ap (λ e. Err e) p.2)

pub returns-clause-found : goal.returns-clause-found
returns-clause-found c = set_found c.args.bytes.now c.in-Some.head (entries_in c.in_ok-entries.entries.items) (c.in-Some.ensures {u = tt}) (c.in_ok-entries.ensures {u = tt}).ok

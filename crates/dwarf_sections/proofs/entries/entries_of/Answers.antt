use Rattle.std.proofs.Common.{◌≡◌, [], ◌∷◌, ◌++◌, Err, sym, ap, subst, ◌∙◌, arith}
use Rattle.std.proofs.lemmas.List.{append-nil, map_push}
use Rattle.std.proofs.lemmas.Grind.{common_steps}
use Rattle.std.proofs.lemmas.Result.{err_from_is_err_and}
use Rattle.gdb_index_format.specs.Names.{IsEntries}
use Rattle.dwarf_sections.specs.Entries.{entries_in, entry_in}
use Rattle.dwarf_sections.specs.steps.EntryParts.{seen_entry, FoundEntry}
use Rattle.dwarf_sections.proofs.SetReading.{IsBad-weaker, none_there, sound_more, complete_more}
use Rattle.dwarf_sections.proofs.entries.entries_of.Goals as goal

pub returns-in_err-entry-clause-bad : goal.returns-in_err-entry-clause-bad
returns-in_err-entry-clause-bad c =
    let p = err_from_is_err_and c.from_residual.result c.from_residual.ensures.1 in
    IsBad-weaker c.entry_of.result _ (c.in_err-entry.was {u = tt})
    (λ none es all. let left = c.loop-entries.invariant.complete es all in none_there c.args.format c.loop-entries.rest.now none left.0 left.1)
    c.entry_of.ensures.bad c.from_residual.result (p.1 ∙ ap (λ e. Err e) p.2)

pub loop-entries-preserved : goal.loop-entries-preserved
loop-entries-preserved c =
    let e = c.in-Some.entry in
    let found = (c.in_ok-entry.ensures {u = tt}).found in
    let entry = subst (λ o. FoundEntry c.args.format c.loop-entries.rest.now o) c.in-Some.is found in
    let items : c.push.new.self.items ≡ c.loop-entries.entries.items ++ (e.name, e.flag) ∷ [] = grind (arith, common_steps) in
    let seen : entries_in c.loop-entries.entries.items ++ seen_entry e ∷ [] ≡ entries_in c.push.new.self.items =
    sym (map_push entry_in c.loop-entries.entries.items (e.name, e.flag)) ∙ ap entries_in (sym items) in
    record {
      sound = λ es more. subst (λ xs. IsEntries c.args.format c.args.bytes.now (xs ++ es)) seen (sound_more c.args.format c.args.bytes.now c.loop-entries.rest.now e.rest.now (entries_in c.loop-entries.entries.items) (seen_entry e) c.loop-entries.invariant.sound entry es more);
      complete = λ es all. complete_more c.args.format c.args.bytes.now c.loop-entries.rest.now e.rest.now (seen_entry e) c.loop-entries.invariant.complete entry es all;
    }

pub returns-clause-ok : goal.returns-clause-ok
returns-clause-ok c =
    let found = (c.in_ok-entry.ensures {u = tt}).found in
    let closed = subst (λ o. FoundEntry c.args.format c.loop-entries.rest.now o) c.in_default.is found in
    subst (λ es. IsEntries c.args.format c.args.bytes.now es) (append-nil (entries_in c.loop-entries.entries.items)) (c.loop-entries.invariant.sound [] closed)

use Rattle.std.proofs.Common.{◌≡◌, ◌<◌, [], ◌∷◌, ◌++◌, Err, length, sym, ap, subst, ◌∙◌, arith}
use Rattle.std.proofs.lemmas.List.{append-nil, map_push}
use Rattle.std.proofs.lemmas.Grind.{common_steps}
use Rattle.std.proofs.lemmas.Result.{err_from_is_err_and}
use Rattle.gdb_index_format.specs.Names.{IsSetList}
use Rattle.dwarf_sections.proofs.SetReading.{IsBad-weaker}
use Rattle.dwarf_sections.specs.Sets.{set_in, sets_in}
use Rattle.dwarf_sections.proofs.SetFinding.{none_there, sound_more, complete_more, shorter, nil_is, sets_clean}
use Rattle.dwarf_sections.proofs.sets.parse_pubnames_sets.Goals as goal

pub returns-in_err-next-clause-bad : goal.returns-in_err-next-clause-bad
returns-in_err-next-clause-bad c =
    let p = err_from_is_err_and c.from_residual.result c.from_residual.ensures.1 in
    let some : 0 < length c.loop-rest.rest.now = grind arith in
    IsBad-weaker c.set_of.result _ (c.in_err-next.was {u = tt})
    (λ none ss all. let left = c.loop-rest.invariant.complete ss all in none_there c.loop-rest.rest.now some none left.0 left.1)
    c.set_of.ensures.bad c.from_residual.result (p.1 ∙ ap (λ e. Err e) p.2)

pub loop-rest-preserved : goal.loop-rest-preserved
loop-rest-preserved c =
    let n = c.in_ok-next.next in
    let found = (c.in_ok-next.ensures {u = tt}).found in
    let items : c.push.new.self.items ≡ c.loop-rest.sets.items ++ n.set ∷ [] = grind (arith, common_steps) in
    let seen : sets_in c.loop-rest.sets.items ++ set_in n.set ∷ [] ≡ sets_in c.push.new.self.items =
    sym (map_push set_in c.loop-rest.sets.items n.set) ∙ ap sets_in (sym items) in
    record {
      sound = λ ss more. subst (λ xs. IsSetList c.args.bytes.now (xs ++ ss)) seen (sound_more c.args.bytes.now c.loop-rest.rest.now n.rest.now found.0 (sets_in c.loop-rest.sets.items) (set_in n.set) c.loop-rest.invariant.sound found.1 found.2 ss more);
      complete = λ ss all. complete_more c.args.bytes.now c.loop-rest.rest.now n.rest.now found.0 (set_in n.set) c.loop-rest.invariant.complete found.1 found.2 ss all;
    }

pub loop-rest-smaller : goal.loop-rest-smaller
loop-rest-smaller c =
    let n = c.in_ok-next.next in
    let found = (c.in_ok-next.ensures {u = tt}).found in
    shorter c.loop-rest.rest.now n.rest.now found.0 (set_in n.set) found.1 found.2

pub returns-clause-ok : goal.returns-clause-ok
returns-clause-ok c =
    subst (λ ss. IsSetList c.args.bytes.now ss) (append-nil (sets_in c.loop-rest.sets.items)) (c.loop-rest.invariant.sound [] (nil_is c.loop-rest.rest.now (grind arith)))

pub returns-clause-clean : goal.returns-clause-clean
returns-clause-clean c = sets_clean c.args.bytes.now (sets_in c.loop-rest.sets.items) (returns-clause-ok c)

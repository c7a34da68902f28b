use Rattle.std.proofs.Common.{◌≡◌, ◌++◌, List, ℕ, drop, vec_len, refl, sym, ap, ◌∙◌, arith, length-drop}
use Rattle.std.proofs.lemmas.List.{take-append-drop}
use Rattle.std.proofs.KnownBytes.{Consumes-whole}
use Rattle.program_io.proofs.disk_files.read_to_limit.Goals as goal

pub returns-in-Ok-clause-ok : goal.returns-in-Ok-clause-ok
returns-in-Ok-clause-ok g c =
    let n = vec_len c.args.out.now in
    let new = c.append_rest.new.out.items in
    let added = length-drop n new in
    record {
      bytes = drop n new;
      appended = sym (take-append-drop n new) ∙ ap (λ (l : List ℕ). l ++ drop n new) c.in-Ok.ensures.kept;
      within = omega (arith, added, c.in-Ok.ensures.ok);
      whole = Consumes-whole _ _ (drop n new) (λ xs. xs ≡ drop n new) c.in-Ok.ensures.consumed c.in-Ok.ensures.end refl;
      end = c.in-Ok.ensures.end;
      took = omega (arith, added, c.in-Ok.ensures.took);
    }

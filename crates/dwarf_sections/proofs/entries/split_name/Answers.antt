use Rattle.std.proofs.Common.{◌+◌, List, ℕ, ◌++◌, ◌∷◌, take, ap, sym, ◌∙◌}
use Rattle.std.proofs.lemmas.List.{take_rest}
use Rattle.dwarf_sections.proofs.SetReading.{name_found, no_zero}
use Rattle.dwarf_sections.proofs.entries.split_name.Goals as goal

pub returns-in-None : goal.returns-in-None
returns-in-None c = no_zero c.args.bytes.now (sym c.first_zero.ensures.value ∙ c.in-None.is)

pub returns-in-Some : goal.returns-in-Some
returns-in-Some c =
    let found = name_found c.args.bytes.now c.in-Some.len (sym c.first_zero.ensures.value ∙ c.in-Some.is) in
    (found.0, found.1 ∙ ap (λ (t : List ℕ). take c.in-Some.len c.args.bytes.now ++ 0 ∷ t) (sym (take_rest c.args.bytes.now (c.in-Some.len + 1))))

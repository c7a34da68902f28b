use Rattle.std.proofs.Common.{◌∷◌, sym, ap, ◌∙◌}
use Rattle.std.specs.Prelude.{Some}
use Rattle.program_text.specs.Layout.{place_line}
use Rattle.program_text.proofs.WordLemmas.{more_words}
use Rattle.program_text.proofs.line.read_place.Goals as goal

pub returns-then-is_some : goal.returns-then-is_some
returns-then-is_some c =
    let more = more_words c.in_ok-size.words (sym c.is_some.ensures ∙ c.if-is_some.true) in
    let size = c.in_ok-size.ensures ∙ ap (λ ns. Some c.in_ok-size.size ∷ ns) more.are in
    let address = c.in_ok-address.ensures ∙ ap (λ ns. Some c.in_ok-address.address ∷ ns) size in
    let section = c.in_ok-section.ensures ∙ ap (λ ns. Some c.in_ok-section.section ∷ ns) address in
    sym (ap place_line (c.in_ok-object.ensures ∙ ap (λ ns. Some c.in_ok-object.object ∷ ns) section))

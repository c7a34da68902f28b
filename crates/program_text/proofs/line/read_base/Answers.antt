use Rattle.std.proofs.Common.{◌∷◌, sym, ap, ◌∙◌}
use Rattle.std.specs.Prelude.{Some}
use Rattle.program_text.specs.Layout.{base_of}
use Rattle.program_text.proofs.WordLemmas.{more_words}
use Rattle.program_text.proofs.line.read_base.Goals as goal

pub returns-then-is_some : goal.returns-then-is_some
returns-then-is_some c =
    let more = more_words c.in_ok-address.words (sym c.is_some.ensures ∙ c.if-is_some.true) in
    sym (ap base_of (c.in_ok-address.ensures ∙ ap (λ ns. Some c.in_ok-address.address ∷ ns) more.are))

use Rattle.std.proofs.Common.{◌∷◌, sym, ap, ◌∙◌}
use Rattle.std.specs.Prelude.{Some}
use Rattle.program_text.specs.Layout.{range_of}
use Rattle.program_text.proofs.WordLemmas.{more_words}
use Rattle.program_text.proofs.line.read_range.Goals as goal

pub returns-then-is_some : goal.returns-then-is_some
returns-then-is_some c =
    let more = more_words c.in_ok-stop.words (sym c.is_some.ensures ∙ c.if-is_some.true) in
    let stop = c.in_ok-stop.ensures ∙ ap (λ ns. Some c.in_ok-stop.stop ∷ ns) more.are in
    sym (ap range_of (c.in_ok-start.ensures ∙ ap (λ ns. Some c.in_ok-start.start ∷ ns) stop))

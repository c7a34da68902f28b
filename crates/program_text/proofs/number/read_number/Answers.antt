use Rattle.std.proofs.Common.{◌≡◌, ◌≤◌, length, get_or, ◌∙◌}
use Rattle.program_text.proofs.NumberLemmas.{as_read, short_word}
use Rattle.program_text.proofs.number.read_number.Goals.{then-first-eq48, else-first-eq48}
use Rattle.program_text.proofs.number.read_number.Goals as goal

pub returns : goal.returns
returns c =
    let word = c.args.word.now in
    let short : get_or word 0 0 ≡ 48 → length word ≤ 1 = elim c.if-first-eq48.branch [
      | then-first-eq48 w ↦ λ zero. short_word word w.is_empty.result c.if-first-eq48.value w.is_empty.ensures w.value-is c.if-not-is_empty.false
      | else-first-eq48 w ↦ λ zero. absurd (w.if-first-eq48.false zero)
    ] in
    c.ok.ensures.value ∙ as_read word c.parse_u64.result c.in-len1-up.len_at_least c.if-first-eq43.false short c.parse_u64.ensures

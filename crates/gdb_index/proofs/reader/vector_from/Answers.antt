use Rattle.std.proofs.Common.{List, ℕ, Some, Ok, sym, ap, ◌∙◌}
use Rattle.gdb_index.proofs.Reading.{vector_found}
use Rattle.gdb_index.proofs.reader.vector_from.Goals as goal

pub returns : goal.returns
returns c =
    vector_found c.args.index.now c.args.at c.read_u32-count.result c.if-index-at.false c.if-index-at-2.false c.read_u32-count.ensures
    ∙ ap (λ (ws : List ℕ). Ok (Some ws)) (sym c.new.ensures)

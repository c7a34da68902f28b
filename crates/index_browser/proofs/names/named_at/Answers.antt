use Rattle.std.proofs.Common.{ℕ, List, Option, Some, Bor, sym, ap, ◌∙◌, arith}
use Rattle.gdb_index_format.specs.Named.{Named}
use Rattle.index_browser.proofs.ListedSlots.{vector_is_there, slot_is_listed}
use Rattle.index_browser.proofs.names.named_at.Goals as goal

pub unreachable-requires : goal.unreachable-requires
unreachable-requires c =
    vector_is_there c.args.index.now c.args.slot c.in-Some.taken c.in-Err.field-0 c.requires.passes (omega (arith, c.requires.within, c.requires.parts.slots)) c.in-Some.ensures.taken (c.in-Err.ensures {u = tt})

as_found : Named → Option Named
as_found n = Some n

pub returns : goal.returns
unfolding as_found
returns c =
    let vector = c.new.result.item in
    let name = c.in-Some-name_from.name in
    ap (λ (n : Bor (List ℕ)). as_found (record { name = n.now; words = vector })) c.new.ensures.name
    ∙ ap (λ (w : List ℕ). as_found (record { name = name.now; words = w })) c.new.ensures.item
    ∙ slot_is_listed c.args.index.now c.args.prefix.now c.args.slot c.in-Some.taken c.in-Some.ensures.taken name.now c.in-Ok.vector c.requires.passes (omega (arith, c.requires.within, c.requires.parts.slots)) (c.in-Some-name_from.ensures {u = tt}) (c.in-Ok.ensures {u = tt}) (sym c.starts_with.ensures.value ∙ c.if-not-starts_with.false)

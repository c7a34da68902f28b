use Rattle.std.proofs.Common.{rules, ◌∙◌}
use Rattle.std.proofs.lemmas.List.Sorted.{answers_always}
use Rattle.dwarf_sections.proofs.UnitSearching.{unit_searched}
use Rattle.dwarf_sections.proofs.unit_search.unit_with_offset.Goals as goal

pub returns : goal.returns
returns c =
    let facts = c.binary_search_by_key.ensures in
    let by_key = facts.position (λ u. u.offset) (answers_always _ _ _ (λ f a r g called. search rules)) in
    c.ok.ensures.value ∙ unit_searched c.args.units.now c.args.offset _ c.requires facts.bound by_key

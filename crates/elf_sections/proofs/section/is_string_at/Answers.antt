use Rattle.std.proofs.Common.{◌≡◌, ◌∙◌, ◌+◌, List, ℕ, length, take, drop, ap}
use Rattle.std.proofs.lemmas.List.{take_rest}
use Rattle.elf_format.specs.Bytes as bytes
use Rattle.elf_format.specs.Section.{is_name}
use Rattle.elf_sections.proofs.NameLemmas.{prefix_decides}
use Rattle.elf_sections.proofs.section.is_string_at.Goals as goal

pub returns-in-Some : goal.returns-in-Some
returns-in-Some c =
    let wanted = c.args.wanted.now in
    let tail_is : c.in-Some.tail.now ≡ drop c.args.offset c.args.strings.now = c.in-Some.ensures.lookup.0.2 ∙ take_rest c.args.strings.now c.args.offset in
    c.is_found.ensures ∙ ap (is_name wanted) c.string_at.ensures
    ∙ ap (λ (front : List ℕ). is_name wanted (bytes.string_at front 0)) (c.prefix_of.ensures ∙ ap (λ (tail : List ℕ). take (length wanted + 1) tail) tail_is)
    ∙ prefix_decides wanted c.args.strings.now c.args.offset

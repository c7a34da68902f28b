use Rattle.std.proofs.Common.{◌≡◌, Some, get_or, ap, ◌∙◌, arith}
use Rattle.std.specs.Option.{option_or}
use Rattle.elf_view.proofs.RelocationLemmas.{put_first_lem}
use Rattle.elf_view.proofs.relocation_sections.put_first.Goals as goal

pub returns-then-target-gt0-clause-entry : goal.returns-then-target-gt0-clause-entry
returns-then-target-gt0-clause-entry c =
    let v : c.or.result ≡ option_or (get_or c.args.first.now.items c.args.target c.index.result.now) (Some c.args.index) = c.or.ensures ∙ ap (λ x. option_or x (Some c.args.index)) c.index.ensures in
    λ i. rw v (put_first_lem c.args.first.now.items c.args.target c.args.index i c.index.result.now c.if-target-gt0.true (omega (arith, c.args.first.now.ok, c.requires)))

use Rattle.std.proofs.Common.{◌≡◌, ◌<◌, ◌∷◌, length, Some, sym, ap, ◌∙◌, rules, arith, option_map}
use Rattle.elf_frames.specs.steps.Chain.{chain_at}
use Rattle.elf_frames.proofs.Chaining.{chain_next, chain_shorter, previous_among}
use Rattle.elf_frames.proofs.chain.FrameChainIterator.next.Goals as goal

pub invariant_of-self : goal.invariant_of-self
invariant_of-self g c =
    let fs = c.self.inside.frames.now.frames in
    let h : c.in_ok-index.index.0 < length fs = search rules in
    previous_among fs c.in_ok-index.index.0 _ h c.previous-self-inside.ensures

pub returns-clause-steps : goal.returns-clause-steps
returns-clause-steps g c =
    let fs = c.self.inside.frames.now.frames in
    let h : c.in_ok-index.index.0 < length fs = search rules in
    let was : option_map (λ i. i.0) c.self.inside.next ≡ Some c.in_ok-index.index.0 = search rules in
    sym c.self.view_is ∙ ap (chain_at fs) was ∙ chain_next fs c.in_ok-index.index.0 h ∙ ap (λ o. c.in_ok-index.index.0 ∷ chain_at fs o) (sym c.previous-self-inside.ensures)

pub returns-clause-goes : goal.returns-clause-goes
returns-clause-goes g c =
    let fs = c.self.inside.frames.now.frames in
    let h : c.in_ok-index.index.0 < length fs = search rules in
    let was : option_map (λ i. i.0) c.self.inside.next ≡ Some c.in_ok-index.index.0 = search rules in
    let before = ap length (sym c.self.view_is ∙ ap (chain_at fs) was) in
    let shorter : length (chain_at fs (option_map (λ i. i.0) c.previous-self-inside.result)) < length c.args.self.now = omega (arith, before, chain_shorter fs c.in_ok-index.index.0 _ h c.previous-self-inside.ensures) in
    record { on = λ finite. (tt, tt, shorter); keeps = tt; rests = λ finite. tt }

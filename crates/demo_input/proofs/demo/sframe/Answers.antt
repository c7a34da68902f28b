-- One more contribution stands there; at the end all do.
use Rattle.std.proofs.Common.{◌≡◌, ℕ, ◌++◌, ap, ◌∙◌, arith}
use Rattle.std.specs.List.{flat_map, range_with_len}
use Rattle.demo_input.specs.Contribution.{numbered_contribution}
use Rattle.demo_input.specs.Generated.{demo_sframe}
use Rattle.demo_input.proofs.Appending.{pieces_more}
use Rattle.demo_input.proofs.demo.sframe.Goals as goal

pub loop-number-preserved : goal.loop-number-preserved
loop-number-preserved c =
    pieces_more (numbered_contribution c.args.count) c.loop-number.number c.loop-number.bytes.items c.extend_from_slice.new.self.items c.loop-number.invariant
    (c.in_ok-extend_from_slice.ensures.items ∙ ap (λ x. c.loop-number.bytes.items ++ x) c.contribution.ensures)

pub returns : goal.returns
unfolding demo_sframe
returns c =
    let all : c.loop-number.number ≡ c.args.count = omega arith in
    c.loop-number.invariant ∙ ap (λ (n : ℕ). flat_map (numbered_contribution c.args.count) (range_with_len 0 n)) all

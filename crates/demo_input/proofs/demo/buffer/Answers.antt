-- One more object stands there; at the end all do.
use Rattle.std.proofs.Common.{◌≡◌, ℕ, ap, ◌∙◌, arith}
use Rattle.std.specs.List.{flat_map, range_with_len}
use Rattle.demo_input.specs.Object.{numbered_object}
use Rattle.demo_input.specs.Generated.{demo_buffer}
use Rattle.demo_input.proofs.Appending.{pieces_more}
use Rattle.demo_input.proofs.demo.buffer.Goals as goal

pub loop-number-preserved : goal.loop-number-preserved
loop-number-preserved c = pieces_more numbered_object c.loop-number.number c.loop-number.bytes.items c.push_object.new.buffer.items c.loop-number.invariant c.in_ok-push_object.ensures

pub returns : goal.returns
unfolding demo_buffer
returns c =
    let all : c.loop-number.number ≡ c.args.count = omega arith in
    c.loop-number.invariant ∙ ap (λ (n : ℕ). flat_map numbered_object (range_with_len 0 n)) all

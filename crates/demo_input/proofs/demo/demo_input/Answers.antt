-- The parts are those of the number, and so the whole has tables.
use Rattle.std.proofs.Common.{ap, ◌∙◌, length}
use Rattle.demo_input.specs.declared.demo.DemoInput.{DemoInput}
use Rattle.demo_input.specs.Demo.{IsDemoInput}
use Rattle.demo_input.proofs.Validity.{demo_has_tables, demo_buffer_len, demo_object_count}
use Rattle.demo_input.proofs.demo.demo_input.Goals as goal

pub returns : goal.returns
returns c =
    let demo : DemoInput = record { buffer = c.in_ok-buffer.buffer; objects = c.in_ok-objects.objects; placements = c.in_ok-placements.placements; sframe = c.in_ok-sframe.sframe; ranges = c.in_ok-ranges.ranges } in
    let made : IsDemoInput c.args.count demo = record { buffer = c.in_ok-buffer.ensures; objects = c.in_ok-objects.ensures; placements = c.in_ok-placements.ensures; sframe = c.in_ok-sframe.ensures; ranges = c.in_ok-ranges.ensures } in
    record {
      made = made;
      valid = demo_has_tables c.args.count demo c.requires.few made;
      len = ap length c.in_ok-buffer.ensures ∙ demo_buffer_len c.args.count;
      count = ap length c.in_ok-objects.ensures ∙ demo_object_count c.args.count;
    }

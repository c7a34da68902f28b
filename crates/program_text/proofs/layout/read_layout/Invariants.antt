use Rattle.std.proofs.Common.{◌≡◌, ◌+◌, ◌≤◌, ◌++◌, false, length, map, is_some}
use Rattle.std.specs.List.{flat_map}
use Rattle.std.specs.Option.{option_or}
use Rattle.program_text.specs.Layout.{line_of, first_wrong, first_base, placements_in, ranges_in}
use Rattle.program_text.specs.Lines.{lines_of}
use Rattle.program_text.proofs.layout.read_layout.Given as goal

abbrev pub invariant-loop-rest : goal.invariant-loop-rest
invariant-loop-rest l = record {
  counted : l.number + length l.rest ≤ length l.text;
  same : first_wrong (is_some l.said.base) (l.number + 1) (map line_of (lines_of l.rest)) ≡ first_wrong false 1 (map line_of (lines_of l.text));
  placements : l.said.placements.items ++ flat_map placements_in (map line_of (lines_of l.rest)) ≡ flat_map placements_in (map line_of (lines_of l.text));
  ranges : l.said.ranges.items ++ flat_map ranges_in (map line_of (lines_of l.rest)) ≡ flat_map ranges_in (map line_of (lines_of l.text));
  base : option_or l.said.base (first_base (map line_of (lines_of l.rest))) ≡ first_base (map line_of (lines_of l.text));
}

abbrev pub decreases-loop-rest : goal.decreases-loop-rest
decreases-loop-rest l = length l.rest

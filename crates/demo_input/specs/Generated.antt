-- The input of a number: so many objects with their placements, and so many SFrame contributions.
use Rattle.std.specs.Prelude.{ℕ, ◌+◌, ◌*◌, List, map}
use Rattle.std.specs.List.{flat_map, range_with_len}
use Rattle.elf_format.specs.declared.index.Span.{Span}
use Rattle.gdb_index_format.specs.declared.placement.Placement.{Placement}
use Rattle.demo_input.specs.Object.{numbered_object, numbered_placement}
use Rattle.demo_input.specs.Contribution.{numbered_contribution}

-- the size of each object, and of each contribution
abbrev pub object_size : ℕ
object_size = 501

abbrev pub contribution_size : ℕ
contribution_size = 51

-- the span of a piece among pieces of one size, which follow one another
abbrev pub piece_span : ℕ → ℕ → Span
piece_span size number = record { start = size * number; stop = size * number + size }

-- the objects, one after another
unfoldable pub demo_buffer : ℕ → List ℕ
demo_buffer count = flat_map numbered_object (range_with_len 0 count)

abbrev pub demo_objects : ℕ → List Span
demo_objects count = map (piece_span object_size) (range_with_len 0 count)

abbrev pub demo_placements : ℕ → List Placement
demo_placements count = map numbered_placement (range_with_len 0 count)

-- the contributions, one after another
unfoldable pub demo_sframe : ℕ → List ℕ
demo_sframe count = flat_map (numbered_contribution count) (range_with_len 0 count)

abbrev pub demo_ranges : ℕ → List Span
demo_ranges count = map (piece_span contribution_size) (range_with_len 0 count)

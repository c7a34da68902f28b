-- The input of a number up to 1000 has tables.
use Rattle.std.specs.Prelude.{◌≡◌, ℕ, ◌*◌, ◌≤◌, length, map, codes}
use Rattle.std.specs.List.{flat_map, range_with_len}
use Rattle.elf_format.specs.declared.architecture.Architecture.TheVariants.{X86_64}
use Rattle.gdb_index_format.specs.declared.version.IndexVersion.{IndexVersion}
use Rattle.gdb_index_format.specs.Objects.{AreObjectsOf}
use Rattle.gdb_index_format.specs.Published.{units_of_all, published, elements_in_order}
use Rattle.derivation.specs.Input.{Input, input_of}
use Rattle.derivation.specs.Objects.{objects_of}
use Rattle.derivation.specs.Valid.{IsValid}
use Rattle.demo_input.specs.Object.{numbered_holding, numbered_pairs}
use Rattle.demo_input.specs.Generated.{object_size, demo_buffer, demo_objects, demo_placements, demo_sframe, demo_ranges}

-- the input of a number, for an index of a version
abbrev pub demo_given : IndexVersion → ℕ → Input
demo_given version count = input_of X86_64 (demo_buffer count) (demo_objects count) (demo_placements count) (demo_sframe count) (demo_ranges count) version

-- it is valid, for an index of each version
abbrev pub DemoIsValid : Type 0
DemoIsValid = (version : IndexVersion) (count : ℕ) → count ≤ 1000 → IsValid (demo_given version count)

-- How large it is, and what it holds: one unit in each object, which publishes a name of its own and `common`.
pub record HoldsNumbered (count : ℕ) : Type 0 where
  pub len : length (demo_buffer count) ≡ object_size * count
  pub objects : length (demo_objects count) ≡ count
  pub held : AreObjectsOf (objects_of (demo_buffer count) (demo_objects count)) (map numbered_holding (range_with_len 0 count))
  pub units : length (units_of_all (map numbered_holding (range_with_len 0 count))) ≡ count
  pub pairs : published (map numbered_holding (range_with_len 0 count)) ≡ flat_map numbered_pairs (range_with_len 0 count)
  pub common : length (elements_in_order (codes "common") (published (map numbered_holding (range_with_len 0 count)))) ≡ count

abbrev pub DemoHoldsNumbered : Type 0
DemoHoldsNumbered = (count : ℕ) → HoldsNumbered count

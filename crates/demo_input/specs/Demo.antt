-- The input that is made for a number.
use Rattle.std.specs.Prelude.{◌≡◌, ℕ}
use Rattle.elf_format.specs.declared.architecture.Architecture.TheVariants.{X86_64}
use Rattle.gdb_index_format.specs.declared.version.IndexVersion.{IndexVersion}
use Rattle.derivation.specs.Input.{Input, input_of}
use Rattle.derivation.specs.Valid.{IsValid}
use Rattle.demo_input.specs.declared.demo.DemoInput.{DemoInput}
use Rattle.demo_input.specs.Generated.{demo_buffer, demo_objects, demo_placements, demo_sframe, demo_ranges}

-- the objects, placements and contributions of the number
pub record IsDemoInput (count : ℕ) (demo : DemoInput) : Type 0 where
  pub buffer : demo.buffer.items ≡ demo_buffer count
  pub objects : demo.objects.items ≡ demo_objects count
  pub placements : demo.placements.items ≡ demo_placements count
  pub sframe : demo.sframe.items ≡ demo_sframe count
  pub ranges : demo.ranges.items ≡ demo_ranges count

-- what tables of a version of the index are derived from
abbrev pub input_of_demo : IndexVersion → DemoInput → Input
input_of_demo version demo = input_of X86_64 demo.buffer.items demo.objects.items demo.placements.items demo.sframe.items demo.ranges.items version

-- it is valid, for an index of each version
abbrev pub IsValidDemo : DemoInput → Type 0
IsValidDemo demo = (version : IndexVersion) → IsValid (input_of_demo version demo)

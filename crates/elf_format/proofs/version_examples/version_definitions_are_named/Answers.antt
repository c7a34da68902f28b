-- The definitions compute.
use Rattle.std.proofs.Common.{refl}
use Rattle.elf_format.specs.Bytes.{le, string_at}
use Rattle.elf_format.specs.VersionName.{defined_versions, version_names}
use Rattle.elf_format.proofs.version_examples.version_definitions_are_named.Goals as goal

pub returns : goal.returns
unfolding le string_at defined_versions version_names
returns c = record { by_index = refl; last_wins = refl; no_definition = refl; above = refl; no_name = refl; cut_name = refl; no_string = refl; cut_chain = refl }

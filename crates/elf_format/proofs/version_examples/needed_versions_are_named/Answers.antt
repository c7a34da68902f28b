-- The definitions compute.
use Rattle.std.proofs.Common.{refl}
use Rattle.elf_format.specs.Bytes.{le, string_at}
use Rattle.elf_format.specs.VersionName.{needed_versions, needed_names}
use Rattle.elf_format.proofs.version_examples.needed_versions_are_named.Goals as goal

pub returns : goal.returns
unfolding le string_at needed_versions needed_names
returns c = record { by_symbol = refl; cut_chain = refl; no_string = refl }

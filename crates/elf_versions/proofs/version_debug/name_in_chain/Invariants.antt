use Rattle.std.proofs.Common.{◌≡◌, Ok, None}
use Rattle.elf_format.specs.VersionName.{needed_name_or}
use Rattle.elf_versions.proofs.version_debug.name_in_chain.Given as goal

abbrev pub invariant-loop-version : goal.invariant-loop-version
invariant-loop-version l = needed_name_or l.strings l.index l.version-iterator (Ok None) ≡ needed_name_or l.strings l.index l.fn.versions (Ok None)

use Rattle.std.proofs.Common.{◌≡◌}
use Rattle.elf_format.specs.VersionName.{needed_name}
use Rattle.elf_versions.proofs.version_debug.find_needed.Given as goal

abbrev pub invariant-loop-need : goal.invariant-loop-need
invariant-loop-need l = needed_name l.strings l.index l.need-iterator ≡ needed_name l.strings l.index l.fn.needs

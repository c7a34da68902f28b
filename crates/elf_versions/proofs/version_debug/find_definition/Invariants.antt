use Rattle.std.proofs.Common.{◌≡◌}
use Rattle.elf_format.specs.VersionName.{definition_name}
use Rattle.elf_versions.proofs.version_debug.find_definition.Given as goal

abbrev pub invariant-loop-definition : goal.invariant-loop-definition
invariant-loop-definition l = definition_name l.strings l.index l.definition-iterator ≡ definition_name l.strings l.index l.fn.definitions

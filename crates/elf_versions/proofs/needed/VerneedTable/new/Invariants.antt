use Rattle.std.proofs.Common.{◌≡◌}
use Rattle.elf_format.specs.Chain.{on_ok}
use Rattle.elf_format.specs.Version.{version_index}
use Rattle.elf_format.specs.VersionName.{needed_versions, needed_names}
use Rattle.elf_versions.specs.steps.Names.{names_after}
use Rattle.elf_versions.proofs.needed.VerneedTable.new.Given as goal

abbrev pub invariant-loop-need : goal.invariant-loop-need
invariant-loop-need l =
    on_ok (names_after version_index l.versyms l.names) (needed_versions l.strings l.need-iterator) ≡ needed_names l.versyms l.strings l.fn.needs

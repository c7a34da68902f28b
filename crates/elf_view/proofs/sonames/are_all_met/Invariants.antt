use Rattle.std.proofs.Common.{◌≡◌}
use Rattle.std.specs.List.{list_all}
use Rattle.elf_format.specs.Dynamic.{is_met}
use Rattle.elf_view.specs.Sonames.{is_one_of}
use Rattle.elf_view.proofs.sonames.are_all_met.Given as goal

abbrev pub invariant-loop-entry : goal.invariant-loop-entry
invariant-loop-entry g l = list_all (is_met g.C.ElfClass.class l.strings (is_one_of l.names)) l.entries ≡ list_all (is_met g.C.ElfClass.class l.strings (is_one_of l.names)) l.entry-iterator

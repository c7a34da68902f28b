use Rattle.std.proofs.Common.{◌≡◌}
use Rattle.std.specs.Option.{option_or}
use Rattle.elf_format.specs.Dynamic.{last_value}
use Rattle.elf_view.proofs.dynamic.last_value.Given as goal

abbrev pub invariant-loop-entry : goal.invariant-loop-entry
invariant-loop-entry g l = last_value g.C.ElfClass.class l.tag l.entries ≡ option_or (last_value g.C.ElfClass.class l.tag l.entry-iterator) l.last

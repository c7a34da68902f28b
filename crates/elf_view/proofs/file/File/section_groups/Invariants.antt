use Rattle.std.proofs.Common.{◌≡◌, ◌+◌, ◌<◌, ◌^◌, length, ◌++◌, ◌==◌, map}
use Rattle.std.specs.List.{enumerate_from, filter}
use Rattle.elf_format.specs.Bytes.{get}
use Rattle.elf_format.specs.Chain.{each_ok, on_ok}
use Rattle.elf_format.specs.Class.{sh_type}
use Rattle.elf_format.specs.Group.{section_group, groups}
use Rattle.elf_format.specs.SectionType.{sht_group}
use Rattle.elf_view.specs.GroupFault.{shown_group}
use Rattle.elf_view.proofs.file.File.section_groups.Given as goal

abbrev pub invariant-loop-index : goal.invariant-loop-index
invariant-loop-index g l =
    (l.index + length l.header-iterator < 2 ^ 64)
    × (groups g.C.ElfClass.class l.self.is_dynamic l.self.bytes
    ≡ on_ok (λ after. map shown_group l.groups.items ++ after) (each_ok (section_group g.C.ElfClass.class l.self.is_dynamic l.self.bytes) (filter (λ s. get (sh_type g.C.ElfClass.class) s.1 == sht_group) (enumerate_from l.index l.header-iterator))))

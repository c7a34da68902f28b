use Rattle.std.proofs.Common.{◌≡◌, [], refl}
use Rattle.elf_format.specs.Class.{Class, class32, class64}
use Rattle.elf_format.specs.Rela.{rela_list}
use Rattle.elf_view.specs.Relocation.{listed_rela, listed_none}
use Rattle.elf_view.proofs.relocation_list.no_relocations.Goals as goal

no_records : (c : Class) → listed_rela (rela_list c []) ≡ listed_none
unfolding rela_list
no_records class32 = refl
no_records class64 = refl

pub returns : goal.returns
returns g c = rw (no_records g.C.ElfClass.class) at c.list_of_records.ensures

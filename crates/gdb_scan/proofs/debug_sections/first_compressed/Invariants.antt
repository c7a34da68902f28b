use Rattle.std.proofs.Common.{◌≡◌, ◌&&◌, option_map, drop}
use Rattle.std.specs.Prelude.{find}
use Rattle.std.specs.List.{enumerate_from}
use Rattle.elf_format.specs.Bytes.{get}
use Rattle.elf_format.specs.Class.{sh_flags}
use Rattle.elf_format.specs.Flags.{has_flag, shf_compressed}
use Rattle.elf_format.specs.Section.{sections}
use Rattle.gdb_index_format.specs.Objects as objects
use Rattle.gdb_scan.proofs.debug_sections.first_compressed.Given as goal

abbrev pub invariant-loop-index : goal.invariant-loop-index
invariant-loop-index g l =
    (drop l.index-iterator.count (sections g.C.ElfClass.class l.file.bytes) ≡ l.index-iterator.iter)
    × (objects.first_compressed g.C.ElfClass.class l.file.bytes
    ≡ option_map (λ s. s.0) (find (λ s. objects.is_read g.C.ElfClass.class l.file.bytes s && has_flag (get (sh_flags g.C.ElfClass.class) s.1) shf_compressed) (enumerate_from l.index-iterator.count l.index-iterator.iter)))

use Rattle.std.proofs.Common.{◌≡◌, ◌==◌}
use Rattle.std.specs.List.{find}
use Rattle.elf_format.specs.Bytes.{get}
use Rattle.elf_format.specs.Class.{sh_type}
use Rattle.elf_view.proofs.dynamic.first_of_type.Given as goal

abbrev pub invariant-loop-header : goal.invariant-loop-header
invariant-loop-header g l =
    find (λ header. get (sh_type g.H.SectionHeaderFields.class) header == l.section_type) l.headers
    ≡ find (λ header. get (sh_type g.H.SectionHeaderFields.class) header == l.section_type) l.header-iterator

use Rattle.std.proofs.Common.{◌≡◌, ℕ, ◌+◌, ◌<◌, ◌^◌, length, vec_len}
use Rattle.std.specs.List.{list_all, position_from}
use Rattle.std.specs.Prelude.{position}
use Rattle.std.specs.Option.{option_or}
use Rattle.elf_format.specs.Section.{sections}
use Rattle.elf_view.specs.Relocation.{relocates_section, has_target, relocation_entry, all_have_targets}
use Rattle.elf_view.proofs.relocation_sections.RelocationSections.gather.Given as goal

abbrev pub invariant-loop-index : goal.invariant-loop-index
invariant-loop-index g l =
    (vec_len l.first ≡ l.count)
    × (l.index + length l.header-iterator < 2 ^ 64)
    × (all_have_targets g.H.SectionHeaderFields.class l.bytes l.table ≡ list_all (has_target g.H.SectionHeaderFields.class l.table l.count) l.header-iterator)
    × ((target : ℕ) → option_or (relocation_entry l.first.items target) (position_from (relocates_section g.H.SectionHeaderFields.class l.table target) l.index l.header-iterator) ≡ position (relocates_section g.H.SectionHeaderFields.class l.table target) (sections g.H.SectionHeaderFields.class l.bytes))

-- The definitions compute.
use Rattle.std.proofs.Common.{refl}
use Rattle.elf_format.specs.Bytes.{le, string_at}
use Rattle.elf_format.specs.Section.{section_count, name_table_index, sections, section_bytes, name_table}
use Rattle.elf_format.specs.Symbol.{symbol_table, index_table, symbols, linked_strings, symbol_strings, symbol_name, section_indexes, section_of_symbol}
use Rattle.elf_format.specs.Fault.{has_header, has_machine, has_section_headers, has_symbols, has_versions, fault}
use Rattle.elf_format.specs.Group.{section_group, groups}
use Rattle.elf_format.proofs.view_examples.groups_are_found.Goals as goal

pub returns : goal.returns
unfolding le string_at section_count name_table_index sections section_bytes name_table symbol_table index_table symbols linked_strings symbol_strings symbol_name section_indexes section_of_symbol has_header has_machine has_section_headers has_symbols has_versions fault section_group groups
returns c = record { fault = refl; found = refl; no_member = refl; no_symbol = refl; other_table = refl; half = refl; empty = refl; flags = refl; null_section = refl; itself = refl; none_such = refl; no_flag = refl }

-- The definitions compute.
use Rattle.std.proofs.Common.{refl}
use Rattle.elf_format.specs.Bytes.{le, string_at}
use Rattle.elf_format.specs.Section.{section_count, name_table_index, sections, section_bytes, name_table}
use Rattle.elf_format.specs.Symbol.{symbol_table, index_table, symbols, linked_strings, symbol_strings, symbol_name, section_indexes, section_of_symbol}
use Rattle.elf_format.specs.Fault.{has_header, has_machine, has_section_headers, has_symbols, has_versions, fault}
use Rattle.elf_format.specs.Dynamic.{dynamic_entries, own_name}
use Rattle.elf_format.proofs.view_examples.dynamic_entries_are_found.Goals as goal

pub returns : goal.returns
unfolding le string_at section_count name_table_index sections section_bytes name_table symbol_table index_table symbols linked_strings symbol_strings symbol_name section_indexes section_of_symbol has_header has_machine has_section_headers has_symbols has_versions fault dynamic_entries own_name
returns c = record { fault = refl; strings = refl; found = refl; half = refl; last = refl; name = refl; no_name = refl; known = refl; unknown = refl; refused = refl }

-- The definitions compute.
use Rattle.std.proofs.Common.{refl}
use Rattle.elf_format.specs.Bytes.{le}
use Rattle.elf_format.specs.Section.{section_count, name_table_index, sections, section_bytes, name_table}
use Rattle.elf_format.specs.Symbol.{symbol_table, index_table, symbols, section_indexes, section_of_symbol}
use Rattle.elf_format.specs.Fault.{has_header, has_machine, has_section_headers, has_symbols, has_versions, fault}
use Rattle.elf_format.proofs.examples.symbols_and_versions_are_found.Goals as goal

pub returns : goal.returns
unfolding le section_count name_table_index sections section_bytes name_table symbol_table index_table symbols section_indexes section_of_symbol has_header has_machine has_section_headers has_symbols has_versions fault
returns c = record { size = refl; fault = refl; count = refl; of_section = refl; absolute = refl; no_index = refl; no_strings = refl; half_version = refl; is_dynamic = refl }

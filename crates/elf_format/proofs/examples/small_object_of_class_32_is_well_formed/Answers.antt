-- The definitions compute.
use Rattle.std.proofs.Common.{refl}
use Rattle.elf_format.specs.Bytes.{le, string_at}
use Rattle.elf_format.specs.Section.{section_count, name_table_index, sections, section_bytes, name_table, section_name, section_of_name}
use Rattle.elf_format.specs.Fault.{has_header, has_machine, has_section_headers, has_symbols, has_versions, fault}
use Rattle.elf_format.proofs.examples.small_object_of_class_32_is_well_formed.Goals as goal

pub returns : goal.returns
unfolding le section_count name_table_index sections section_bytes string_at name_table section_name section_of_name has_header has_machine has_section_headers has_symbols has_versions fault
returns c = record { size = refl; fault = refl; code = refl; other_class = refl; no_class = refl; other_machine = refl }

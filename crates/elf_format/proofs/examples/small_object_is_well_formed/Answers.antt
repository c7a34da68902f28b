-- The definitions compute.
use Rattle.std.proofs.Common.{refl}
use Rattle.elf_format.specs.Bytes.{le, string_at}
use Rattle.elf_format.specs.Section.{section_count, name_table_index, sections, section_bytes, name_table, section_name, section_of_name}
use Rattle.elf_format.specs.Fault.{has_header, has_machine, has_section_headers, has_symbols, has_versions, fault}
use Rattle.elf_format.proofs.examples.small_object_is_well_formed.Goals as goal

pub returns-clause-size : goal.returns-clause-size
returns-clause-size c = refl

pub returns-clause-fault : goal.returns-clause-fault
unfolding le section_count name_table_index sections section_bytes name_table has_header has_machine has_section_headers has_symbols has_versions fault
returns-clause-fault c = refl

pub returns-clause-count : goal.returns-clause-count
unfolding le section_count
returns-clause-count c = refl

pub returns-clause-code : goal.returns-clause-code
unfolding le section_count name_table_index sections section_bytes string_at name_table section_name section_of_name
returns-clause-code c = refl

pub returns-clause-cut_off : goal.returns-clause-cut_off
unfolding le section_count name_table_index sections section_bytes name_table has_header has_machine has_section_headers has_symbols has_versions fault
returns-clause-cut_off c = refl

pub returns-clause-other_class : goal.returns-clause-other_class
unfolding has_header fault
returns-clause-other_class c = refl

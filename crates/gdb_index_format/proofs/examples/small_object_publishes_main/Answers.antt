-- The definitions compute.
use Rattle.std.proofs.Common.{[], ◌∷◌, refl}
use Rattle.elf_format.specs.Bytes.{le, string_at}
use Rattle.elf_format.specs.Example.{unit, set_of_main}
use Rattle.elf_format.specs.Section.{section_count, name_table_index, sections, section_bytes, name_table, section_name, section_of_name}
use Rattle.gdb_index_format.proofs.SmallLists.{the_set, one_set_of_main, one_unit}
use Rattle.gdb_index_format.proofs.examples.small_object_publishes_main.Goals as goal

pub returns-clause-section : goal.returns-clause-section
unfolding le section_count name_table_index sections section_bytes string_at name_table section_name section_of_name
returns-clause-section c = refl

pub returns-clause-info : goal.returns-clause-info
unfolding le section_count name_table_index sections section_bytes string_at name_table section_name section_of_name
returns-clause-info c = refl

pub returns-clause-plain : goal.returns-clause-plain
unfolding le section_count name_table_index sections section_bytes string_at name_table section_name section_of_name
returns-clause-plain c = refl

pub returns-clause-object : goal.returns-clause-object
unfolding le section_count name_table_index sections section_bytes string_at name_table section_name section_of_name
returns-clause-object c = record { units = record { bytes = unit; there = refl; list = one_unit }; sets = (the_set ∷ [], [], refl, record { bytes = set_of_main; there = refl; list = one_set_of_main }, refl) }

-- The definitions compute.
use Rattle.std.proofs.Common.{refl}
use lib.Count.{ones}
use Rattle.elf_format.specs.Bytes.{le, string_at}
use Rattle.gdb_index_format.specs.Slots.{slot_of}
use Rattle.gdb_index_format.specs.Version.{header_len, pool_field}
use Rattle.gdb_index_format.specs.Probe.{table_at, pool_at, slot_count, are_in_order, is_table, index_fault, vector_at, step_in, probe_from, probe}
use Rattle.gdb_index_format.proofs.examples.faulty_versions.Goals as goal

pub returns-clause-short : goal.returns-clause-short
unfolding le string_at probe index_fault are_in_order is_table slot_count pool_at table_at probe_from step_in slot_of vector_at ones header_len pool_field
returns-clause-short c = refl

pub returns-clause-unknown : goal.returns-clause-unknown
unfolding le string_at probe index_fault are_in_order is_table slot_count pool_at table_at probe_from step_in slot_of vector_at ones header_len pool_field
returns-clause-unknown c = refl

pub returns-clause-short_8 : goal.returns-clause-short_8
unfolding le string_at probe index_fault are_in_order is_table slot_count pool_at table_at probe_from step_in slot_of vector_at ones header_len pool_field
returns-clause-short_8 c = refl

pub returns-clause-offsets_8 : goal.returns-clause-offsets_8
unfolding le string_at probe index_fault are_in_order is_table slot_count pool_at table_at probe_from step_in slot_of vector_at ones header_len pool_field
returns-clause-offsets_8 c = refl

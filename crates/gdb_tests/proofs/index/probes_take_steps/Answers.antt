-- The definitions compute.
use Rattle.std.proofs.Common.{refl}
use lib.Count.{ones}
use Rattle.elf_format.specs.Bytes.{le, string_at}
use Rattle.gdb_index_format.specs.Slots.{slot_of}
use Rattle.gdb_index_format.specs.Version.{header_len, pool_field}
use Rattle.gdb_index_format.specs.Probe.{table_at, pool_at, slot_count, are_in_order, is_table, index_fault, vector_at, step_in, probe_from, probe}
use Rattle.gdb_tests.proofs.index.probes_take_steps.Goals as goal

pub returns-clause-first : goal.returns-clause-first
unfolding le string_at probe index_fault are_in_order is_table slot_count pool_at table_at probe_from step_in slot_of vector_at ones header_len pool_field
returns-clause-first c = refl

pub returns-clause-second : goal.returns-clause-second
unfolding le string_at probe index_fault are_in_order is_table slot_count pool_at table_at probe_from step_in slot_of vector_at ones header_len pool_field
returns-clause-second c = refl

pub returns-clause-absent : goal.returns-clause-absent
unfolding le string_at probe index_fault are_in_order is_table slot_count pool_at table_at probe_from step_in slot_of vector_at ones header_len pool_field
returns-clause-absent c = refl

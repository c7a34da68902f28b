-- The definitions compute.
use Rattle.std.proofs.Common.{refl}
use lib.Count.{ones}
use Rattle.elf_format.specs.Bytes.{le, string_at}
use Rattle.gdb_index_format.specs.Slots.{slot_of}
use Rattle.gdb_index_format.specs.Units.{index_units}
use Rattle.gdb_index_format.specs.Version.{header_len, pool_field}
use Rattle.gdb_index_format.specs.Probe.{table_at, pool_at, slot_count, are_in_order, is_table, index_fault, vector_at, step_in, probe_from, probe}
use Rattle.index_browser.specs.Areas.{index_addresses}
use Rattle.index_merge.proofs.examples.main_twice.Goals as goal

pub returns-clause-units : goal.returns-clause-units
unfolding le string_at probe index_fault are_in_order is_table slot_count pool_at table_at probe_from step_in slot_of vector_at ones header_len pool_field index_units index_addresses
returns-clause-units c = refl

pub returns-clause-addresses : goal.returns-clause-addresses
unfolding le string_at probe index_fault are_in_order is_table slot_count pool_at table_at probe_from step_in slot_of vector_at ones header_len pool_field index_units index_addresses
returns-clause-addresses c = refl

pub returns-clause-elements : goal.returns-clause-elements
unfolding le string_at probe index_fault are_in_order is_table slot_count pool_at table_at probe_from step_in slot_of vector_at ones header_len pool_field index_units index_addresses
returns-clause-elements c = refl

pub returns-clause-absent : goal.returns-clause-absent
unfolding le string_at probe index_fault are_in_order is_table slot_count pool_at table_at probe_from step_in slot_of vector_at ones header_len pool_field index_units index_addresses
returns-clause-absent c = refl

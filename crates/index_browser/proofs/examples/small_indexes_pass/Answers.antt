-- The definitions compute.
use Rattle.std.proofs.Common.{refl}
use lib.Count.{ones}
use Rattle.elf_format.specs.Bytes.{le, string_at}
use Rattle.gdb_index_format.specs.Slots.{slot_of}
use Rattle.gdb_index_format.specs.Units.{index_units}
use Rattle.gdb_index_format.specs.Version.{header_len, pool_field}
use Rattle.gdb_index_format.specs.Probe.{table_at, pool_at, slot_count, are_in_order, is_table, index_fault, vector_at, step_in, probe_from, probe}
use Rattle.index_browser.specs.Areas.{index_addresses}
use Rattle.index_browser.specs.Stored.{stored_in, last_slot}
use Rattle.index_browser.specs.Fault.{short_fault, format_fault, types_fault, units_fault, area_fault, stored_fault, order_fault, browse_fault}
use Rattle.index_browser.proofs.examples.small_indexes_pass.Goals as goal

pub returns-clause-empty : goal.returns-clause-empty
unfolding le string_at probe index_fault are_in_order is_table slot_count pool_at table_at probe_from step_in slot_of vector_at ones header_len pool_field index_units index_addresses stored_in last_slot short_fault format_fault types_fault units_fault area_fault stored_fault order_fault browse_fault
returns-clause-empty c = refl

pub returns-clause-version_9 : goal.returns-clause-version_9
unfolding le string_at probe index_fault are_in_order is_table slot_count pool_at table_at probe_from step_in slot_of vector_at ones header_len pool_field index_units index_addresses stored_in last_slot short_fault format_fault types_fault units_fault area_fault stored_fault order_fault browse_fault
returns-clause-version_9 c = refl

pub returns-clause-version_8 : goal.returns-clause-version_8
unfolding le string_at probe index_fault are_in_order is_table slot_count pool_at table_at probe_from step_in slot_of vector_at ones header_len pool_field index_units index_addresses stored_in last_slot short_fault format_fault types_fault units_fault area_fault stored_fault order_fault browse_fault
returns-clause-version_8 c = refl

pub returns-clause-stored : goal.returns-clause-stored
unfolding le string_at probe index_fault are_in_order is_table slot_count pool_at table_at probe_from step_in slot_of vector_at ones header_len pool_field index_units index_addresses stored_in last_slot short_fault format_fault types_fault units_fault area_fault stored_fault order_fault browse_fault
returns-clause-stored c = refl

pub returns-clause-found_there : goal.returns-clause-found_there
unfolding le string_at probe index_fault are_in_order is_table slot_count pool_at table_at probe_from step_in slot_of vector_at ones header_len pool_field index_units index_addresses stored_in last_slot short_fault format_fault types_fault units_fault area_fault stored_fault order_fault browse_fault
returns-clause-found_there c = refl

pub returns-clause-addresses : goal.returns-clause-addresses
unfolding le string_at probe index_fault are_in_order is_table slot_count pool_at table_at probe_from step_in slot_of vector_at ones header_len pool_field index_units index_addresses stored_in last_slot short_fault format_fault types_fault units_fault area_fault stored_fault order_fault browse_fault
returns-clause-addresses c = refl

use Rattle.std.proofs.Common.{◌≡◌, ℕ, ◌-◌, ◌*◌, List, length, subst, sym, ap, ◌++◌, ◌∙◌, arith}
use Rattle.std.specs.Prelude.{replicate}
use Rattle.std.specs.List.{flat_map}
use Rattle.std.proofs.lemmas.List.{length-replicate}
use Rattle.gdb_index_format.specs.declared.unit.CuBoundary.{CuBoundary}
use Rattle.gdb_index_format.specs.declared.placement.AddressEntry.{AddressEntry}
use Rattle.gdb_index_format.specs.Slots.{IsSlotCount}
use Rattle.gdb_index_format.specs.Named.{Named, named, all_named}
use Rattle.gdb_index_format.specs.Version.{version_number, shortcut_len}
use Rattle.gdb_index.proofs.Versions.{number_is_known, length-header}
use Rattle.gdb_index_format.specs.declared.version.IndexVersion.{IndexVersion}
use Rattle.gdb_index.specs.Size.{IsIndexSize, scan_counts}
use Rattle.gdb_index.specs.Scan.{Scan}
use Rattle.gdb_index.specs.Table.{Slot, table_bytes}
use Rattle.gdb_index.specs.Filled.{IsFilled}
use Rattle.gdb_index.specs.Layout.{header_numbers, u32s_bytes, unit_bytes, address_bytes, vector_bytes, name_bytes, AreUnits, IsLayoutOf}
use Rattle.gdb_index.proofs.Lengths.{length-units, length-addresses, length-vectors, length-names}
use Rattle.gdb_index.proofs.SlotLists.{length-table}
use Rattle.gdb_index.proofs.Rooms.{room_held}
use Rattle.gdb_index.proofs.Extending.{Extends-same, eight_parts}
use Rattle.gdb_index.proofs.Indexes.{answered, answers, lists_units}
use Rattle.gdb_index.proofs.Headline.{answers_all}
use Rattle.gdb_index.proofs.writer.write_gdb_index.Goals as goal

-- the layout, from the units and names as they are held to those of the scan
index_is : (v : ℕ) (s : Scan) (units : List CuBoundary) (ns : List Named) (xs : List AddressEntry) (b : List ℕ) (slots saved : ℕ) (table : List Slot) → units ≡ s.units → ns ≡ s.names → IsSlotCount (length ns) slots → IsFilled table slots ns → b ≡ u32s_bytes (header_numbers v (length units) (length xs) slots) ++ flat_map unit_bytes units ++ flat_map address_bytes xs ++ table_bytes table ++ replicate (shortcut_len v) 0 ++ flat_map vector_bytes ns ++ flat_map name_bytes ns ++ replicate saved 0 → IsLayoutOf v s xs b
index_is v s units ns xs b slots saved table us named counts filled bytes = record {
  slots = slots;
  counted = subst (λ (n : List Named). IsSlotCount (length n) slots) named counts;
  table = table;
  filled = subst (λ n. IsFilled table slots n) named filled;
  saved = saved;
  bytes_are = bytes
      ∙ ap (λ (u : List CuBoundary). u32s_bytes (header_numbers v (length u) (length xs) slots) ++ flat_map unit_bytes u ++ flat_map address_bytes xs ++ table_bytes table ++ replicate (shortcut_len v) 0 ++ flat_map vector_bytes ns ++ flat_map name_bytes ns ++ replicate saved 0) us
      ∙ ap (λ (n : List Named). u32s_bytes (header_numbers v (length s.units) (length xs) slots) ++ flat_map unit_bytes s.units ++ flat_map address_bytes xs ++ table_bytes table ++ replicate (shortcut_len v) 0 ++ flat_map vector_bytes n ++ flat_map name_bytes n ++ replicate saved 0) named;
}

size_of : (version : IndexVersion) (v : ℕ) (s : Scan) (size : ℕ) → v ≡ version_number version → IsIndexSize (version_number version) (scan_counts s) size → IsIndexSize v (scan_counts s) size
size_of version v s size is h = subst (λ n. IsIndexSize n (scan_counts s) size) (sym is) h

pub append_table-at-requires-clause-room : goal.append_table-at-requires-clause-room
append_table-at-requires-clause-room c =
    let room = room_held c.number_of-version.result c.args.scan.now c.units-units.result.now c.names-names.result.now (length c.args.addresses.now) c.compute_hash_table_slots-slots.result (length c.args.buf.now) c.units-units.ensures.units c.names-names.ensures.names c.compute_hash_table_slots-slots.ensures (size_of c.args.version c.number_of-version.result c.args.scan.now (length c.args.buf.now) c.number_of-version.ensures c.requires.size) c.requires.some c.requires.addresses in
    omega (arith, room.parts, c.append_header-at.ensures.extends.same_len, c.append_units-at.ensures.extends.same_len, c.append_addresses-at.ensures.extends.same_len, c.append_header-at.ensures.end, c.append_units-at.ensures.end, c.append_addresses-at.ensures.end)

pub append_table-at-requires-clause-small : goal.append_table-at-requires-clause-small
append_table-at-requires-clause-small c =
    let room = room_held c.number_of-version.result c.args.scan.now c.units-units.result.now c.names-names.result.now (length c.args.addresses.now) c.compute_hash_table_slots-slots.result (length c.args.buf.now) c.units-units.ensures.units c.names-names.ensures.names c.compute_hash_table_slots-slots.ensures (size_of c.args.version c.number_of-version.result c.args.scan.now (length c.args.buf.now) c.number_of-version.ensures c.requires.size) c.requires.some c.requires.addresses in
    omega (arith, room.parts, c.requires.small)

pub append_table-at-requires-clause-fits : goal.append_table-at-requires-clause-fits
append_table-at-requires-clause-fits c =
    let room = room_held c.number_of-version.result c.args.scan.now c.units-units.result.now c.names-names.result.now (length c.args.addresses.now) c.compute_hash_table_slots-slots.result (length c.args.buf.now) c.units-units.ensures.units c.names-names.ensures.names c.compute_hash_table_slots-slots.ensures (size_of c.args.version c.number_of-version.result c.args.scan.now (length c.args.buf.now) c.number_of-version.ensures c.requires.size) c.requires.some c.requires.addresses in
    omega (arith, room.parts, c.requires.small)

pub append_zeros-at-requires : goal.append_zeros-at-requires
append_zeros-at-requires c =
    let room = room_held c.number_of-version.result c.args.scan.now c.units-units.result.now c.names-names.result.now (length c.args.addresses.now) c.compute_hash_table_slots-slots.result (length c.args.buf.now) c.units-units.ensures.units c.names-names.ensures.names c.compute_hash_table_slots-slots.ensures (size_of c.args.version c.number_of-version.result c.args.scan.now (length c.args.buf.now) c.number_of-version.ensures c.requires.size) c.requires.some c.requires.addresses in
    omega (arith, room.parts, c.append_header-at.ensures.extends.same_len, c.append_units-at.ensures.extends.same_len, c.append_addresses-at.ensures.extends.same_len, c.append_table-at.ensures.extends.extends.same_len, c.append_header-at.ensures.end, c.append_units-at.ensures.end, c.append_addresses-at.ensures.end, c.append_table-at.ensures.end)

pub append_vectors-at-requires-clause-room : goal.append_vectors-at-requires-clause-room
append_vectors-at-requires-clause-room c =
    let room = room_held c.number_of-version.result c.args.scan.now c.units-units.result.now c.names-names.result.now (length c.args.addresses.now) c.compute_hash_table_slots-slots.result (length c.args.buf.now) c.units-units.ensures.units c.names-names.ensures.names c.compute_hash_table_slots-slots.ensures (size_of c.args.version c.number_of-version.result c.args.scan.now (length c.args.buf.now) c.number_of-version.ensures c.requires.size) c.requires.some c.requires.addresses in
    omega (arith, room.parts, c.append_header-at.ensures.extends.same_len, c.append_units-at.ensures.extends.same_len, c.append_addresses-at.ensures.extends.same_len, c.append_table-at.ensures.extends.extends.same_len, c.append_zeros-at.ensures.extends.same_len, c.append_header-at.ensures.end, c.append_units-at.ensures.end, c.append_addresses-at.ensures.end, c.append_table-at.ensures.end, c.append_zeros-at.ensures.end, c.shortcut_len.ensures)

pub append_names-at-requires : goal.append_names-at-requires
append_names-at-requires c =
    let room = room_held c.number_of-version.result c.args.scan.now c.units-units.result.now c.names-names.result.now (length c.args.addresses.now) c.compute_hash_table_slots-slots.result (length c.args.buf.now) c.units-units.ensures.units c.names-names.ensures.names c.compute_hash_table_slots-slots.ensures (size_of c.args.version c.number_of-version.result c.args.scan.now (length c.args.buf.now) c.number_of-version.ensures c.requires.size) c.requires.some c.requires.addresses in
    omega (arith, room.parts, c.append_header-at.ensures.extends.same_len, c.append_units-at.ensures.extends.same_len, c.append_addresses-at.ensures.extends.same_len, c.append_table-at.ensures.extends.extends.same_len, c.append_zeros-at.ensures.extends.same_len, c.append_vectors-at.ensures.extends.same_len, c.append_header-at.ensures.end, c.append_units-at.ensures.end, c.append_addresses-at.ensures.end, c.append_table-at.ensures.end, c.append_zeros-at.ensures.end, c.shortcut_len.ensures, c.append_vectors-at.ensures.end)

pub overflow_sub-saved : goal.overflow_sub-saved
overflow_sub-saved c =
    let room = room_held c.number_of-version.result c.args.scan.now c.units-units.result.now c.names-names.result.now (length c.args.addresses.now) c.compute_hash_table_slots-slots.result (length c.args.buf.now) c.units-units.ensures.units c.names-names.ensures.names c.compute_hash_table_slots-slots.ensures (size_of c.args.version c.number_of-version.result c.args.scan.now (length c.args.buf.now) c.number_of-version.ensures c.requires.size) c.requires.some c.requires.addresses in
    omega (arith, room.parts, c.append_header-at.ensures.extends.same_len, c.append_units-at.ensures.extends.same_len, c.append_addresses-at.ensures.extends.same_len, c.append_table-at.ensures.extends.extends.same_len, c.append_zeros-at.ensures.extends.same_len, c.append_vectors-at.ensures.extends.same_len, c.append_names-at.ensures.extends.same_len, c.append_header-at.ensures.end, c.append_units-at.ensures.end, c.append_addresses-at.ensures.end, c.append_table-at.ensures.end, c.append_zeros-at.ensures.end, c.shortcut_len.ensures, c.append_vectors-at.ensures.end, c.append_names-at.ensures.end)

pub append_zeros-requires : goal.append_zeros-requires
append_zeros-requires c =
    let room = room_held c.number_of-version.result c.args.scan.now c.units-units.result.now c.names-names.result.now (length c.args.addresses.now) c.compute_hash_table_slots-slots.result (length c.args.buf.now) c.units-units.ensures.units c.names-names.ensures.names c.compute_hash_table_slots-slots.ensures (size_of c.args.version c.number_of-version.result c.args.scan.now (length c.args.buf.now) c.number_of-version.ensures c.requires.size) c.requires.some c.requires.addresses in
    omega (arith, room.parts, c.append_header-at.ensures.extends.same_len, c.append_units-at.ensures.extends.same_len, c.append_addresses-at.ensures.extends.same_len, c.append_table-at.ensures.extends.extends.same_len, c.append_zeros-at.ensures.extends.same_len, c.append_vectors-at.ensures.extends.same_len, c.append_names-at.ensures.extends.same_len, c.append_header-at.ensures.end, c.append_units-at.ensures.end, c.append_addresses-at.ensures.end, c.append_table-at.ensures.end, c.append_zeros-at.ensures.end, c.shortcut_len.ensures, c.append_vectors-at.ensures.end, c.append_names-at.ensures.end)

pub returns-clause-layout : goal.returns-clause-layout
returns-clause-layout c =
    let v = c.number_of-version.result in
    let s : Scan = c.args.scan.now in
    let units = c.units-units.result.now in
    let ns = all_named c.names-names.result.now in
    let xs = c.args.addresses.now in
    let slots = c.compute_hash_table_slots-slots.result in
    let saved = length c.append_names-at.new.buf - c.append_names-at.result in
    let filled = c.append_table-at.ensures.extends in
    let room = room_held c.number_of-version.result c.args.scan.now c.units-units.result.now c.names-names.result.now (length c.args.addresses.now) c.compute_hash_table_slots-slots.result (length c.args.buf.now) c.units-units.ensures.units c.names-names.ensures.names c.compute_hash_table_slots-slots.ensures (size_of c.args.version c.number_of-version.result c.args.scan.now (length c.args.buf.now) c.number_of-version.ensures c.requires.size) c.requires.some c.requires.addresses in
    let len : length (table_bytes filled.table) ≡ 8 * slots = length-table filled.table ∙ ap (λ n. 8 * n) filled.filled.len in
    let bytes = eight_parts _ _ _ _ _ _ _ _ _ _ _ _ _ _ _ _ (u32s_bytes (header_numbers v (length units) (length xs) slots)) (flat_map unit_bytes units) (flat_map address_bytes xs) (table_bytes filled.table) (replicate (shortcut_len v) 0) (flat_map vector_bytes ns) (flat_map name_bytes ns) (replicate saved 0)
    c.append_header-at.ensures.extends (omega (arith, c.append_header-at.ensures.end, length-header v (length units) (length xs) slots))
    c.append_units-at.ensures.extends (omega (arith, c.append_units-at.ensures.end, length-units units))
    c.append_addresses-at.ensures.extends (omega (arith, c.append_addresses-at.ensures.end, length-addresses xs))
    filled.extends (omega (arith, c.append_table-at.ensures.end, len))
    (Extends-same _ _ _ _ _ (ap (λ n. replicate n 0) c.shortcut_len.ensures) c.append_zeros-at.ensures.extends) (omega (arith, c.append_zeros-at.ensures.end, c.shortcut_len.ensures, c.shortcut_len.ensures, length-replicate {A = ℕ} (shortcut_len v) 0))
    c.append_vectors-at.ensures.extends (omega (arith, c.append_vectors-at.ensures.end, length-vectors ns))
    c.append_names-at.ensures.extends (omega (arith, c.append_names-at.ensures.end, length-names ns))
    c.append_zeros.ensures.extends (omega (arith, length-replicate {A = ℕ} saved 0, room.parts, c.append_header-at.ensures.extends.same_len, c.append_units-at.ensures.extends.same_len, c.append_addresses-at.ensures.extends.same_len, c.append_table-at.ensures.extends.extends.same_len, c.append_zeros-at.ensures.extends.same_len, c.append_vectors-at.ensures.extends.same_len, c.append_names-at.ensures.extends.same_len, c.append_header-at.ensures.end, c.append_units-at.ensures.end, c.append_addresses-at.ensures.end, c.append_table-at.ensures.end, c.append_zeros-at.ensures.end, c.shortcut_len.ensures, c.append_vectors-at.ensures.end, c.append_names-at.ensures.end)) in
    subst (λ n. IsLayoutOf n s xs c.append_zeros.new.buf) c.number_of-version.ensures
    (index_is v s units ns xs c.append_zeros.new.buf slots saved filled.table c.units-units.ensures.units c.names-names.ensures.names room.counts filled.filled bytes)

pub returns-clause-units : goal.returns-clause-units
returns-clause-units c =
    lists_units (version_number c.args.version) c.append_zeros.new.buf c.args.scan.now c.args.addresses.now (number_is_known c.args.version) (omega (arith, c.requires.small, c.append_zeros.ensures.extends.same_len, c.append_header-at.ensures.extends.same_len, c.append_units-at.ensures.extends.same_len, c.append_addresses-at.ensures.extends.same_len, c.append_table-at.ensures.extends.extends.same_len, c.append_zeros-at.ensures.extends.same_len, c.append_vectors-at.ensures.extends.same_len, c.append_names-at.ensures.extends.same_len))
    (subst AreUnits c.units-units.ensures.units c.append_units-at.ensures.fit) (returns-clause-layout c)

pub returns-clause-answers : goal.returns-clause-answers
returns-clause-answers c =
    answers (version_number c.args.version) c.append_zeros.new.buf c.args.scan.now c.args.addresses.now (number_is_known c.args.version) (omega (arith, c.requires.small, c.append_zeros.ensures.extends.same_len, c.append_header-at.ensures.extends.same_len, c.append_units-at.ensures.extends.same_len, c.append_addresses-at.ensures.extends.same_len, c.append_table-at.ensures.extends.extends.same_len, c.append_zeros-at.ensures.extends.same_len, c.append_vectors-at.ensures.extends.same_len, c.append_names-at.ensures.extends.same_len)) c.names-names.ensures.well_formed (returns-clause-layout c)

pub returns-clause-published : goal.returns-clause-published
returns-clause-published c = λ ps names.
    answers_all c.append_zeros.new.buf c.args.scan.now.names ps
    (answered (version_number c.args.version) c.append_zeros.new.buf c.args.scan.now c.args.addresses.now (number_is_known c.args.version) (omega (arith, c.requires.small, c.append_zeros.ensures.extends.same_len, c.append_header-at.ensures.extends.same_len, c.append_units-at.ensures.extends.same_len, c.append_addresses-at.ensures.extends.same_len, c.append_table-at.ensures.extends.extends.same_len, c.append_zeros-at.ensures.extends.same_len, c.append_vectors-at.ensures.extends.same_len, c.append_names-at.ensures.extends.same_len)) c.names-names.ensures.well_formed (returns-clause-layout c)) names

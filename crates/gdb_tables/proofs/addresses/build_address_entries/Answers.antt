use Rattle.std.proofs.Common.{rules, ◌≡◌, ℕ, ◌+◌, ◌-◌, ◌^◌, ◌<◌, ◌≤◌, List, ◌++◌, length, take, drop, get_or, map, Some, ap, sym, subst, ◌∙◌, arith}
use Rattle.std.specs.Prelude.{slice_get}
use Rattle.std.specs.List.{All}
use Rattle.elf_view.specs.AnyFile.{parsed}
use Rattle.elf_view.specs.Parsed.{Parsed}
use Rattle.gdb_index.specs.Scan.{Scan}
use Rattle.gdb_index_format.specs.Objects.{class_in, IsUnitsOf, AreUnitsOf}
use Rattle.gdb_index_format.specs.Published.{units_in_lists}
use Rattle.gdb_tables.specs.Addresses.{IsScanOfUnits}
use Rattle.std.proofs.lemmas.List.{length-map}
use Rattle.gdb_index_format.specs.declared.unit.CuBoundary.{CuBoundary}
use Rattle.gdb_index_format.specs.declared.placement.Placement.{Placement}
use Rattle.gdb_index_format.proofs.ObjectLists.{one_unit_lists}
use Rattle.gdb_tables.specs.steps.ObjectEntries.{entries_of, AreListedUnits}
use Rattle.gdb_tables.proofs.ListedUnits.{listed_units, listed_length}
use Rattle.gdb_tables.specs.Files.{all_parsed, file_bytes}
use Rattle.gdb_tables.proofs.Scanning.{below_parsed, past_parsed, few_parsed, parsed_here}
use Rattle.gdb_tables.proofs.Addressing.{added_none, added_more, added_all, units_at, as_many_lists, count_at, room_at, own_fit, first_fault, few_addresses}
use Rattle.gdb_tables.proofs.addresses.build_address_entries.Goals as goal

pub loop-object-init : goal.loop-object-init
loop-object-init c = record { added = λ uss held. added_none (all_parsed c.args.files.now) uss c.args.placements.now c.new-entries.result.items c.new-entries.ensures.items }

pub bounds-counts-object : goal.bounds-counts-object
bounds-counts-object c =
    let uss = c.requires.scanned.0 in
    let counted = c.requires.scanned.2.counts in
    let counts = c.unit_counts-counts.ensures.counts in
    omega (arith, ap length counts, ap length counted, length-map uss (λ (us : List CuBoundary). length us), as_many_lists (all_parsed c.args.files.now) uss c.requires.scanned.1, below_parsed c.args.files.now c.loop-object.object c.loop-object-test.true)

-- the object's units, and their count
own_units : (files : List Parsed) (uss : List (List CuBoundary)) (counts : List ℕ) (i : ℕ) (f : Parsed) → AreUnitsOf (file_bytes files) uss → counts ≡ map (λ (us : List CuBoundary). length us) uss → i < length files → f ≡ get_or files i f → (us : List CuBoundary) × (slice_get uss i ≡ Some us) × IsUnitsOf (class_in f.bytes) f.bytes us × (get_or counts i 0 ≡ length us)
own_units files uss counts i f held counted l is =
    let at = units_at files uss i f held l is in
    (at.0, at.1, at.2, ap (λ (ns : List ℕ). get_or ns i 0) counted ∙ count_at uss i at.0 at.1)

end_within : (files : List Parsed) (uss : List (List CuBoundary)) (scan : Scan) (counts : List ℕ) (units : List CuBoundary) (count i first : ℕ) (f : Parsed) → AreUnitsOf (file_bytes files) uss → IsScanOfUnits uss count scan → counts ≡ scan.unit_counts → units ≡ scan.units → i < length files → f ≡ get_or files i f → first ≡ length (units_in_lists (take i uss)) → first + get_or counts i 0 ≤ length units
end_within files uss scan counts units count i first f held of_units is_counts is_units l is at =
    let own = own_units files uss counts i f held (is_counts ∙ of_units.counts) l is in
    omega (arith, room_at uss i first own.0 own.1 at, own.3, ap length is_units, ap length of_units.units)

pub overflow_add-end : goal.overflow_add-end
overflow_add-end c =
    let uss = c.requires.scanned.0 in
    let ends = end_within (all_parsed c.args.files.now) uss c.args.scan.now c.unit_counts-counts.result.now c.units-units.result.now _ c.loop-object.object c.loop-object.first (parsed c.index-files-object.result) c.requires.scanned.1 c.requires.scanned.2 c.unit_counts-counts.ensures.counts c.units-units.ensures.units (below_parsed c.args.files.now c.loop-object.object c.loop-object-test.true) (parsed_here c.args.files.now c.loop-object.object c.index-files-object.result c.loop-object-test.true c.index-files-object.is) (c.loop-object.invariant.added uss c.requires.scanned.1).units in
    record { fits = omega (arith, ends, ap length c.units-units.ensures.units, c.units-units.ensures.well_formed.units) }

-- the slice of an object's units
listed_here : (files : List Parsed) (uss : List (List CuBoundary)) (scan : Scan) (counts : List ℕ) (units : List CuBoundary) (count i first : ℕ) (f : Parsed) → AreUnitsOf (file_bytes files) uss → IsScanOfUnits uss count scan → counts ≡ scan.unit_counts → units ≡ scan.units → i < length files → f ≡ get_or files i f → first ≡ length (units_in_lists (take i uss)) → length files < 2 ^ 24 → All (λ (x : Parsed). length x.bytes < 2 ^ 39) files → AreListedUnits (class_in f.bytes) f.bytes (take (first + get_or counts i 0 - first) (drop first units))
listed_here files uss scan counts units count i first f held of_units is_counts is_units l is at few small =
    let own = own_units files uss counts i f held (is_counts ∙ of_units.counts) l is in
    let short : length f.bytes < 2 ^ 39 = subst (λ (y : Parsed). length y.bytes < 2 ^ 39) (sym is) (small i f l) in
    listed_units files uss units i first (first + get_or counts i 0 - first) f own.0 held small l few own.1 own.2 short (is_units ∙ of_units.units) at (omega (arith, own.3))

pub slice_bounds-listed-end : goal.slice_bounds-listed-end
slice_bounds-listed-end c =
    let uss = c.requires.scanned.0 in
    let ends = end_within (all_parsed c.args.files.now) uss c.args.scan.now c.unit_counts-counts.result.now c.units-units.result.now _ c.loop-object.object c.loop-object.first (parsed c.index-files-object.result) c.requires.scanned.1 c.requires.scanned.2 c.unit_counts-counts.ensures.counts c.units-units.ensures.units (below_parsed c.args.files.now c.loop-object.object c.loop-object-test.true) (parsed_here c.args.files.now c.loop-object.object c.index-files-object.result c.loop-object-test.true c.index-files-object.is) (c.loop-object.invariant.added uss c.requires.scanned.1).units in
    search rules

pub add_any_object-requires-clause-held : goal.add_any_object-requires-clause-held
add_any_object-requires-clause-held c =
    let uss = c.requires.scanned.0 in
    listed_here (all_parsed c.args.files.now) uss c.args.scan.now c.unit_counts-counts.result.now c.units-units.result.now _ c.loop-object.object c.loop-object.first (parsed c.index-files-object.result) c.requires.scanned.1 c.requires.scanned.2 c.unit_counts-counts.ensures.counts c.units-units.ensures.units (below_parsed c.args.files.now c.loop-object.object c.loop-object-test.true) (parsed_here c.args.files.now c.loop-object.object c.index-files-object.result c.loop-object-test.true c.index-files-object.is) (c.loop-object.invariant.added uss c.requires.scanned.1).units (few_parsed c.args.files.now c.requires.few) c.requires.small

pub add_any_object-requires-clause-room : goal.add_any_object-requires-clause-room
add_any_object-requires-clause-room c =
    let files = all_parsed c.args.files.now in
    let f = parsed c.index-files-object.result in
    let uss = c.requires.scanned.0 in
    let counts = c.unit_counts-counts.result.now in
    let ends = end_within files uss c.args.scan.now counts c.units-units.result.now _ c.loop-object.object c.loop-object.first f c.requires.scanned.1 c.requires.scanned.2 c.unit_counts-counts.ensures.counts c.units-units.ensures.units (below_parsed c.args.files.now c.loop-object.object c.loop-object-test.true) (parsed_here c.args.files.now c.loop-object.object c.index-files-object.result c.loop-object-test.true c.index-files-object.is) (c.loop-object.invariant.added uss c.requires.scanned.1).units in
    let own = own_units files uss counts c.loop-object.object f c.requires.scanned.1 (c.unit_counts-counts.ensures.counts ∙ c.requires.scanned.2.counts) (below_parsed c.args.files.now c.loop-object.object c.loop-object-test.true) (parsed_here c.args.files.now c.loop-object.object c.index-files-object.result c.loop-object-test.true c.index-files-object.is) in
    let long = listed_length (class_in f.bytes) f.bytes _ (add_any_object-requires-clause-held c) own.0 own.2 in
    omega (arith, ends, long, own.3, ap length c.units-units.ensures.units, c.units-units.ensures.well_formed.units)

pub add_any_object-requires-clause-fit : goal.add_any_object-requires-clause-fit
add_any_object-requires-clause-fit c = subst (λ ps. All (λ (p : Placement). p.address + p.size < 2 ^ 64) ps) (sym c.placements_of-own.ensures) (own_fit c.loop-object.object c.args.placements.now c.requires.placements.in_order.fit)

pub returns-in-Err-clause-cause : goal.returns-in-Err-clause-cause
returns-in-Err-clause-cause c = λ uss held.
    let files = all_parsed c.args.files.now in
    let i = c.loop-object.object in
    let f = parsed c.index-files-object.result in
    let at = units_at files uss i f held (below_parsed c.args.files.now c.loop-object.object c.loop-object-test.true) (parsed_here c.args.files.now c.loop-object.object c.index-files-object.result c.loop-object-test.true c.index-files-object.is) in
    first_fault files uss c.args.placements.now i c.loop-object.first c.loop-object.entries.items f at.0 c.in-Err.error (below_parsed c.args.files.now c.loop-object.object c.loop-object-test.true) (parsed_here c.args.files.now c.loop-object.object c.index-files-object.result c.loop-object-test.true c.index-files-object.is) at.1 (c.in-Err.ensures.cause at.0 at.2) (c.loop-object.invariant.added uss held)

pub loop-object-preserved : goal.loop-object-preserved
loop-object-preserved c =
    let files = all_parsed c.args.files.now in
    let i = c.loop-object.object in
    let f = parsed c.index-files-object.result in
    record {
      added = λ uss held.
          let at = units_at files uss i f held (below_parsed c.args.files.now c.loop-object.object c.loop-object-test.true) (parsed_here c.args.files.now c.loop-object.object c.index-files-object.result c.loop-object-test.true c.index-files-object.is) in
          let same : c.requires.scanned.0 ≡ uss = one_unit_lists (file_bytes files) c.requires.scanned.0 uss c.requires.scanned.1 held in
          let counts = c.unit_counts-counts.ensures.counts ∙ c.requires.scanned.2.counts ∙ ap (λ xs. map (λ (us : List CuBoundary). length us) xs) same in
          added_more files uss c.args.placements.now i c.loop-object.first c.loop-object.entries.items c.add_any_object.new.entries.items f at.0 _ c.requires.placements (below_parsed c.args.files.now c.loop-object.object c.loop-object-test.true) (parsed_here c.args.files.now c.loop-object.object c.index-files-object.result c.loop-object-test.true c.index-files-object.is) at.1
          (ap (λ ns. get_or ns i 0) counts ∙ count_at uss i at.0 at.1)
          (c.in-Ok.ensures.entries at.0 at.2 ∙ ap (λ ps. c.loop-object.entries.items ++ entries_of (class_in f.bytes) f c.loop-object.first at.0 ps) c.placements_of-own.ensures)
          (c.in-Ok.ensures.sound at.0 at.2)
          (c.loop-object.invariant.added uss held);
    }

pub returns-clause-entries : goal.returns-clause-entries
returns-clause-entries c = λ uss held. added_all (all_parsed c.args.files.now) uss c.args.placements.now c.loop-object.object c.loop-object.first c.loop-object.entries.items c.requires.placements (past_parsed c.args.files.now c.loop-object.object c.loop-object-test.false) (c.loop-object.invariant.added uss held)

pub returns-clause-few : goal.returns-clause-few
returns-clause-few c =
    let files = all_parsed c.args.files.now in
    let uss = c.requires.scanned.0 in
    let all = added_all files uss c.args.placements.now c.loop-object.object c.loop-object.first c.loop-object.entries.items c.requires.placements (past_parsed c.args.files.now c.loop-object.object c.loop-object-test.false) (c.loop-object.invariant.added uss c.requires.scanned.1) in
    let placed = c.requires.scanned.2.placed in
    omega (arith, ap length all, few_addresses files uss c.args.placements.now, placed)

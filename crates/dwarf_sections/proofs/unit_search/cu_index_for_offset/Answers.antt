use Rattle.std.proofs.Common.{◌-◌, leb, arith, rules}
use Rattle.std.proofs.lemmas.List.Sorted.{IsPartitionPoint-from_clause, IsPartitionedBy-leb}
use Rattle.dwarf_sections.proofs.UnitSearching.{Parted, parted, offsets_do_not_fall, none_before, last_holds, last_does_not_hold, no_unit}
use Rattle.dwarf_sections.proofs.unit_search.cu_index_for_offset.Goals as goal

pub returns-then-after-eq0 : goal.returns-then-after-eq0
returns-then-after-eq0 c =
    let after = c.partition_point-after.result in
    let parts : Parted c.args.units.now c.args.offset after = parted _ _ _ c.partition_point-after.ensures.bound (IsPartitionPoint-from_clause (λ u. leb u.offset c.args.offset) c.args.units.now after c.partition_point-after.ensures.partitioned (IsPartitionedBy-leb (λ u. u.offset) c.args.units.now c.args.offset (offsets_do_not_fall _ c.requires.adjacent)) (λ a r f called. search rules)) in
    none_before c.args.units.now c.args.offset after parts c.if-after-eq0.true

pub overflow_sub-offset : goal.overflow_sub-offset
overflow_sub-offset c =
    let after = c.partition_point-after.result in
    let parts : Parted c.args.units.now c.args.offset after = parted _ _ _ c.partition_point-after.ensures.bound (IsPartitionPoint-from_clause (λ u. leb u.offset c.args.offset) c.args.units.now after c.partition_point-after.ensures.partitioned (IsPartitionedBy-leb (λ u. u.offset) c.args.units.now c.args.offset (offsets_do_not_fall _ c.requires.adjacent)) (λ a r f called. search rules)) in
    parts.low (after - 1) no_unit (omega (arith, c.if-after-eq0.false))

pub returns-then-offset-unit : goal.returns-then-offset-unit
returns-then-offset-unit c =
    let after = c.partition_point-after.result in
    let parts : Parted c.args.units.now c.args.offset after = parted _ _ _ c.partition_point-after.ensures.bound (IsPartitionPoint-from_clause (λ u. leb u.offset c.args.offset) c.args.units.now after c.partition_point-after.ensures.partitioned (IsPartitionedBy-leb (λ u. u.offset) c.args.units.now c.args.offset (offsets_do_not_fall _ c.requires.adjacent)) (λ a r f called. search rules)) in
    last_holds c.args.units.now c.args.offset after (after - 1) c.requires.adjacent parts (omega (arith, c.if-after-eq0.false)) (omega (arith, c.if-offset-unit.true, parts.low (after - 1) no_unit (omega (arith, c.if-after-eq0.false))))

pub returns : goal.returns
returns c =
    let after = c.partition_point-after.result in
    let parts : Parted c.args.units.now c.args.offset after = parted _ _ _ c.partition_point-after.ensures.bound (IsPartitionPoint-from_clause (λ u. leb u.offset c.args.offset) c.args.units.now after c.partition_point-after.ensures.partitioned (IsPartitionedBy-leb (λ u. u.offset) c.args.units.now c.args.offset (offsets_do_not_fall _ c.requires.adjacent)) (λ a r f called. search rules)) in
    last_does_not_hold c.args.units.now c.args.offset after (after - 1) c.requires.adjacent parts (omega (arith, c.if-after-eq0.false)) (omega (arith, c.if-offset-unit.false, parts.low (after - 1) no_unit (omega (arith, c.if-after-eq0.false))))

use Rattle.std.proofs.Common.{ltb, leb, rules}
use Rattle.std.proofs.lemmas.List.Sorted.{IsPartitionPoint-from_clause, IsPartitionedBy-leb, IsPartitionedBy-ltb}
use Rattle.gdb_index_format.specs.declared.placement.Placement.{Placement}
use Rattle.gdb_scan.proofs.Windows.{Bounds, bounds, objects_do_not_fall, start_le_end, window_of}
use Rattle.gdb_scan.proofs.placed.placements_of.Goals as goal

pub slice_bounds-result-count : goal.slice_bounds-result-count
slice_bounds-result-count c =
    let start = c.partition_point-start.result in
    let end = c.partition_point-end.result in
    let rises = objects_do_not_fall c.args.placements.now c.requires in
    let b : Bounds (λ (p : Placement). p.object) c.args.placements.now c.args.object start end = bounds (λ (p : Placement). p.object) _ _ _ _ c.partition_point-start.ensures.bound c.partition_point-end.ensures.bound
    (IsPartitionPoint-from_clause (λ p. ltb p.object c.args.object) c.args.placements.now start c.partition_point-start.ensures.partitioned (IsPartitionedBy-ltb (λ p. p.object) c.args.placements.now c.args.object rises) (λ a r f called. search rules))
    (IsPartitionPoint-from_clause (λ p. leb p.object c.args.object) c.args.placements.now end c.partition_point-end.ensures.partitioned (IsPartitionedBy-leb (λ p. p.object) c.args.placements.now c.args.object rises) (λ a r f called. search rules)) in
    start_le_end (λ (p : Placement). p.object) _ _ _ _ b

pub slice_bounds-result-start : goal.slice_bounds-result-start
slice_bounds-result-start c =
    let start = c.partition_point-start.result in
    let end = c.partition_point-end.result in
    let rises = objects_do_not_fall c.args.placements.now c.requires in
    let b : Bounds (λ (p : Placement). p.object) c.args.placements.now c.args.object start end = bounds (λ (p : Placement). p.object) _ _ _ _ c.partition_point-start.ensures.bound c.partition_point-end.ensures.bound
    (IsPartitionPoint-from_clause (λ p. ltb p.object c.args.object) c.args.placements.now start c.partition_point-start.ensures.partitioned (IsPartitionedBy-ltb (λ p. p.object) c.args.placements.now c.args.object rises) (λ a r f called. search rules))
    (IsPartitionPoint-from_clause (λ p. leb p.object c.args.object) c.args.placements.now end c.partition_point-end.ensures.partitioned (IsPartitionedBy-leb (λ p. p.object) c.args.placements.now c.args.object rises) (λ a r f called. search rules)) in
    let le = start_le_end (λ (p : Placement). p.object) _ _ _ _ b in
    search rules

pub returns : goal.returns
returns c =
    let start = c.partition_point-start.result in
    let end = c.partition_point-end.result in
    let rises = objects_do_not_fall c.args.placements.now c.requires in
    let b : Bounds (λ (p : Placement). p.object) c.args.placements.now c.args.object start end = bounds (λ (p : Placement). p.object) _ _ _ _ c.partition_point-start.ensures.bound c.partition_point-end.ensures.bound
    (IsPartitionPoint-from_clause (λ p. ltb p.object c.args.object) c.args.placements.now start c.partition_point-start.ensures.partitioned (IsPartitionedBy-ltb (λ p. p.object) c.args.placements.now c.args.object rises) (λ a r f called. search rules))
    (IsPartitionPoint-from_clause (λ p. leb p.object c.args.object) c.args.placements.now end c.partition_point-end.ensures.partitioned (IsPartitionedBy-leb (λ p. p.object) c.args.placements.now c.args.object rises) (λ a r f called. search rules)) in
    window_of (λ (p : Placement). p.object) _ _ _ _ b

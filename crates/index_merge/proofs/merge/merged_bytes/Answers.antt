use Rattle.std.proofs.Common.{subst, sym, ◌∙◌}
use Rattle.gdb_index_format.specs.Version.{version_number}
use Rattle.gdb_index.specs.Size.{IsIndexSize}
use Rattle.gdb_index.specs.declared.size.IndexCounts.{IndexCounts}
use Rattle.index_browser.specs.Areas.{AreAddresses}
use Rattle.index_merge.proofs.Results.{few_names, merged_size, merged_none, merged_some}
use Rattle.index_merge.proofs.merge.merged_bytes.Goals as goal

pub checked_index_size-requires : goal.checked_index_size-requires
checked_index_size-requires c =
    c.counts-counts.ensures.small (few_names c.args.first.now c.args.second.now c.args.offset c.in-Ok-joined_scan.scan
    (c.checked_is_well_formed.ensures c.args.first.now c.bytes-first.ensures.checked) (c.checked_is_well_formed.ensures c.args.second.now c.bytes-second.ensures.checked) c.requires.few (c.in-Ok-joined_scan.ensures {u = tt}))

pub returns-in-Ok-eq0-clause-merged : goal.returns-in-Ok-eq0-clause-merged
returns-in-Ok-eq0-clause-merged c =
    merged_none c.args.first.now c.args.second.now c.args.offset c.in-Ok-joined_scan.scan
    (c.checked_is_well_formed.ensures c.args.first.now c.bytes-first.ensures.checked) (c.checked_is_well_formed.ensures c.args.second.now c.bytes-second.ensures.checked) c.requires.few (c.in-Ok-joined_scan.ensures {u = tt})
    c.args.version c.in-Ok-eq0.field-0 c.new.result.items c.in-Ok-eq0.field-0-test (subst (λ (k : IndexCounts). IsIndexSize (version_number c.args.version) k c.in-Ok-eq0.field-0) c.counts-counts.ensures.counts (c.in-Ok-eq0.ensures {u = tt}).size) c.new.ensures.items

pub returns-in-Ok-eq0-clause-mergeable : goal.returns-in-Ok-eq0-clause-mergeable
returns-in-Ok-eq0-clause-mergeable c = record {
  near = c.requires.near;
  few = c.requires.few;
  size = c.in-Ok-eq0.field-0;
  size_is = merged_size c.args.first.now c.args.second.now c.args.offset c.in-Ok-joined_scan.scan
      (c.checked_is_well_formed.ensures c.args.first.now c.bytes-first.ensures.checked) (c.checked_is_well_formed.ensures c.args.second.now c.bytes-second.ensures.checked) c.requires.few (c.in-Ok-joined_scan.ensures {u = tt})
      (version_number c.args.version) c.in-Ok-eq0.field-0 (subst (λ (k : IndexCounts). IsIndexSize (version_number c.args.version) k c.in-Ok-eq0.field-0) c.counts-counts.ensures.counts (c.in-Ok-eq0.ensures {u = tt}).size);
  fits = (c.in-Ok-eq0.ensures {u = tt}).below;
}

pub written-requires-clause-room : goal.written-requires-clause-room
written-requires-clause-room c = subst (λ (k : IndexCounts). IsIndexSize (version_number c.args.version) k c.in-Ok-checked_index_size.size) c.counts-counts.ensures.counts (c.in-Ok-checked_index_size.ensures {u = tt}).size

pub returns-in-Ok-written-clause-merged : goal.returns-in-Ok-written-clause-merged
returns-in-Ok-written-clause-merged c =
    let done = c.in-Ok-written.ensures in
    merged_some c.args.first.now c.args.second.now c.args.offset c.in-Ok-joined_scan.scan
    (c.checked_is_well_formed.ensures c.args.first.now c.bytes-first.ensures.checked) (c.checked_is_well_formed.ensures c.args.second.now c.bytes-second.ensures.checked) c.requires.few (c.in-Ok-joined_scan.ensures {u = tt})
    c.args.version c.in-Ok-checked_index_size.size c.deref.result.now c.in-Ok-written.index.items (c.in-Ok-checked_index_size.ensures {u = tt}).below (subst (λ (k : IndexCounts). IsIndexSize (version_number c.args.version) k c.in-Ok-checked_index_size.size) c.counts-counts.ensures.counts (c.in-Ok-checked_index_size.ensures {u = tt}).size)
    done.size (c.deref.ensures.value ∙ c.in-Ok.ensures.entries) (subst AreAddresses (sym c.deref.ensures.value) c.in-Ok.ensures.fit) done.layout done.units done.answers c.layout_is_checked.ensures c.layout_lists_addresses.ensures

pub returns-in-Ok-written-clause-mergeable : goal.returns-in-Ok-written-clause-mergeable
returns-in-Ok-written-clause-mergeable c = record {
  near = c.requires.near;
  few = c.requires.few;
  size = c.in-Ok-checked_index_size.size;
  size_is = merged_size c.args.first.now c.args.second.now c.args.offset c.in-Ok-joined_scan.scan
      (c.checked_is_well_formed.ensures c.args.first.now c.bytes-first.ensures.checked) (c.checked_is_well_formed.ensures c.args.second.now c.bytes-second.ensures.checked) c.requires.few (c.in-Ok-joined_scan.ensures {u = tt})
      (version_number c.args.version) c.in-Ok-checked_index_size.size (subst (λ (k : IndexCounts). IsIndexSize (version_number c.args.version) k c.in-Ok-checked_index_size.size) c.counts-counts.ensures.counts (c.in-Ok-checked_index_size.ensures {u = tt}).size);
  fits = (c.in-Ok-checked_index_size.ensures {u = tt}).below;
}

pub returns-clause-cause : goal.returns-clause-cause
returns-clause-cause c = (
  c.requires.near,
  c.requires.few,
  merged_size c.args.first.now c.args.second.now c.args.offset c.in-Ok-joined_scan.scan
      (c.checked_is_well_formed.ensures c.args.first.now c.bytes-first.ensures.checked) (c.checked_is_well_formed.ensures c.args.second.now c.bytes-second.ensures.checked) c.requires.few (c.in-Ok-joined_scan.ensures {u = tt})
      (version_number c.args.version) c.in-Err-checked_index_size.field-0.0 (subst (λ (k : IndexCounts). IsIndexSize (version_number c.args.version) k c.in-Err-checked_index_size.field-0.0) c.counts-counts.ensures.counts (c.in-Err-checked_index_size.ensures {u = tt}).size),
  (c.in-Err-checked_index_size.ensures {u = tt}).above,
)

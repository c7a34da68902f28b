use Rattle.std.proofs.Common.{◌≡◌, ◌^◌, ◌<◌, Some, None, length, ap, sym, subst, ◌∙◌, arith}
use Rattle.std.proofs.lemmas.Grind.{common_steps}
use Rattle.std.proofs.lemmas.List.{length-map}
use Rattle.elf_view.specs.Parsed.{Parsed}
use Rattle.elf_view.specs.AnyFile.{parsed}
use Rattle.gdb_index.specs.Size.{IsIndexSize}
use Rattle.gdb_index_format.specs.Version.{version_number}
use Rattle.gdb_scan.specs.declared.error.GdbError.TheVariants.{IndexTooLarge}
use Rattle.gdb_tables.specs.Files.{all_parsed, file_bytes}
use Rattle.gdb_tables.proofs.IndexSizes.{objects_cause, scans_as_files, merge_cause, gathered, sized_none, counts_small, sized_some, sized_large}
use Rattle.gdb_tables.proofs.OneCause.{only_size_memory, no_size_cause, told_size, indexable}
use Rattle.gdb_tables.proofs.sizing.compute_gdb_index_size.Goals as goal

pub returns-in-Err-clause-cause : goal.returns-in-Err-clause-cause
returns-in-Err-clause-cause c = objects_cause _ (file_bytes (all_parsed c.args.files.now)) c.args.placements.now c.in-Err.error c.in-Err.ensures.cause

pub returns-in-Err-clause-exact : goal.returns-in-Err-clause-exact
returns-in-Err-clause-exact c = λ e cause some. told_size _ (file_bytes (all_parsed c.args.files.now)) c.args.placements.now c.in-Err.error e (returns-in-Err-clause-cause c) cause some

pub returns-in-Err-clause-complete : goal.returns-in-Err-clause-complete
returns-in-Err-clause-complete c = λ index. only_size_memory _ (file_bytes (all_parsed c.args.files.now)) c.args.placements.now c.in-Err.error index (returns-in-Err-clause-cause c)

pub merge_gdb_index_scans-requires : goal.merge_gdb_index_scans-requires
merge_gdb_index_scans-requires c =
    let files = file_bytes (all_parsed c.args.files.now) in
    let ps = c.args.placements.now in
    let ss = c.in-Ok.scans.items in
    let done = c.in-Ok.ensures.scans in
    let few : length files < 2 ^ 24 = omega (arith, c.requires.few, length-map c.args.files.now parsed, length-map (all_parsed c.args.files.now) (λ (f : Parsed). f.bytes)) in
    omega (arith, few, scans_as_files files ps ss done)

pub returns-in-Err-merge_gdb_index_scans-clause-cause : goal.returns-in-Err-merge_gdb_index_scans-clause-cause
returns-in-Err-merge_gdb_index_scans-clause-cause c =
    let files = file_bytes (all_parsed c.args.files.now) in
    let ps = c.args.placements.now in
    let ss = c.in-Ok.scans.items in
    let done = c.in-Ok.ensures.scans in
    merge_cause _ files ps ss c.in-Err-merge_gdb_index_scans.error done c.in-Err-merge_gdb_index_scans.ensures.cause

pub returns-in-Err-merge_gdb_index_scans-clause-exact : goal.returns-in-Err-merge_gdb_index_scans-clause-exact
returns-in-Err-merge_gdb_index_scans-clause-exact c = λ e cause some. told_size _ (file_bytes (all_parsed c.args.files.now)) c.args.placements.now c.in-Err-merge_gdb_index_scans.error e (returns-in-Err-merge_gdb_index_scans-clause-cause c) cause some

pub returns-in-Err-merge_gdb_index_scans-clause-complete : goal.returns-in-Err-merge_gdb_index_scans-clause-complete
returns-in-Err-merge_gdb_index_scans-clause-complete c = λ index. only_size_memory _ (file_bytes (all_parsed c.args.files.now)) c.args.placements.now c.in-Err-merge_gdb_index_scans.error index (returns-in-Err-merge_gdb_index_scans-clause-cause c)

pub returns-then-is_empty-clause-size : goal.returns-then-is_empty-clause-size
returns-then-is_empty-clause-size c =
    let files = file_bytes (all_parsed c.args.files.now) in
    let ps = c.args.placements.now in
    let ss = c.in-Ok.scans.items in
    let done = c.in-Ok.ensures.scans in
    let m = c.in-Ok-merge_gdb_index_scans.merged in
    let all = gathered files ps ss m done c.in-Ok-merge_gdb_index_scans.ensures.merged c.in-Ok-merge_gdb_index_scans.ensures.objects in
    let none : length c.units.result.now ≡ 0 = grind (arith, common_steps) in
    sized_none _ files ps ss m done all (ap length (sym c.units.ensures.units) ∙ none)

pub returns-then-is_empty-clause-indexable : goal.returns-then-is_empty-clause-indexable
returns-then-is_empty-clause-indexable c = indexable _ (file_bytes (all_parsed c.args.files.now)) c.args.placements.now 0 None (returns-then-is_empty-clause-size c) (omega arith)

pub returns-then-is_empty-clause-exact : goal.returns-then-is_empty-clause-exact
returns-then-is_empty-clause-exact c = λ e cause some. some (no_size_cause _ (file_bytes (all_parsed c.args.files.now)) c.args.placements.now e (returns-then-is_empty-clause-indexable c) cause)

pub checked_index_size-requires : goal.checked_index_size-requires
checked_index_size-requires c =
    let files = file_bytes (all_parsed c.args.files.now) in
    let ps = c.args.placements.now in
    let ss = c.in-Ok.scans.items in
    let done = c.in-Ok.ensures.scans in
    let m = c.in-Ok-merge_gdb_index_scans.merged in
    let all = gathered files ps ss m done c.in-Ok-merge_gdb_index_scans.ensures.merged c.in-Ok-merge_gdb_index_scans.ensures.objects in
    let few : length files < 2 ^ 24 = omega (arith, c.requires.few, length-map c.args.files.now parsed, length-map (all_parsed c.args.files.now) (λ (f : Parsed). f.bytes)) in
    counts_small files ps ss m c.counts-counts.result done all few c.counts-counts.ensures.counts

pub returns-in-Ok-checked_index_size-clause-size : goal.returns-in-Ok-checked_index_size-clause-size
returns-in-Ok-checked_index_size-clause-size c =
    let files = file_bytes (all_parsed c.args.files.now) in
    let ps = c.args.placements.now in
    let ss = c.in-Ok.scans.items in
    let done = c.in-Ok.ensures.scans in
    let m = c.in-Ok-merge_gdb_index_scans.merged in
    let all = gathered files ps ss m done c.in-Ok-merge_gdb_index_scans.ensures.merged c.in-Ok-merge_gdb_index_scans.ensures.objects in
    let some : 0 < length c.units.result.now = grind (arith, common_steps) in
    sized_some _ files ps ss m c.counts-counts.result c.in-Ok-checked_index_size.size done all c.units.ensures.well_formed (omega (arith, some, ap length c.units.ensures.units)) c.counts-counts.ensures.counts (c.in-Ok-checked_index_size.ensures {u = tt})

pub returns-in-Ok-checked_index_size-clause-indexable : goal.returns-in-Ok-checked_index_size-clause-indexable
returns-in-Ok-checked_index_size-clause-indexable c = indexable _ (file_bytes (all_parsed c.args.files.now)) c.args.placements.now c.in-Ok-checked_index_size.size (Some c.in-Ok-merge_gdb_index_scans.merged) (returns-in-Ok-checked_index_size-clause-size c) (c.in-Ok-checked_index_size.ensures {u = tt}).below

pub returns-in-Ok-checked_index_size-clause-exact : goal.returns-in-Ok-checked_index_size-clause-exact
returns-in-Ok-checked_index_size-clause-exact c = λ e cause some. some (no_size_cause _ (file_bytes (all_parsed c.args.files.now)) c.args.placements.now e (returns-in-Ok-checked_index_size-clause-indexable c) cause)

pub returns-in-Ok-checked_index_size-clause-room : goal.returns-in-Ok-checked_index_size-clause-room
returns-in-Ok-checked_index_size-clause-room c = subst (λ n. IsIndexSize (version_number c.args.version) n c.in-Ok-checked_index_size.size) c.counts-counts.ensures.counts (c.in-Ok-checked_index_size.ensures {u = tt}).size

pub returns-clause-cause : goal.returns-clause-cause
returns-clause-cause c =
    let files = file_bytes (all_parsed c.args.files.now) in
    let ps = c.args.placements.now in
    let ss = c.in-Ok.scans.items in
    let done = c.in-Ok.ensures.scans in
    let m = c.in-Ok-merge_gdb_index_scans.merged in
    let all = gathered files ps ss m done c.in-Ok-merge_gdb_index_scans.ensures.merged c.in-Ok-merge_gdb_index_scans.ensures.objects in
    sized_large _ files ps ss m c.counts-counts.result c.in-Err-checked_index_size.field-0 done all c.counts-counts.ensures.counts (c.in-Err-checked_index_size.ensures {u = tt})

pub returns-clause-exact : goal.returns-clause-exact
returns-clause-exact c = λ e cause some. told_size _ (file_bytes (all_parsed c.args.files.now)) c.args.placements.now (IndexTooLarge c.in-Err-checked_index_size.field-0.0) e (returns-clause-cause c) cause some

pub returns-clause-complete : goal.returns-clause-complete
returns-clause-complete c = λ index. only_size_memory _ (file_bytes (all_parsed c.args.files.now)) c.args.placements.now (IndexTooLarge c.in-Err-checked_index_size.field-0.0) index (returns-clause-cause c)

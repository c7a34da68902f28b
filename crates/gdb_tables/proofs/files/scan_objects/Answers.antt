use Rattle.std.proofs.Common.{◌≡◌, ◌++◌, ◌∷◌, [], Err, take, ap, sym, subst, ◌∙◌, arith}
use Rattle.std.proofs.lemmas.Grind.{common_steps}
use Rattle.std.proofs.lemmas.Result.{err_from_is_err_and}
use Rattle.std.proofs.lemmas.List.{length-map}
use Rattle.elf_view.specs.AnyFile.{parsed}
use Rattle.gdb_scan.specs.declared.error.GdbError.TheVariants.{NoMemory}
use Rattle.gdb_tables.specs.Files.{all_parsed, file_bytes, IsFilesCause, in_object, no_memory}
use Rattle.gdb_index_format.specs.Objects.{class_in}
use Rattle.gdb_scan.proofs.Causes.{holds_of}
use Rattle.gdb_scan.proofs.OneCause.{refused_by}
use Rattle.gdb_tables.proofs.OneCause.{one_files_cause, told_files, no_cause_in_scans, no_files_cause, only_memory_in_files}
use Rattle.gdb_tables.proofs.Scanning.{Scanned, scanned_none, scanned_more, scans_objects, take_next, take_all_files, taken_length, file_at, below_parsed, parsed_here, short_here, first_bad_object, names_sections_of}
use Rattle.gdb_scan.proofs.Sounding.{placed_few}
use Rattle.gdb_tables.proofs.files.scan_objects.Goals as goal

pub loop-object-init : goal.loop-object-init
loop-object-init c = record { done = scanned_none c.args.placements.now c.in_ok-scans.scans.items c.in_ok-scans.ensures.items }

pub returns-in_err-scans-clause-cause : goal.returns-in_err-scans-clause-cause
returns-in_err-scans-clause-cause c =
    let p = err_from_is_err_and c.from_residual.result c.from_residual.ensures.1 in
    holds_of (IsFilesCause (file_bytes (all_parsed c.args.files.now))) c.from_residual.result NoMemory (p.1 ∙ ap (λ e. Err e) p.2) no_memory

pub scan_object-requires-clause-small : goal.scan_object-requires-clause-small
scan_object-requires-clause-small c = short_here c.args.files.now c.loop-object.object c.index-files-object.result (omega arith) c.index-files-object.is c.requires.small

pub scan_object-requires-clause-named : goal.scan_object-requires-clause-named
scan_object-requires-clause-named c = names_sections_of (file_bytes (all_parsed c.args.files.now)) c.args.placements.now c.loop-object.object (parsed c.index-files-object.result).bytes c.requires.placements (file_at (all_parsed c.args.files.now) c.loop-object.object (parsed c.index-files-object.result) (below_parsed c.args.files.now c.loop-object.object (omega arith)) (parsed_here c.args.files.now c.loop-object.object c.index-files-object.result (omega arith) c.index-files-object.is))

pub returns-in_err-push-in-Ok-clause-cause : goal.returns-in_err-push-in-Ok-clause-cause
returns-in_err-push-in-Ok-clause-cause c =
    let p = err_from_is_err_and c.from_residual-in_err-push-in-Ok.result c.from_residual-in_err-push-in-Ok.ensures.1 in
    holds_of (IsFilesCause (file_bytes (all_parsed c.args.files.now))) c.from_residual-in_err-push-in-Ok.result NoMemory (p.1 ∙ ap (λ e. Err e) p.2) no_memory

pub returns-in_err-push-in-Ok-clause-exact : goal.returns-in_err-push-in-Ok-clause-exact
returns-in_err-push-in-Ok-clause-exact c =
    let files = file_bytes (all_parsed c.args.files.now) in
    let p = err_from_is_err_and c.from_residual-in_err-push-in-Ok.result c.from_residual-in_err-push-in-Ok.ensures.1 in
    λ e cause some. refused_by (IsFilesCause files) c.from_residual-in_err-push-in-Ok.result NoMemory e (one_files_cause files) (p.1 ∙ ap (λ x. Err x) p.2) (returns-in_err-push-in-Ok-clause-cause c) cause some

pub returns-in-Err-clause-cause : goal.returns-in-Err-clause-cause
returns-in-Err-clause-cause c =
    let i = c.loop-object.object in
    let f = c.index-files-object.result in
    in_object c.in-Err.error (first_bad_object (file_bytes (all_parsed c.args.files.now)) c.args.placements.now c.loop-object.scans.items i (parsed f).bytes c.in-Err.error (file_at (all_parsed c.args.files.now) i (parsed f) (below_parsed c.args.files.now i (omega arith)) (parsed_here c.args.files.now i f (omega arith) c.index-files-object.is)) c.loop-object.invariant.done c.in-Err.ensures.cause)

pub returns-in-Err-clause-exact : goal.returns-in-Err-clause-exact
returns-in-Err-clause-exact c = λ e cause some. told_files (file_bytes (all_parsed c.args.files.now)) c.in-Err.error e (returns-in-Err-clause-cause c) cause some

pub returns-in_err-push-in-Ok-clause-complete : goal.returns-in_err-push-in-Ok-clause-complete
returns-in_err-push-in-Ok-clause-complete c = λ os held plain. only_memory_in_files (file_bytes (all_parsed c.args.files.now)) os c.from_residual-in_err-push-in-Ok.result held plain (returns-in_err-push-in-Ok-clause-cause c)

pub returns-in-Err-clause-complete : goal.returns-in-Err-clause-complete
returns-in-Err-clause-complete c = λ os held plain. no_files_cause (file_bytes (all_parsed c.args.files.now)) os c.in-Err.error held plain (returns-in-Err-clause-cause c)

pub loop-object-preserved : goal.loop-object-preserved
loop-object-preserved c =
    let i = c.loop-object.object in
    let f = c.index-files-object.result in
    let items : c.push.new.self.items ≡ c.loop-object.scans.items ++ c.in-Ok.scan ∷ [] = grind (arith, common_steps) in
    record {
      done = subst (λ fs. Scanned fs c.args.placements.now c.push.new.self.items) (sym (take_next (all_parsed c.args.files.now) i (parsed f) (below_parsed c.args.files.now i (omega arith)) (parsed_here c.args.files.now i f (omega arith) c.index-files-object.is)))
          (scanned_more (take i (file_bytes (all_parsed c.args.files.now))) c.args.placements.now c.loop-object.scans.items c.push.new.self.items (parsed f).bytes c.in-Ok.scan i (taken_length (all_parsed c.args.files.now) i (omega (arith, length-map c.args.files.now parsed))) items (short_here c.args.files.now i f (omega arith) c.index-files-object.is c.requires.small) (placed_few (class_in (parsed f).bytes) (parsed f).bytes i c.args.placements.now c.requires.placements.in_order (names_sections_of (file_bytes (all_parsed c.args.files.now)) c.args.placements.now i (parsed f).bytes c.requires.placements (file_at (all_parsed c.args.files.now) i (parsed f) (below_parsed c.args.files.now i (omega arith)) (parsed_here c.args.files.now i f (omega arith) c.index-files-object.is)))) c.loop-object.invariant.done c.in-Ok.ensures.scan);
    }

pub returns-clause-scans : goal.returns-clause-scans
returns-clause-scans c = scans_objects (file_bytes (all_parsed c.args.files.now)) c.args.placements.now c.loop-object.scans.items (subst (λ fs. Scanned fs c.args.placements.now c.loop-object.scans.items) (take_all_files (all_parsed c.args.files.now) c.loop-object.object (omega (arith, length-map c.args.files.now parsed))) c.loop-object.invariant.done)

pub returns-clause-exact : goal.returns-clause-exact
returns-clause-exact c = λ e cause some. some (no_cause_in_scans (file_bytes (all_parsed c.args.files.now)) c.args.placements.now c.loop-object.scans.items e (returns-clause-scans c) cause)

use Rattle.std.proofs.Common.{◌≡◌, List, MatchResult, inr, refl, ap, subst, sym, ◌∙◌}
use Rattle.std.proofs.lemmas.Result.{err_from_is_err_and}
use Rattle.elf_view.specs.declared.any_file.AnyFile.{AnyFile}
use Rattle.gdb_tables.specs.Files.{all_parsed, file_bytes, ArePlacedIn}
use Rattle.derivation.specs.Input.{input_given}
use Rattle.derivation.specs.steps.Derived.{HasTablesOf, IsRefusedBy}
use Rattle.derivation.proofs.Composing.{few_files, small_files, misplaced_cause, index_cause, tables_of, sframe_cause}
use Rattle.derivation.proofs.derive.derive_phases.Goals as goal

-- the files, as each step sees them
parsed_then : (fs gs : List AnyFile) → fs ≡ gs → all_parsed fs ≡ all_parsed gs
parsed_then fs gs same = ap (λ (l : List AnyFile). all_parsed l) same

pub returns-in-Some-first_misplaced : goal.returns-in-Some-first_misplaced
returns-in-Some-first_misplaced c =
    inr (misplaced_cause (input_given c.args.input.now) (all_parsed c.deref.result.now) c.in-Some-first_misplaced.index (parsed_then _ _ c.deref.ensures.value ∙ c.in-Ok.ensures.files) (c.in_default.ensures.none refl) c.in-Ok.ensures.sound c.in-Some-first_misplaced.ensures.first)

pub build_index-requires-clause-few : goal.build_index-requires-clause-few
build_index-requires-clause-few c = few_files c.args.input.now.buffer.now c.args.input.now.objects.now c.deref-2.result.now (parsed_then _ _ c.deref-2.ensures.value ∙ c.in-Ok.ensures.files) c.requires.objects

pub build_index-requires-clause-small : goal.build_index-requires-clause-small
build_index-requires-clause-small c = small_files c.args.input.now.buffer.now c.args.input.now.objects.now (all_parsed c.deref-2.result.now) (parsed_then _ _ c.deref-2.ensures.value ∙ c.in-Ok.ensures.files) c.requires.buffer

pub build_index-requires-clause-placements : goal.build_index-requires-clause-placements
build_index-requires-clause-placements c =
    subst (λ (fs : List AnyFile). ArePlacedIn (file_bytes (all_parsed fs)) c.args.input.now.placements.now) (c.deref.ensures.value ∙ sym c.deref-2.ensures.value) (c.in_default-first_misplaced.ensures.none refl)

pub returns-in_err-tables : goal.returns-in_err-tables
returns-in_err-tables c =
    let input = input_given c.args.input.now in
    let placed = subst (λ (fs : List AnyFile). ArePlacedIn (file_bytes (all_parsed fs)) c.args.input.now.placements.now) (c.deref.ensures.value ∙ sym c.deref-2.ensures.value) (c.in_default-first_misplaced.ensures.none refl) in
    let p = err_from_is_err_and c.from_residual.result c.from_residual.ensures.1 in
    subst (λ r. MatchResult r (HasTablesOf input) (IsRefusedBy input)) (sym p.1)
    (index_cause input (all_parsed c.deref-2.result.now) c.in_err-tables.field-0.0 p.0 (parsed_then _ _ c.deref-2.ensures.value ∙ c.in-Ok.ensures.files) (c.in_default.ensures.none refl) c.in-Ok.ensures.sound placed p.2 c.in_err-tables.ensures.cause)

pub returns-in-Ok-order_sframe : goal.returns-in-Ok-order_sframe
returns-in-Ok-order_sframe c =
    let input = input_given c.args.input.now in
    let placed = subst (λ (fs : List AnyFile). ArePlacedIn (file_bytes (all_parsed fs)) c.args.input.now.placements.now) (c.deref.ensures.value ∙ sym c.deref-2.ensures.value) (c.in_default-first_misplaced.ensures.none refl) in
    let indexed = c.in_ok-tables.ensures in
    let ordered = c.in-Ok-order_sframe.ensures in
    tables_of input (all_parsed c.deref-2.result.now) _ (parsed_then _ _ c.deref-2.ensures.value ∙ c.in-Ok.ensures.files) (c.in_default.ensures.none refl) c.in-Ok.ensures.sound placed indexed.indexable indexed.relocated ordered.valid indexed.index ordered.sorted

pub returns : goal.returns
returns c =
    let input = input_given c.args.input.now in
    let placed = subst (λ (fs : List AnyFile). ArePlacedIn (file_bytes (all_parsed fs)) c.args.input.now.placements.now) (c.deref.ensures.value ∙ sym c.deref-2.ensures.value) (c.in_default-first_misplaced.ensures.none refl) in
    let indexed = c.in_ok-tables.ensures in
    sframe_cause input (all_parsed c.deref-2.result.now) c.in-Err-order_sframe.error (parsed_then _ _ c.deref-2.ensures.value ∙ c.in-Ok.ensures.files) (c.in_default.ensures.none refl) c.in-Ok.ensures.sound placed indexed.indexable indexed.relocated c.in-Err-order_sframe.ensures.cause

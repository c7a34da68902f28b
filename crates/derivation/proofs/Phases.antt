-- An input is refused for one cause, that of the first condition which does not hold; a valid one for none. The laws of
-- lower crates are arguments.
use Rattle.gdb_scan.specs.declared.error.GdbError.{GdbError}
use Rattle.gdb_scan.specs.declared.error.GdbError.TheVariants as gdb
use Rattle.gdb_tables.specs.Misplaced.{misplaced}
use Rattle.sframe_format.specs.declared.fault.SframeFault.{SframeFault}
use Rattle.sframe_format.specs.declared.fault.SframeFault.TheVariants as faults
use Rattle.std.proofs.Common.{◌≡◌, ◌⊎◌, ℕ, ◌<◌, [], Option, false, not, Some, None, List, length, take, get_or, ap, sym, ◌∙◌, subst, arith, inl, inr}
use Rattle.std.specs.Prelude.{position, unwrap_or}
use Rattle.std.proofs.lemmas.Bool.{false≢true, cases_order}
use Rattle.std.proofs.lemmas.Bool.Decides.{nat_tests}
use Rattle.std.proofs.lemmas.List.{get_or-take, length-take-le}
use Rattle.std.proofs.lemmas.List.Quantifiers.{position-Some}
use Rattle.std.proofs.lemmas.Option.{get_or_from_slice_get, slice_get_within}
use Rattle.elf_format.specs.declared.architecture.Architecture.{Architecture}
use Rattle.elf_format.specs.declared.error.ElfError.{ElfError}
use Rattle.elf_format.specs.declared.index.Span.{Span}
use Rattle.elf_format.specs.Span.{IsInside, AreInside, is_inside}
use Rattle.elf_view.specs.Parsed.{Parsed}
use Rattle.gdb_index_format.specs.declared.placement.Placement.{Placement}
use Rattle.gdb_index_format.specs.declared.unit.CuBoundary.{CuBoundary}
use Rattle.gdb_index_format.specs.Objects.{ObjectsAreOne}
use Rattle.gdb_tables.specs.Addresses.{first_relocation_fault}
use Rattle.gdb_tables.specs.Files as files
use Rattle.gdb_tables.specs.Laws.{HasOneSizeCause, IndexableHasNoCause}
use Rattle.sframe_order.specs.Laws.{IsRefusedOnlyForMemory, HasOneSortCause}
use Rattle.derivation.specs.declared.error.DeriveError.{DeriveError}
use Rattle.derivation.specs.declared.error.DeriveError.TheVariants as errors
use Rattle.derivation.specs.Input.{Input}
use Rattle.derivation.specs.Objects.{objects_of, parsed_of, object_fault, AreObjects, IsFirstFaulty}
use Rattle.gdb_index_format.specs.Version.{version_number}
use Rattle.gdb_tables.specs.Index.{AreRelocated}
use Rattle.derivation.specs.Valid.{HasSpans, HasObjects, HasPlacements, HasIndex, HasRelocations, HasSframe, IsValid}
use Rattle.derivation.specs.Cause.{IsSpanCause, IsObjectCause, IsPlacementCause, IsIndexCause, IsUnrelocated, IsRelocationCause, IsSframeCause, HasCause, in_spans, in_objects, in_placements, in_index, in_relocations, in_sframe, of_gdb_error, of_sframe_fault}

-- a refusal of one condition, or, where that holds, of what is asked after it
Then : Type 0 → (DeriveError → Type 0) → (DeriveError → Type 0) → DeriveError → Type 0
Then passes fails later e = fails e ⊎ (passes × later e)

IsOne : (DeriveError → Type 0) → Type 0
IsOne fails = (e f : DeriveError) → fails e → fails f → e ≡ f

Excludes : Type 0 → (DeriveError → Type 0) → Type 0
Excludes passes fails = (e : DeriveError) → passes → fails e → ⊥

one_then : (P : Type 0) (F G : DeriveError → Type 0) → Excludes P F → IsOne F → IsOne G → IsOne (Then P F G)
unfolding Then IsOne Excludes
one_then P F G out one later e f (inl a) (inl b) = one e f a b
one_then P F G out one later e f (inl a) (inr b) = absurd (out e b.0 a)
one_then P F G out one later e f (inr a) (inl b) = absurd (out f a.0 b)
one_then P F G out one later e f (inr a) (inr b) = later e f a.1 b.1

none_then : (P : Type 0) (F G : DeriveError → Type 0) → Excludes P F → P → ((e : DeriveError) → G e → ⊥) → (e : DeriveError) → Then P F G e → ⊥
unfolding Then Excludes
none_then P F G out passes later e (inl a) = out e passes a
none_then P F G out passes later e (inr a) = later e a.1

-- spans
inside_passes : (n : ℕ) (s : Span) → IsInside n s → not (is_inside n s) ≡ false
inside_passes n s inside = let a = inside.ordered in let b = inside.below in grind (arith, nat_tests)

no_outside : (n : ℕ) (spans : List Span) (p : ℕ) → AreInside n spans → position (λ s. not (is_inside n s)) spans ≡ Some p → ⊥
no_outside n spans p inside found =
    let none : Span = record { start = 0; stop = 0 } in
    let at = position-Some (λ (s : Span). not (is_inside n s)) spans p none found in
    false≢true (sym (inside_passes n (get_or spans p none) (inside p none at.0)) ∙ at.1)

no_span_cause : (input : Input) → Excludes (HasSpans input) (IsSpanCause input)
unfolding Excludes
no_span_cause input e passes cause = no_outside (length input.buffer) input.objects cause.0 passes cause.2

same_place : {X : Type 0} (found : Option X) (p q : X) → found ≡ Some p → found ≡ Some q → p ≡ q
same_place found p q a b = cc

one_span : (input : Input) → IsOne (IsSpanCause input)
unfolding IsOne
one_span input e f left right = left.1 ∙ ap (λ p. errors.BadSpan p) (same_place (position (λ s. not (is_inside (length input.buffer) s)) input.objects) left.0 right.0 left.2 right.2) ∙ sym right.1

-- objects
no_faulty : (expected : Architecture) (bytes : List (List ℕ)) (p : ℕ) (kind : ElfError) → AreObjects expected bytes → IsFirstFaulty expected bytes p kind → ⊥
no_faulty expected bytes p kind fine faulty =
    let at : get_or bytes p [] ≡ faulty.file = get_or_from_slice_get bytes p faulty.file [] faulty.there in
    let none : object_fault expected faulty.file ≡ None = subst (λ (b : List ℕ). object_fault expected b ≡ None) at (fine p [] (slice_get_within bytes p faulty.file faulty.there)) in
    let some = faulty.fault_is in cc

-- the first does not stand before another first
not_before : (expected : Architecture) (bytes : List (List ℕ)) (p q : ℕ) (k l : ElfError) → IsFirstFaulty expected bytes p k → IsFirstFaulty expected bytes q l → p < q → ⊥
not_before expected bytes p q k l left right before =
    let within : p < length bytes = slice_get_within bytes p left.file left.there in
    let beyond : q < length bytes = slice_get_within bytes q right.file right.there in
    let at : get_or (take q bytes) p [] ≡ left.file = get_or-take q bytes p [] before ∙ get_or_from_slice_get bytes p left.file [] left.there in
    let none : object_fault expected left.file ≡ None = subst (λ (b : List ℕ). object_fault expected b ≡ None) at (right.before p [] (omega (arith, length-take-le q bytes (omega (arith, beyond)), before))) in
    let some = left.fault_is in cc

same_kind : (expected : Architecture) (bytes : List (List ℕ)) (p q : ℕ) (k l : ElfError) → p ≡ q → IsFirstFaulty expected bytes p k → IsFirstFaulty expected bytes q l → k ≡ l
same_kind expected bytes p q k l place left right =
    let a = left.there in let b = right.there in let x = left.fault_is in let y = right.fault_is in
    let file : left.file ≡ right.file = cc in
    cc

one_faulty : (expected : Architecture) (bytes : List (List ℕ)) (p q : ℕ) (k l : ElfError) → IsFirstFaulty expected bytes p k → IsFirstFaulty expected bytes q l → errors.BadElf p k ≡ errors.BadElf q l
one_faulty expected bytes p q k l left right =
    elim (cases_order p q) [
      | inl same ↦ (let kind = same_kind expected bytes p q k l same left right in cc)
      | inr apart ↦ elim apart [
        | inl before ↦ absurd (not_before expected bytes p q k l left right before)
        | inr after ↦ absurd (not_before expected bytes q p l k right left after)
      ]
    ]

no_object_cause : (input : Input) → Excludes (HasObjects input) (IsObjectCause input)
unfolding Excludes
no_object_cause input e passes cause = no_faulty input.machine (objects_of input.buffer input.objects) cause.0 cause.1 passes cause.3

one_object : (input : Input) → IsOne (IsObjectCause input)
unfolding IsOne
one_object input e f left right = left.2 ∙ one_faulty input.machine (objects_of input.buffer input.objects) left.0 right.0 left.1 right.1 left.3 right.3 ∙ sym right.2

-- placements in their order have none that is misplaced
abbrev pub PlacedAreNotMisplaced : Type 0
PlacedAreNotMisplaced = (bytes : List (List ℕ)) (ps : List Placement) → files.ArePlacedIn bytes ps → misplaced bytes ps ≡ None

no_placement_cause : PlacedAreNotMisplaced → (input : Input) → Excludes (HasPlacements input) (IsPlacementCause input)
unfolding Excludes
no_placement_cause none_misplaced input e passes cause = let none = none_misplaced (objects_of input.buffer input.objects) input.placements passes in let some = cause.2 in cc

one_placement : (input : Input) → IsOne (IsPlacementCause input)
unfolding IsOne
one_placement input e f left right = left.1 ∙ ap (λ p. errors.BadPlacement p) (same_place (misplaced (objects_of input.buffer input.objects) input.placements) left.0 right.0 left.2 right.2) ∙ sym right.1

-- the index
no_index_cause : IndexableHasNoCause → (input : Input) → Excludes (HasIndex input) (IsIndexCause input)
unfolding Excludes
no_index_cause indexable input e passes cause = cause.1 (indexable (version_number input.version) (objects_of input.buffer input.objects) input.placements cause.0 passes cause.3)

one_index : HasOneSizeCause → (input : Input) → IsOne (IsIndexCause input)
unfolding IsOne
one_index one input e f left right = left.2 ∙ ap of_gdb_error (one (version_number input.version) (objects_of input.buffer input.objects) input.placements left.0 right.0 left.3 right.3 left.1 right.1) ∙ sym right.2

-- relocations
not_both : {X : Type 0} (found : Option X) (x : X) → found ≡ None → found ≡ Some x → ⊥
not_both found x none some = cc

no_unrelocated : (parsed : List Parsed) → Excludes (AreRelocated parsed) (IsUnrelocated parsed)
unfolding Excludes
no_unrelocated parsed e passes cause = not_both (first_relocation_fault parsed cause.0) (cause.1, cause.2) (passes cause.0 cause.4) cause.5

same_elf : (p q : ℕ) (k l : ElfError) → ◌≡◌ {A = Option (ℕ × ElfError)} (Some (p, k)) (Some (q, l)) → errors.BadElf p k ≡ errors.BadElf q l
same_elf p q k l same = ap (λ (found : Option (ℕ × ElfError)). errors.BadElf (unwrap_or found (p, k)).0 (unwrap_or found (p, k)).1) same

one_unrelocated : ObjectsAreOne → (parsed : List Parsed) → IsOne (IsUnrelocated parsed)
unfolding IsOne
one_unrelocated objects parsed e f left right =
    let same : left.0 ≡ right.0 = objects.one_units (files.file_bytes parsed) left.0 right.0 left.4 right.4 in
    let found : first_relocation_fault parsed right.0 ≡ Some (left.1, left.2) = subst (λ (uss : List (List CuBoundary)). first_relocation_fault parsed uss ≡ Some (left.1, left.2)) same left.5 in
    left.3 ∙ same_elf left.1 right.1 left.2 right.2 (sym found ∙ right.5) ∙ sym right.3

-- the SFrame section
no_sframe_cause : IsRefusedOnlyForMemory → (input : Input) → Excludes (HasSframe input) (IsSframeCause input)
unfolding Excludes
no_sframe_cause sortable input e passes cause = cause.1 (sortable input.sframe input.ranges cause.0 passes cause.3)

one_sframe : HasOneSortCause → (input : Input) → IsOne (IsSframeCause input)
unfolding IsOne
one_sframe one input e f left right = left.2 ∙ ap of_sframe_fault (one input.sframe input.ranges left.0 right.0 left.1 right.1 left.3 right.3) ∙ sym right.2

-- all of them, one after another
After4 : Input → DeriveError → Type 0
After4 input = Then (HasRelocations input) (IsRelocationCause input) (IsSframeCause input)

After3 : Input → DeriveError → Type 0
After3 input = Then (HasIndex input) (IsIndexCause input) (After4 input)

After2 : Input → DeriveError → Type 0
After2 input = Then (HasPlacements input) (IsPlacementCause input) (After3 input)

After1 : Input → DeriveError → Type 0
After1 input = Then (HasObjects input) (IsObjectCause input) (After2 input)

Nested : Input → DeriveError → Type 0
Nested input = Then (HasSpans input) (IsSpanCause input) (After1 input)

nested : (input : Input) (e : DeriveError) → HasCause input e → Nested input e
unfolding Nested After1 After2 After3 After4 Then
nested input e (in_spans cause) = inl cause
nested input e (in_objects a cause) = inr (a, inl cause)
nested input e (in_placements a b cause) = inr (a, inr (b, inl cause))
nested input e (in_index a b c cause) = inr (a, inr (b, inr (c, inl cause)))
nested input e (in_relocations a b c d cause) = inr (a, inr (b, inr (c, inr (d, inl cause))))
nested input e (in_sframe a b c d g cause) = inr (a, inr (b, inr (c, inr (d, inr (g, cause)))))

-- the laws of lower crates
pub record Cited : Type 0 where
  pub objects : ObjectsAreOne
  pub misplaced : PlacedAreNotMisplaced
  pub size : HasOneSizeCause
  pub indexable : IndexableHasNoCause
  pub sframe : HasOneSortCause
  pub sortable : IsRefusedOnlyForMemory

one_nested : Cited → (input : Input) → IsOne (Nested input)
unfolding Nested After1 After2 After3 After4
one_nested laws input =
    one_then (HasSpans input) (IsSpanCause input) (After1 input) (no_span_cause input) (one_span input)
    (one_then (HasObjects input) (IsObjectCause input) (After2 input) (no_object_cause input) (one_object input)
    (one_then (HasPlacements input) (IsPlacementCause input) (After3 input) (no_placement_cause laws.misplaced input) (one_placement input)
    (one_then (HasIndex input) (IsIndexCause input) (After4 input) (no_index_cause laws.indexable input) (one_index laws.size input)
    (one_then (HasRelocations input) (IsRelocationCause input) (IsSframeCause input) (no_unrelocated (parsed_of input.buffer input.objects)) (one_unrelocated laws.objects (parsed_of input.buffer input.objects)) (one_sframe laws.sframe input)))))

none_nested : PlacedAreNotMisplaced → IndexableHasNoCause → IsRefusedOnlyForMemory → (input : Input) → IsValid input → (e : DeriveError) → Nested input e → ⊥
unfolding Nested After1 After2 After3 After4 Excludes
none_nested none_misplaced indexable sortable input valid =
    none_then (HasSpans input) (IsSpanCause input) (After1 input) (no_span_cause input) valid.spans
    (none_then (HasObjects input) (IsObjectCause input) (After2 input) (no_object_cause input) valid.objects
    (none_then (HasPlacements input) (IsPlacementCause input) (After3 input) (no_placement_cause none_misplaced input) valid.placements
    (none_then (HasIndex input) (IsIndexCause input) (After4 input) (no_index_cause indexable input) valid.index
    (none_then (HasRelocations input) (IsRelocationCause input) (IsSframeCause input) (no_unrelocated (parsed_of input.buffer input.objects)) valid.relocations
    (λ e cause. no_sframe_cause sortable input e valid.sframe cause)))))

pub one_refusal : Cited → (input : Input) (e f : DeriveError) → HasCause input e → HasCause input f → e ≡ f
unfolding IsOne
one_refusal laws input e f left right = one_nested laws input e f (nested input e left) (nested input f right)

pub no_refusal : PlacedAreNotMisplaced → IndexableHasNoCause → IsRefusedOnlyForMemory → (input : Input) (e : DeriveError) → IsValid input → HasCause input e → ⊥
no_refusal none_misplaced indexable sortable input e valid cause = none_nested none_misplaced indexable sortable input valid e (nested input e cause)

-- spans inside are no cause of a bad span
not_of_gdb : (place : ℕ) (g : GdbError) → errors.BadSpan place ≡ of_gdb_error g → ⊥
not_of_gdb place (gdb.BadElf object kind) is = cc
not_of_gdb place (gdb.CompressedSection object section) is = cc
not_of_gdb place (gdb.BadUnit object offset fault) is = cc
not_of_gdb place (gdb.BadPubnames object section) is = cc
not_of_gdb place (gdb.TooManyUnits count) is = cc
not_of_gdb place (gdb.IndexTooLarge size) is = cc
not_of_gdb place gdb.NoMemory is = cc

not_of_sframe : (place : ℕ) (g : SframeFault) → errors.BadSpan place ≡ of_sframe_fault g → ⊥
not_of_sframe place (faults.BadRange at) is = cc
not_of_sframe place (faults.BadMagic value offset) is = cc
not_of_sframe place (faults.Truncated kind offset) is = cc
not_of_sframe place (faults.TooLarge kind needed limit) is = cc
not_of_sframe place (faults.AddressRange function value) is = cc
not_of_sframe place faults.NoMemory is = cc

pub no_bad_span : (input : Input) (place : ℕ) → HasSpans input → HasCause input (errors.BadSpan place) → ⊥
unfolding Excludes
no_bad_span input place inside (in_spans cause) = no_span_cause input (errors.BadSpan place) inside cause
no_bad_span input place inside (in_objects a cause) = let is = cause.2 in cc
no_bad_span input place inside (in_placements a b cause) = let is = cause.1 in cc
no_bad_span input place inside (in_index a b c cause) = not_of_gdb place cause.0 cause.2
no_bad_span input place inside (in_relocations a b c d cause) = let is = cause.3 in cc
no_bad_span input place inside (in_sframe a b c d g cause) = not_of_sframe place cause.0 cause.2

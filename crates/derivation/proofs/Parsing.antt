-- Objects that are parsed one after another.
use Rattle.std.proofs.Common.{◌≡◌, ℕ, zero, suc, ◌+◌, ◌<◌, Some, None, List, [], ◌∷◌, ◌++◌, length, map, take, get_or, refl, ap, sym, ◌∙◌, subst, arith}
use Rattle.std.specs.Prelude.{slice_get}
use Rattle.std.proofs.lemmas.List.{take_more, map_push, take-map}
use Rattle.std.proofs.lemmas.List.Elements.{All-push}
use Rattle.elf_format.specs.declared.architecture.Architecture.{Architecture}
use Rattle.elf_format.specs.declared.error.ElfError.{ElfError}
use Rattle.elf_format.specs.declared.index.Span.{Span}
use Rattle.elf_format.specs.Span.{span_bytes}
use Rattle.elf_view.specs.declared.any_file.AnyFile.{AnyFile}
use Rattle.elf_view.specs.AnyFile.{parsed}
use Rattle.elf_view.specs.Parsed.{Parsed}
use Rattle.gdb_tables.specs.Files.{all_parsed}
use Rattle.derivation.specs.Objects.{objects_of, parsed_at, parsed_of, object_fault, AreObjects, IsFirstFaulty}

abbrev pub no_span : Span
no_span = record { start = 0; stop = 0 }

next_objects : (buffer : List ℕ) (spans : List Span) (k : ℕ) → k < length spans → objects_of buffer (take (k + 1) spans) ≡ objects_of buffer (take k spans) ++ span_bytes buffer (get_or spans k no_span) ∷ []
next_objects buffer spans k below = ap (map (span_bytes buffer)) (take_more spans k no_span below) ∙ map_push (span_bytes buffer) (take k spans) (get_or spans k no_span)

next_parsed : (buffer : List ℕ) (spans : List Span) (k : ℕ) → k < length spans → parsed_of buffer (take (k + 1) spans) ≡ parsed_of buffer (take k spans) ++ parsed_at buffer (get_or spans k no_span) ∷ []
next_parsed buffer spans k below = ap (map (parsed_at buffer)) (take_more spans k no_span below) ∙ map_push (parsed_at buffer) (take k spans) (get_or spans k no_span)

-- one more file
pub more_parsed : (buffer : List ℕ) (spans : List Span) (k : ℕ) (done items : List AnyFile) (file : AnyFile) → k < length spans → all_parsed done ≡ parsed_of buffer (take k spans) → parsed file ≡ parsed_at buffer (get_or spans k no_span) → items ≡ done ++ file ∷ [] → all_parsed items ≡ parsed_of buffer (take (k + 1) spans)
more_parsed buffer spans k done items file below held one pushed =
    ap (λ (fs : List AnyFile). all_parsed fs) pushed
    ∙ map_push parsed done file
    ∙ ap (λ (fs : List Parsed). fs ++ parsed file ∷ []) held
    ∙ ap (λ (f : Parsed). parsed_of buffer (take k spans) ++ f ∷ []) one
    ∙ sym (next_parsed buffer spans k below)

-- one more that is well formed
pub more_sound : (expected : Architecture) (buffer : List ℕ) (spans : List Span) (k : ℕ) → k < length spans → AreObjects expected (objects_of buffer (take k spans)) → None ≡ object_fault expected (span_bytes buffer (get_or spans k no_span)) → AreObjects expected (objects_of buffer (take (k + 1) spans))
more_sound expected buffer spans k below done none =
    subst (AreObjects expected) (sym (next_objects buffer spans k below))
    (All-push (λ file. object_fault expected file ≡ None) (objects_of buffer (take k spans)) (span_bytes buffer (get_or spans k no_span)) done (sym none))

there_at : {X Y : Type 0} (f : X → Y) (xs : List X) (k : ℕ) (d : X) → k < length xs → slice_get (map f xs) k ≡ Some (f (get_or xs k d))
there_at f [] k d below = absurd (omega arith)
there_at f (x ∷ xs) zero d below = refl
there_at f (x ∷ xs) (suc k) d below = there_at f xs k d (omega arith)

-- the first that is not
pub first_faulty : (expected : Architecture) (buffer : List ℕ) (spans : List Span) (k : ℕ) (kind : ElfError) → k < length spans → AreObjects expected (objects_of buffer (take k spans)) → Some kind ≡ object_fault expected (span_bytes buffer (get_or spans k no_span)) → IsFirstFaulty expected (objects_of buffer spans) k kind
first_faulty expected buffer spans k kind below done fault = record {
  file = span_bytes buffer (get_or spans k no_span);
  there = there_at (span_bytes buffer) spans k no_span below;
  before = subst (AreObjects expected) (sym (take-map (span_bytes buffer) k spans)) done;
  fault_is = sym fault;
}

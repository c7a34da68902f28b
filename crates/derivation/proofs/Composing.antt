-- The phases of an input over its parsed objects, put together.
use Rattle.std.proofs.Common.{◌≡◌, ◌⊎◌, ◌∙◌, ◌^◌, ◌<◌, ◌≤◌, ◌-◌, drop, ℕ, zero, suc, Some, List, [], ◌∷◌, length, refl, ap, sym, subst, arith, inl, inr}
use Rattle.std.proofs.lemmas.List.{length-map, length-take, length-drop}
use Rattle.std.specs.List.{All}
use Rattle.elf_format.specs.declared.index.Span.{Span}
use Rattle.elf_format.specs.Span as spans
use Rattle.elf_view.specs.declared.any_file.AnyFile.{AnyFile}
use Rattle.elf_view.specs.AnyFile.{parsed}
use Rattle.elf_view.specs.Parsed.{Parsed}
use Rattle.gdb_tables.specs.Files.{all_parsed, file_bytes, ArePlacedIn}
use Rattle.gdb_tables.specs.Misplaced.{misplaced}
use Rattle.gdb_tables.specs.Sized.{IsIndexable}
use Rattle.sframe_format.specs.Valid as frames
use Rattle.derivation.specs.declared.error.DeriveError.{DeriveError}
use Rattle.derivation.specs.declared.error.DeriveError.TheVariants.{BadPlacement, NoMemory}
use Rattle.derivation.specs.Input.{Input}
use Rattle.derivation.specs.Objects.{objects_of, parsed_at, parsed_of}
use Rattle.gdb_index_format.specs.Version.{version_number}
use Rattle.gdb_scan.specs.declared.error.GdbError.{GdbError}
use Rattle.gdb_tables.specs.Index as build
use Rattle.gdb_tables.specs.Index.{AreRelocated, IsBuildCause, IsIndexOf, in_size}
use Rattle.sframe_format.specs.Sorted.{SortOf}
use Rattle.derivation.specs.declared.derive.Derived.{Derived}
use Rattle.derivation.specs.steps.Derived.{HasTablesOf, IsRefusedBy}
use Rattle.derivation.proofs.Refusing.{unsized, unrelocated}
use Rattle.derivation.specs.Valid.{HasSpans, HasObjects, HasPlacements, HasIndex, HasRelocations}
use Rattle.derivation.specs.Cause.{of_gdb_error, IsUnsized, IsUnrelocated, IsUnordered, HasCause, in_placements, in_index, in_relocations, in_sframe}

pub bytes_again : (buffer : List ℕ) (list : List Span) → file_bytes (parsed_of buffer list) ≡ objects_of buffer list
bytes_again buffer [] = refl
bytes_again buffer (span ∷ list) = ap (λ (rest : List (List ℕ)). spans.span_bytes buffer span ∷ rest) (bytes_again buffer list)

-- the objects' bytes, by the objects that were parsed
bytes_are : (input : Input) (parsed : List Parsed) → parsed ≡ parsed_of input.buffer input.objects → file_bytes parsed ≡ objects_of input.buffer input.objects
bytes_are input parsed same = ap (λ (list : List Parsed). file_bytes list) same ∙ bytes_again input.buffer input.objects

short : (buffer : List ℕ) (span : Span) → length (spans.span_bytes buffer span) ≤ length buffer
short buffer span = omega (arith, length-take (span.stop - span.start) (drop span.start buffer), length-drop span.start buffer)

short_files : (buffer : List ℕ) (list : List Span) → length buffer < 2 ^ 39 → All (λ file. length file.bytes < 2 ^ 39) (parsed_of buffer list)
short_files buffer [] small k d below = absurd (omega arith)
short_files buffer (span ∷ list) small zero d below = let le = short buffer span in omega (arith, le, small)
short_files buffer (span ∷ list) small (suc k) d below = short_files buffer list small k d (omega arith)

-- as many files as objects
pub few_files : (buffer : List ℕ) (list : List Span) (files : List AnyFile) → all_parsed files ≡ parsed_of buffer list → length list < 2 ^ 24 → length files < 2 ^ 24
few_files buffer list files same few = omega (arith, length-map files parsed, ap (λ (l : List Parsed). length l) same, length-map list (parsed_at buffer), few)

pub small_files : (buffer : List ℕ) (list : List Span) (parsed : List Parsed) → parsed ≡ parsed_of buffer list → length buffer < 2 ^ 39 → All (λ file. length file.bytes < 2 ^ 39) parsed
small_files buffer list parsed same small = subst (λ (fs : List Parsed). All (λ file. length file.bytes < 2 ^ 39) fs) (sym same) (short_files buffer list small)

placed_at : (input : Input) (parsed : List Parsed) → parsed ≡ parsed_of input.buffer input.objects → ArePlacedIn (file_bytes parsed) input.placements → HasPlacements input
placed_at input parsed same placed = subst (λ (files : List (List ℕ)). ArePlacedIn files input.placements) (bytes_are input parsed same) placed

indexed_at : (input : Input) (parsed : List Parsed) → parsed ≡ parsed_of input.buffer input.objects → IsIndexable (version_number input.version) (file_bytes parsed) input.placements → HasIndex input
indexed_at input parsed same indexable = subst (λ (files : List (List ℕ)). IsIndexable (version_number input.version) files input.placements) (bytes_are input parsed same) indexable

pub misplaced_cause : (input : Input) (parsed : List Parsed) (place : ℕ) → parsed ≡ parsed_of input.buffer input.objects → HasSpans input → HasObjects input → Some place ≡ misplaced (file_bytes parsed) input.placements → HasCause input (BadPlacement place)
misplaced_cause input parsed place same inside sound found =
    in_placements inside sound (place, refl, subst (λ (files : List (List ℕ)). misplaced files input.placements ≡ Some place) (bytes_are input parsed same) (sym found))

pub index_cause : (input : Input) (parsed : List Parsed) (g : GdbError) (e : DeriveError) → parsed ≡ parsed_of input.buffer input.objects → HasSpans input → HasObjects input → ArePlacedIn (file_bytes parsed) input.placements
    → e ≡ of_gdb_error g → IsBuildCause (version_number input.version) parsed input.placements g → IsRefusedBy input e
index_cause input parsed g e same inside sound placed told (in_size cause) =
    elim (unsized (version_number input.version) (file_bytes parsed) input.placements g e told cause) [
      | inl memory ↦ inl memory
      | inr other ↦ inr (in_index inside sound (placed_at input parsed same placed) (subst (λ (files : List (List ℕ)). IsUnsized (version_number input.version) files input.placements e) (bytes_are input parsed same) other))
    ]
index_cause input parsed g e same inside sound placed told (build.in_relocations index uss held cause) =
    elim (unrelocated parsed uss g e told held cause) [
      | inl memory ↦ inl memory
      | inr other ↦ inr (in_relocations inside sound (placed_at input parsed same placed) (indexed_at input parsed same index) (subst (λ (fs : List Parsed). IsUnrelocated fs e) same other))
    ]

relocated_at : (input : Input) (parsed : List Parsed) → parsed ≡ parsed_of input.buffer input.objects → AreRelocated parsed → HasRelocations input
relocated_at input parsed same relocated = subst (λ (fs : List Parsed). AreRelocated fs) same relocated

-- the tables of valid input
pub tables_of : (input : Input) (parsed : List Parsed) (derived : Derived) → parsed ≡ parsed_of input.buffer input.objects → HasSpans input → HasObjects input → ArePlacedIn (file_bytes parsed) input.placements → IsIndexable (version_number input.version) (file_bytes parsed) input.placements → AreRelocated parsed → frames.IsSortable input.sframe input.ranges
    → IsIndexOf (version_number input.version) parsed input.placements derived.units.items derived.names.items derived.index.items → SortOf input.sframe input.ranges derived.sframe.items derived.outcome → HasTablesOf input derived
tables_of input parsed derived same inside sound placed indexable relocated ordered index sorted = record {
  valid = record {
    spans = inside;
    objects = sound;
    placements = placed_at input parsed same placed;
    index = indexed_at input parsed same indexable;
    relocations = relocated_at input parsed same relocated;
    sframe = ordered;
  };
  index = subst (λ (fs : List Parsed). IsIndexOf (version_number input.version) fs input.placements derived.units.items derived.names.items derived.index.items) same index;
  sframe = sorted;
}

pub sframe_cause : (input : Input) (parsed : List Parsed) (e : DeriveError) → parsed ≡ parsed_of input.buffer input.objects → HasSpans input → HasObjects input → ArePlacedIn (file_bytes parsed) input.placements → IsIndexable (version_number input.version) (file_bytes parsed) input.placements → AreRelocated parsed
    → (e ≡ NoMemory) ⊎ IsUnordered input.sframe input.ranges e → IsRefusedBy input e
sframe_cause input parsed e same inside sound placed indexable relocated cause =
    elim cause [
      | inl memory ↦ inl memory
      | inr unordered ↦ inr (in_sframe inside sound (placed_at input parsed same placed) (indexed_at input parsed same indexable) (relocated_at input parsed same relocated) unordered)
    ]

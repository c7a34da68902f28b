-- The input of a number up to 1000 is valid.
use Rattle.std.proofs.Common.{◌≡◌, ℕ, zero, suc, ◌+◌, ◌*◌, ◌/◌, ◌^◌, ◌<◌, ◌≤◌, Bool, true, false, cond, List, [], ◌∷◌, length, map, get_or, Option, Some, None, refl, sym, ap, subst, ◌∙◌, inl, arith}
use Rattle.std.specs.Prelude.{nat_lt, slice_get, option_map}
use Rattle.std.specs.Option.{option_or}
use Rattle.std.specs.List.{AllPairs, range_with_len}
use Rattle.std.proofs.lemmas.List.Elements.{All-map}
use Rattle.std.proofs.lemmas.List.FromFn.{length-map-range_with_len, get_or-map-range_with_len}
use Rattle.elf_format.specs.declared.architecture.Architecture.TheVariants.{X86_64}
use Rattle.elf_format.specs.declared.error.ElfError.{ElfError}
use Rattle.elf_format.specs.declared.index.Span.{Span}
use Rattle.elf_format.specs.Bytes.{le}
use Rattle.elf_format.specs.Fault.{has_header, has_machine, has_section_headers, has_symbols, has_versions, fault}
use Rattle.elf_format.specs.Section.{section_count, name_table_index, sections, section_bytes, name_table}
use Rattle.gdb_index_format.specs.declared.placement.Placement.{Placement}
use Rattle.gdb_index_format.specs.declared.unit.CuBoundary.{CuBoundary}
use Rattle.gdb_index_format.specs.Addresses.{relocation_fault, unit_relocation_fault}
use Rattle.gdb_index_format.specs.Objects.{class_in, AreObjectsOf}
use Rattle.gdb_index_format.specs.Placed.{placed}
use Rattle.gdb_index_format.specs.Published.{Object, unit_lists}
use Rattle.gdb_index_format.specs.Version.{version_number}
use Rattle.derivation.specs.Objects.{parsed_at, parsed_of, objects_of, object_fault, AreObjects}
use Rattle.elf_view.specs.Parsed.{Parsed}
use Rattle.gdb_scan.specs.PlacedIn.{IsBefore}
use Rattle.gdb_tables.specs.Addresses.{fault_from}
use Rattle.gdb_tables.specs.Files.{IsThere, ArePlacedIn}
use Rattle.gdb_tables.specs.Index.{AreRelocated}
use Rattle.gdb_tables.specs.Sized.{IsIndexable}
use Rattle.demo_input.specs.Object.{object_with, last_digit, common_flag, numbered_object, numbered_holding, numbered_placement}
use Rattle.demo_input.specs.Generated.{piece_span, demo_buffer, demo_objects, demo_placements}
use Rattle.demo_input.specs.declared.demo.DemoInput.{DemoInput}
use Rattle.demo_input.specs.Demo.{IsDemoInput, IsValidDemo}
use Rattle.demo_input.specs.Laws.{DemoIsValid, DemoHoldsNumbered}
use Rattle.demo_input.proofs.Listing.{numbered_len, numbered_sections, numbered_relocations, objects_hold, objects_are_plain, one_unit_each, published_are, common_each, some_small_size, few_placed}
use Rattle.demo_input.proofs.Pieces.{length_pieces, spans_are_pieces, spans_are_inside, All-range, slice_get-range}
use Rattle.demo_input.proofs.Sortable.{demo_is_sortable}

-- ---- the objects

abbrev objects : ℕ → List (List ℕ)
objects n = map numbered_object (range_with_len 0 n)

pub demo_buffer_len : (n : ℕ) → length (demo_buffer n) ≡ 501 * n
unfolding demo_buffer
demo_buffer_len n = length_pieces numbered_object 501 numbered_len 0 n

pub demo_object_count : (n : ℕ) → length (demo_objects n) ≡ n
demo_object_count n = length-map-range_with_len (piece_span 501) 0 n

objects_are : (n : ℕ) → objects_of (demo_buffer n) (demo_objects n) ≡ objects n
unfolding demo_buffer
objects_are n = spans_are_pieces numbered_object 501 numbered_len n

object_has_no_fault : (a b c f : ℕ) → object_fault X86_64 (object_with a b c f) ≡ None
unfolding object_fault class_in object_with le section_count name_table_index sections section_bytes name_table has_header has_machine has_section_headers has_symbols has_versions fault
object_has_no_fault a b c f = refl

numbered_has_no_fault : (k : ℕ) → object_fault X86_64 (numbered_object k) ≡ None
unfolding numbered_object
numbered_has_no_fault k = object_has_no_fault (last_digit (k / 100)) (last_digit (k / 10)) (last_digit k) (common_flag k)

are_objects : (n : ℕ) → AreObjects X86_64 (objects n)
are_objects n = All-map (λ file. object_fault X86_64 file ≡ None) numbered_object (range_with_len 0 n) (λ k d below. numbered_has_no_fault (get_or (range_with_len 0 n) k d))

-- ---- the placements

ascending : (n : ℕ) → AllPairs IsBefore (demo_placements n)
ascending n i j d before below =
    let inside : j < n = omega (arith, length-map-range_with_len numbered_placement 0 n) in
    let p : get_or (demo_placements n) i d ≡ numbered_placement i = get_or-map-range_with_len numbered_placement 0 n i i d (omega arith) (omega arith) in
    let q : get_or (demo_placements n) j d ≡ numbered_placement j = get_or-map-range_with_len numbered_placement 0 n j j d inside (omega arith) in
    subst (λ x. IsBefore x (get_or (demo_placements n) j d)) (sym p) (subst (λ x. IsBefore (numbered_placement i) x) (sym q) (inl before))

are_placed : (n : ℕ) → n ≤ 1000 → ArePlacedIn (objects n) (demo_placements n)
are_placed n few = record {
  in_order = record {
    ascend = ascending n;
    fit = All-map (λ (p : Placement). p.address + p.size < 2 ^ 64) numbered_placement (range_with_len 0 n) (All-range (λ k. 4096 + 16 * k + 16 < 2 ^ 64) n (λ k below. omega arith));
  };
  there = All-map (λ (p : Placement). IsThere (slice_get (objects n) p.object) p.section) numbered_placement (range_with_len 0 n) (All-range (λ k. IsThere (slice_get (objects n) k) 3) n there);
}
  where
    there : (k : ℕ) → k < n → IsThere (slice_get (objects n) k) 3
    there k below =
        let here : 0 + k ≡ k = omega arith in
        let found : slice_get (objects n) k ≡ Some (numbered_object k) = slice_get-range numbered_object 0 n k below ∙ ap (λ i. Some (numbered_object i)) here in
        let inside : 3 < length (sections (class_in (numbered_object k)) (numbered_object k)) = omega (arith, numbered_sections k) in
        subst (λ file. IsThere file 3) (sym found) inside

-- ---- the index

is_indexable : (version n : ℕ) → n ≤ 1000 → IsIndexable version (objects n) (demo_placements n)
is_indexable version n few =
    let held : List Object = map numbered_holding (range_with_len 0 n) in
    let count : ℕ = length (placed (objects n) (unit_lists held) (demo_placements n)) in
    let size = some_small_size version n count few (omega (arith, few_placed (objects n) (unit_lists held) n)) in
    record {
      objects = held;
      held = objects_hold 0 n;
      plain = objects_are_plain 0 n;
      few = omega (arith, one_unit_each n);
      size = size.0;
      size_is = size.1;
      fits = size.2;
    }

-- ---- the relocations

either_none : {X : Type 0} (b : Bool) (x : Option X) → x ≡ None → cond b x None ≡ None
either_none true x none = none
either_none false x none = refl

relocated : (k : ℕ) (us : List CuBoundary) → unit_relocation_fault (class_in (numbered_object k)) false (numbered_object k) us ≡ None
relocated k us = either_none (nat_lt 1 (length us)) (relocation_fault (class_in (numbered_object k)) false (numbered_object k)) (numbered_relocations k)

plain_parsed : List ℕ → Parsed
plain_parsed bytes = record { bytes = bytes; is_dynamic = false }

no_fault_from : (object a n : ℕ) (uss : List (List CuBoundary)) → fault_from object (map plain_parsed (map numbered_object (range_with_len a n))) uss ≡ None
unfolding plain_parsed
no_fault_from object a zero uss = refl
no_fault_from object a (suc n) [] = refl
no_fault_from object a (suc n) (us ∷ uss) =
    let rest : Option (ℕ × ElfError) = fault_from (object + 1) (map plain_parsed (map numbered_object (range_with_len (a + 1) n))) uss in
    ap (λ (x : Option ElfError). option_or (option_map (λ e. (object, e)) x) rest) (relocated a us) ∙ no_fault_from (object + 1) (a + 1) n uss

parsed_are : (b : List ℕ) (spans : List Span) → parsed_of b spans ≡ map plain_parsed (objects_of b spans)
unfolding plain_parsed
parsed_are b [] = refl
parsed_are b (s ∷ spans) = ap (λ l. parsed_at b s ∷ l) (parsed_are b spans)

are_relocated : (n : ℕ) → AreRelocated (parsed_of (demo_buffer n) (demo_objects n))
are_relocated n uss held =
    ap (λ l. fault_from 0 l uss) (parsed_are (demo_buffer n) (demo_objects n) ∙ ap (map plain_parsed) (objects_are n)) ∙ no_fault_from 0 0 n uss

-- ---- all of it

pub demo_is_valid_lem : DemoIsValid
demo_is_valid_lem version n few = record {
  spans = spans_are_inside 501 n (demo_buffer n) (demo_buffer_len n);
  objects = subst (AreObjects X86_64) (sym (objects_are n)) (are_objects n);
  placements = subst (λ files. ArePlacedIn files (demo_placements n)) (sym (objects_are n)) (are_placed n few);
  index = subst (λ files. IsIndexable (version_number version) files (demo_placements n)) (sym (objects_are n)) (is_indexable (version_number version) n few);
  relocations = are_relocated n;
  sframe = demo_is_sortable n few;
}

pub demo_holds_numbered_lem : DemoHoldsNumbered
demo_holds_numbered_lem n = record {
  len = demo_buffer_len n;
  objects = demo_object_count n;
  held = subst (λ files. AreObjectsOf files (map numbered_holding (range_with_len 0 n))) (sym (objects_are n)) (objects_hold 0 n);
  units = one_unit_each n;
  pairs = published_are 0 n;
  common = common_each 0 0 n;
}

-- what is made is valid
pub demo_has_tables : (n : ℕ) (demo : DemoInput) → n ≤ 1000 → IsDemoInput n demo → IsValidDemo demo
demo_has_tables n demo few is version = rw (is.buffer, is.objects, is.placements, is.sframe, is.ranges) (demo_is_valid_lem version n few)

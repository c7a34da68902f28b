-- The input of a number has one summary, which has the number.
use Rattle.std.proofs.Common.{◌≡◌, ℕ, List, [], ◌∷◌, length, codes, map, Option, Some, None, Result, Ok, Err, refl, sym, ap, subst, ◌∙◌}
use Rattle.std.proofs.lemmas.List.{length-map}
use Rattle.std.proofs.lemmas.List.Sorted.{length_permutation}
use Rattle.std.specs.List.{range_with_len}
use Rattle.elf_format.specs.declared.index.Span.{Span}
use Rattle.elf_format.specs.Span.{span_bytes}
use Rattle.gdb_index_format.specs.declared.bad_index.BadIndex.{BadIndex}
use Rattle.gdb_index_format.specs.declared.name_words.NameWords.{NameWords}
use Rattle.gdb_index_format.specs.declared.unit.CuBoundary.{CuBoundary}
use Rattle.gdb_index_format.specs.declared.version.IndexVersion.TheVariants.{V9}
use Rattle.gdb_index_format.specs.Named.{Named, all_named, named, IsAnswer}
use Rattle.gdb_index_format.specs.Objects.{AreObjectsOf, ObjectsAreOne}
use Rattle.gdb_index_format.specs.Probe.{probe}
use Rattle.gdb_index_format.specs.Published.{Pair, published, units_of_all, elements_in_order}
use Rattle.gdb_index_format.specs.Version.{version_number}
use Rattle.sframe_format.specs.declared.fault.SframeOutcome.{SframeOutcome}
use Rattle.gdb_tables.specs.Files.{file_bytes}
use Rattle.gdb_tables.specs.Laws.{HasOneIndex}
use Rattle.sframe_order.specs.Laws.{SortsInOneWay}
use Rattle.derivation.specs.Objects.{objects_of, parsed_of}
use Rattle.demo_input.specs.Generated.{demo_buffer, demo_objects, demo_placements, demo_sframe, demo_ranges}
use Rattle.demo_input.specs.Laws.{DemoHoldsNumbered}
use Rattle.demo_input.specs.Object.{numbered_holding}
use Rattle.program_text.specs.declared.demo.Summary.{Summary}
use Rattle.program_text.specs.Demo.{shown_of}
use Rattle.derive_program.specs.Laws.{SummariesAreOne, SummariesHaveNumber}
use Rattle.derive_program.specs.Shown.{elements_probed, summary_of}

-- the summary of tables, of which the lengths of the lists are given
abbrev pub summary_by_counts : ℕ → ℕ → ℕ → List ℕ → SframeOutcome → Summary
summary_by_counts objects units names index outcome = record {
  objects = objects;
  units = units;
  names = names;
  index = length index;
  common = elements_probed (probe index (codes "common")).answer;
  outcome = outcome;
}

same_numbers : (count : ℕ) (us vs : List CuBoundary) (ns ms : List NameWords) (i j : List ℕ) (o p : SframeOutcome) → us ≡ vs → all_named ns ≡ all_named ms → i ≡ j → o ≡ p → summary_of count us ns i o ≡ summary_of count vs ms j p
same_numbers count us vs ns ms i j o p u n is outcome_is =
    let names_are : length ns ≡ length ms = sym (length-map ns named) ∙ ap (λ (l : List Named). length l) n ∙ length-map ms named in
    ap (λ (l : List CuBoundary). summary_by_counts count (length l) (length ns) i o) u
    ∙ ap (λ (k : ℕ). summary_by_counts count (length vs) k i o) names_are
    ∙ ap (λ (l : List ℕ). summary_by_counts count (length vs) (length ms) l o) is
    ∙ ap (λ (x : SframeOutcome). summary_by_counts count (length vs) (length ms) j x) outcome_is

pub one_summary : HasOneIndex → SortsInOneWay → SummariesAreOne
one_summary indexes sorts count s t i j f g o p a b x y =
    let built = indexes (version_number V9) (parsed_of (demo_buffer count) (demo_objects count)) (demo_placements count) x.units y.units x.names y.names i j x.tables.listed y.tables.listed in
    let sorted = sorts (demo_sframe count) (demo_ranges count) g p y.tables.ordered f o x.tables.ordered in
    let summary_is : s ≡ t = x.numbers ∙ same_numbers count x.units y.units x.names y.names i j o p built.0 built.1 built.2 sorted.1 ∙ sym y.numbers in
    (summary_is, built.2, sorted.0, sorted.1, x.report ∙ ap shown_of summary_is ∙ sym y.report)

-- the bytes of objects as they are parsed
bytes_parsed : (buffer : List ℕ) (spans : List Span) → file_bytes (parsed_of buffer spans) ≡ objects_of buffer spans
bytes_parsed buffer [] = refl
bytes_parsed buffer (span ∷ spans) = ap (λ (l : List (List ℕ)). span_bytes buffer span ∷ l) (bytes_parsed buffer spans)

-- an answer for a name has as many elements as are published for it
elements_counted : (ps : List Pair) (name : List ℕ) (answer : Result (Option (List ℕ)) BadIndex) → IsAnswer ps name answer → elements_probed answer ≡ length (elements_in_order name ps)
elements_counted ps name (Ok (Some words)) (some, vector) = length_permutation (elements_in_order name ps) words vector.same
elements_counted ps name (Ok None) none = sym (ap (λ (l : List ℕ). length l) none)
elements_counted ps name (Err fault) never = absurd never

pub have_number : ObjectsAreOne → DemoHoldsNumbered → SummariesHaveNumber
have_number one numbered count s i f o a x =
    let held = numbered count in
    let listed = x.tables.listed in
    let P : List (List ℕ) → Type 0 = λ l. AreObjectsOf l listed.objects in
    let objects_are = one.one_list (objects_of (demo_buffer count) (demo_objects count)) listed.objects (map numbered_holding (range_with_len 0 count)) (subst P (bytes_parsed (demo_buffer count) (demo_objects count)) listed.held) held.held in
    let units_are : length x.units ≡ count = ap (λ (l : List CuBoundary). length l) listed.units_are ∙ ap (λ os. length (units_of_all os)) objects_are ∙ held.units in
    let common_is : elements_probed (probe i (codes "common")).answer ≡ count =
    elements_counted (published listed.objects) (codes "common") (probe i (codes "common")).answer (listed.answers (codes "common"))
    ∙ ap (λ os. length (elements_in_order (codes "common") (published os))) objects_are
    ∙ held.common
    in
    (ap (λ (z : Summary). z.objects) x.numbers, ap (λ (z : Summary). z.units) x.numbers ∙ units_are, ap (λ (z : Summary). z.common) x.numbers ∙ common_is)

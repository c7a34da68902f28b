-- The pubnames sections of an object, one after another.
use Rattle.std.proofs.Common.{◌≡◌, ℕ, Bool, true, false, List, [], ◌∷◌, ◌++◌, Some, refl, sym, ap, subst, ◌∙◌, append_assoc, arith}
use Rattle.std.specs.List.{filter, enumerate_from}
use Rattle.std.proofs.lemmas.Bool.{cond-true, cond-false}
use Rattle.std.proofs.lemmas.List.{append-nil}
use Rattle.std.proofs.lemmas.List.Elements.{filter-append, All-append}
use Rattle.std.proofs.lemmas.Grind.{flat_map-append}
use Rattle.elf_format.specs.Class.{Class}
use Rattle.elf_format.specs.Section.{sections, section_bytes}
use Rattle.gdb_index_format.specs.declared.unit.CuBoundary.{CuBoundary}
use Rattle.gdb_index_format.specs.Names.{NameSet}
use Rattle.gdb_index_format.specs.Objects.{is_pubnames_section, pubnames_sections, AreSetsIn, AreSetsOfSections}
use Rattle.dwarf_sections.specs.Clean.{IsClean}
use Rattle.gdb_scan.specs.declared.error.GdbError.{GdbError}
use Rattle.gdb_scan.specs.declared.mark.Mark.{Mark}
use Rattle.gdb_scan.specs.Cause.{IsSectionCause, IsNamesCause}
use Rattle.gdb_scan.specs.Marks.{marks_in, marks_of}
use Rattle.gdb_scan.specs.steps.Published.{PublishesSection}
use Rattle.gdb_scan.specs.steps.Gathered.{Gathers}

abbrev pub holds_names : Class → List ℕ → ℕ × List ℕ → Bool
holds_names c file s = is_pubnames_section c file s.1

more_passed : (p : ℕ × List ℕ → Bool) (done : List (ℕ × List ℕ)) (s : ℕ × List ℕ) → p s ≡ true → filter p (done ++ s ∷ []) ≡ filter p done ++ s ∷ []
more_passed p done s e = filter-append p done (s ∷ []) ∙ ap (λ l. filter p done ++ l) (cond-true (p s) (s ∷ []) [] e)

more_failed : (p : ℕ × List ℕ → Bool) (done : List (ℕ × List ℕ)) (s : ℕ × List ℕ) → p s ≡ false → filter p (done ++ s ∷ []) ≡ filter p done
more_failed p done s e = filter-append p done (s ∷ []) ∙ ap (λ l. filter p done ++ l) (cond-false (p s) (s ∷ []) [] e) ∙ append-nil (filter p done)

sets_push : (c : Class) (file : List ℕ) (xs : List (ℕ × List ℕ)) (s : ℕ × List ℕ) (ss ts : List NameSet) → AreSetsOfSections c file xs ss → AreSetsIn (section_bytes c file s.1) ts → AreSetsOfSections c file (xs ++ s ∷ []) (ss ++ ts)
sets_push c file [] s ss ts none here = (ts, [], ap (λ l. l ++ ts) none ∙ sym (append-nil ts), here, refl)
sets_push c file (x ∷ xs) s ss ts (front, rest, is, first, others) here = (front, rest ++ ts, ap (λ l. l ++ ts) is ∙ append_assoc front rest ts, first, sets_push c file xs s rest ts others here)

pub gathers_none : (c : Class) (file : List ℕ) (us : List CuBoundary) (names : List (List ℕ × Mark)) → names ≡ [] → Gathers c file us [] names
gathers_none c file us names none = record { sets = []; list = refl; clean = λ k d l. absurd (omega arith); published = none }

pub gathers_other : (c : Class) (file : List ℕ) (us : List CuBoundary) (done : List (ℕ × List ℕ)) (s : ℕ × List ℕ) (names : List (List ℕ × Mark)) → holds_names c file s ≡ false → Gathers c file us (filter (holds_names c file) done) names → Gathers c file us (filter (holds_names c file) (done ++ s ∷ [])) names
gathers_other c file us done s names failed h = subst (λ l. Gathers c file us l names) (sym (more_failed (holds_names c file) done s failed)) h

pub gathers_more : (c : Class) (file : List ℕ) (us : List CuBoundary) (done : List (ℕ × List ℕ)) (s : ℕ × List ℕ) (bytes : List ℕ) (old new : List (List ℕ × Mark)) → holds_names c file s ≡ true → section_bytes c file s.1 ≡ Some bytes → PublishesSection bytes us old new → Gathers c file us (filter (holds_names c file) done) old → Gathers c file us (filter (holds_names c file) (done ++ s ∷ [])) new
gathers_more c file us done s bytes old new passed there more h = subst (λ l. Gathers c file us l new) (sym (more_passed (holds_names c file) done s passed)) record {
  sets = h.sets ++ more.sets;
  list = sets_push c file (filter (holds_names c file) done) s h.sets more.sets h.list (record { bytes = bytes; there = there; list = more.list });
  clean = All-append IsClean h.sets more.sets h.clean more.clean;
  published =
      more.published
      ∙ ap (λ l. l ++ marks_of us more.sets) h.published
      ∙ sym (flat_map-append (marks_in us) h.sets more.sets);
}

pub first_bad : (c : Class) (object : ℕ) (file : List ℕ) (us : List CuBoundary) (done : List (ℕ × List ℕ)) (s : ℕ × List ℕ) (rest : List (ℕ × List ℕ)) (names : List (List ℕ × Mark)) (e : GdbError) → done ++ s ∷ rest ≡ enumerate_from 0 (sections c file) → holds_names c file s ≡ true → Gathers c file us (filter (holds_names c file) done) names → IsSectionCause c object file s e → IsNamesCause c object file e
first_bad c object file us done s rest names e whole passed h cause = record {
  before = filter (holds_names c file) done;
  section = s;
  after = filter (holds_names c file) rest;
  listed =
      ap (filter (holds_names c file)) (sym whole)
      ∙ filter-append (holds_names c file) done (s ∷ rest)
      ∙ ap (λ l. filter (holds_names c file) done ++ l) (cond-true (holds_names c file s) (s ∷ filter (holds_names c file) rest) (filter (holds_names c file) rest) passed);
  sets = h.sets;
  sound = h.list;
  cause = cause;
}

pub gathers_all : (c : Class) (file : List ℕ) (us : List CuBoundary) (done rest : List (ℕ × List ℕ)) (names : List (List ℕ × Mark)) → done ++ rest ≡ enumerate_from 0 (sections c file) → rest ≡ [] → Gathers c file us (filter (holds_names c file) done) names → Gathers c file us (pubnames_sections c file) names
gathers_all c file us done rest names whole none h = subst (λ l. Gathers c file us (filter (holds_names c file) l) names) (sym (append-nil done) ∙ ap (λ l. done ++ l) (sym none) ∙ whole) h

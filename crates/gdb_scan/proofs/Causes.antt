-- Where an object holds units and sets, and none of its sections is compressed, no refusal has a cause but want
-- of memory.
use Rattle.std.proofs.Common.{◌≡◌, ℕ, List, [], ◌∷◌, ◌++◌, Option, Some, None, Result, Ok, Err, IfErr, sym, subst, ◌∙◌, Bor}
use Rattle.std.specs.Prelude.{option_copied}
use Rattle.std.specs.Result.{result_ok}
use Rattle.elf_format.specs.declared.error.ElfError.TheVariants.{SectionData}
use Rattle.elf_format.specs.Class.{Class}
use Rattle.elf_format.specs.Section.{section_bytes}
use Rattle.gdb_index_format.specs.declared.unit.CuBoundary.{CuBoundary}
use Rattle.gdb_index_format.specs.Units.{IsUnitList}
use Rattle.gdb_index_format.specs.Names.{NameSet, IsSetList}
use Rattle.gdb_index_format.specs.Published.{Object}
use Rattle.gdb_index_format.specs.Objects.{info_bytes, first_compressed, AreSetsIn, AreSetsOfSections, AreSetsBeside, IsUnitsOf, IsObjectOf}
use Rattle.gdb_index_format.proofs.UnitLists.{no_list}
use Rattle.gdb_index_format.proofs.ObjectLists.{one_units}
use Rattle.gdb_scan.specs.declared.error.GdbError.{GdbError}
use Rattle.gdb_scan.specs.declared.error.GdbError.TheVariants.{BadElf, CompressedSection, BadUnit, BadPubnames, TooManyUnits, IndexTooLarge, NoMemory}
use Rattle.gdb_scan.specs.Cause.{IsUnitCause, IsSetsCause, IsSectionCause, leaves, no_sets, FailsInNames, IsScanCause, compressed, in_units, in_names, no_memory, IsOnlyMemory}

pub holds_of : {X : Type 0} (P : GdbError → Type 0) (r : Result X GdbError) (e : GdbError) → r ≡ Err e → P e → IfErr r P
holds_of P (Ok x) e is h = absurd (cc is)
holds_of P (Err f) e is h = let same : f ≡ e = cc is in subst P (sym same) h

pub no_bytes : {E : Type 0} (r : Result (Bor (List ℕ)) E) (e : E) (o : Option (List ℕ)) → r ≡ Err e → option_copied (result_ok r) ≡ o → o ≡ None
no_bytes (Ok x) e o is found = absurd (cc is)
no_bytes (Err f) e o is found = sym found

pub bad_elf : (c : Class) (object : ℕ) (file : List ℕ) (s : ℕ × List ℕ) (e : GdbError) → section_bytes c file s.1 ≡ None → e ≡ BadElf object SectionData → IsSectionCause c object file s e
bad_elf c object file s e none is = subst (IsSectionCause c object file s) (sym is) (leaves none)

pub same_bytes : (x y : List ℕ) → Some x ≡ Some y → x ≡ y
same_bytes x y e = cc e

pub there_or_not : (o : Option (List ℕ)) (b : List ℕ) → o ≡ Some b → o ≡ None → ⊥
there_or_not o b p q = cc (p, q)

pub not_in_units : (c : Class) (object : ℕ) (file : List ℕ) (us : List CuBoundary) (e : GdbError) → IsUnitsOf c file us → IsUnitCause c object file e → IsOnlyMemory e
not_in_units c object file us (BadElf i kind) units cause = there_or_not (info_bytes c file) units.bytes units.there cause.2
not_in_units c object file us (CompressedSection i s) units cause = cause
not_in_units c object file us (BadUnit i offset fault) units cause =
    let at = cause.1 in
    no_list at.0 us offset fault (subst (λ b. IsUnitList b us) (same_bytes units.bytes at.0 (sym units.there ∙ at.1)) units.list) at.2
not_in_units c object file us (BadPubnames i s) units cause = cause
not_in_units c object file us (TooManyUnits n) units cause = cause
not_in_units c object file us (IndexTooLarge n) units cause = cause
not_in_units c object file us NoMemory units cause = tt

-- the sections of a whole list hold sets, so each of them does
sets_at : (c : Class) (file : List ℕ) (before : List (ℕ × List ℕ)) (s : ℕ × List ℕ) (after : List (ℕ × List ℕ)) (ss : List NameSet) → AreSetsOfSections c file (before ++ s ∷ after) ss → (ts : List NameSet) × AreSetsIn (section_bytes c file s.1) ts
sets_at c file [] s after ss (front, rest, is, here, others) = (front, here)
sets_at c file (b ∷ before) s after ss (front, rest, is, here, others) = sets_at c file before s after rest others

not_sets : (object : ℕ) (at : Rattle.elf_format.specs.declared.index.SectionIndex.SectionIndex) (bytes : List ℕ) (e : GdbError) (ts : List NameSet) → IsSetList bytes ts → IsSetsCause object at bytes e → IsOnlyMemory e
not_sets object at bytes (BadElf i kind) ts list cause = cause
not_sets object at bytes (CompressedSection i s) ts list cause = cause
not_sets object at bytes (BadUnit i offset fault) ts list cause = cause
not_sets object at bytes (BadPubnames i s) ts list cause = cause.2 ts list
not_sets object at bytes (TooManyUnits n) ts list cause = cause
not_sets object at bytes (IndexTooLarge n) ts list cause = cause
not_sets object at bytes NoMemory ts list cause = tt

pub not_in_section : (c : Class) (object : ℕ) (file : List ℕ) (s : ℕ × List ℕ) (e : GdbError) (ts : List NameSet) → AreSetsIn (section_bytes c file s.1) ts → IsSectionCause c object file s e → IsOnlyMemory e
not_in_section c object file s e ts held (leaves none) = absurd (there_or_not (section_bytes c file s.1) held.bytes held.there none)
not_in_section c object file s e ts held (no_sets bytes there f cause) =
    not_sets object (record { 0 = s.0 }) bytes f ts (subst (λ b. IsSetList b ts) (same_bytes held.bytes bytes (sym held.there ∙ there)) held.list) cause

pub not_in_names : (c : Class) (object : ℕ) (file : List ℕ) (us : List CuBoundary) (ss : List NameSet) (e : GdbError) → IsUnitsOf c file us → AreSetsBeside c file us ss → FailsInNames c object file e → IsOnlyMemory e
not_in_names c object file [] ss e units beside fails = absurd (apart (one_units (info_bytes c file) [] (fails.first ∷ fails.others) units fails.units)) where
  apart : [] ≡ fails.first ∷ fails.others → ⊥
  apart same = cc same
not_in_names c object file (u ∷ us) ss e units beside fails =
    let bad = fails.names in
    let at = sets_at c file bad.before bad.section bad.after ss (subst (λ l. AreSetsOfSections c file l ss) bad.listed beside) in
    not_in_section c object file bad.section e at.0 at.1 bad.cause

pub excluded : (c : Class) (object : ℕ) (file : List ℕ) (o : Object) (e : GdbError) → IsObjectOf c file o → first_compressed c file ≡ None → IsScanCause c object file e → IsOnlyMemory e
excluded c object file o e is plain (compressed s found) = absurd (apart (sym found ∙ plain)) where
  apart : Some s.0 ≡ None → ⊥
  apart same = cc same
excluded c object file o e is plain (in_units f none cause) = not_in_units c object file o.units f is.units cause
excluded c object file o e is plain (in_names f none fails) = not_in_names c object file o.units o.sets f is.units is.sets fails
excluded c object file o e is plain no_memory = tt

pub only_memory : {X : Type 0} (c : Class) (object : ℕ) (file : List ℕ) (o : Object) (r : Result X GdbError) → IsObjectOf c file o → first_compressed c file ≡ None → IfErr r (IsScanCause c object file) → IfErr r IsOnlyMemory
only_memory c object file o (Ok x) is plain cause = cause
only_memory c object file o (Err e) is plain cause = excluded c object file o e is plain cause

-- What is refused is refused for one cause, and what is well formed for none.
use Rattle.std.proofs.Common.{◌≡◌, ◌≢◌, ◌⊎◌, ℕ, List, [], ◌∷◌, ◌++◌, Option, Some, None, Result, Ok, Err, IfErr, refl, sym, ap, subst, ◌∙◌, inl, inr}
use Rattle.elf_format.specs.declared.error.ElfError.TheVariants.{SectionData}
use Rattle.elf_format.specs.declared.index.SectionIndex.{SectionIndex}
use Rattle.elf_format.specs.Class.{Class}
use Rattle.elf_format.specs.Section.{section_bytes}
use Rattle.gdb_index_format.specs.declared.placement.Placement.{Placement}
use Rattle.gdb_index_format.specs.declared.unit.UnitFault.{UnitFault}
use Rattle.gdb_index_format.specs.Units.{FailsAt}
use Rattle.gdb_index_format.specs.Names.{NameSet}
use Rattle.gdb_index_format.specs.Objects.{info_bytes, first_compressed, AreSetsOfSections}
use Rattle.gdb_index_format.proofs.UnitLists.{one_place, one_cause}
use Rattle.gdb_scan.specs.declared.error.GdbError.{GdbError}
use Rattle.gdb_scan.specs.declared.error.GdbError.TheVariants.{BadElf, CompressedSection, BadUnit, BadPubnames, TooManyUnits, IndexTooLarge, NoMemory}
use Rattle.gdb_scan.specs.Cause.{IsUnitCause, IsSetsCause, IsSectionCause, leaves, no_sets, FailsInNames, IsScanCause, compressed, in_units, in_names, no_memory, IsRefusedFor, IsOnlyMemory}
use Rattle.gdb_scan.specs.Scan.{ObjectScan}
use Rattle.gdb_scan.specs.Scanned.{ScansObject}
use Rattle.gdb_scan.specs.Laws.{HasOneScanCause}
use Rattle.gdb_scan.proofs.Causes.{there_or_not, same_bytes, not_in_units, not_in_section, excluded}

pub memory_is : (e : GdbError) → IsOnlyMemory e → e ≡ NoMemory
memory_is (BadElf i kind) only = absurd only
memory_is (CompressedSection i s) only = absurd only
memory_is (BadUnit i offset fault) only = absurd only
memory_is (BadPubnames i s) only = absurd only
memory_is (TooManyUnits n) only = absurd only
memory_is (IndexTooLarge n) only = absurd only
memory_is NoMemory only = refl

memory_or_not : (e : GdbError) → (e ≡ NoMemory) ⊎ (e ≢ NoMemory)
memory_or_not (BadElf i kind) = inr (λ h. cc)
memory_or_not (CompressedSection i s) = inr (λ h. cc)
memory_or_not (BadUnit i offset fault) = inr (λ h. cc)
memory_or_not (BadPubnames i s) = inr (λ h. cc)
memory_or_not (TooManyUnits n) = inr (λ h. cc)
memory_or_not (IndexTooLarge n) = inr (λ h. cc)
memory_or_not NoMemory = inl refl

-- of causes that are one, the one that is told is the one that is there
pub told : (P : GdbError → Type 0) (f e : GdbError) → ((x y : GdbError) → P x → P y → x ≢ NoMemory → y ≢ NoMemory → x ≡ y) → P f → P e → e ≢ NoMemory → (f ≡ e) ⊎ (f ≡ NoMemory)
told P f e one found cause some = elim (memory_or_not f) [
  | inl memory ↦ inr memory
  | inr other ↦ inl (one f e found cause other some)
]

pub refused_by : {X : Type 0} (P : GdbError → Type 0) (r : Result X GdbError) (f e : GdbError) → ((x y : GdbError) → P x → P y → x ≢ NoMemory → y ≢ NoMemory → x ≡ y) → r ≡ Err f → IfErr r P → P e → e ≢ NoMemory → IsRefusedFor r e
refused_by P (Ok x) f e one is found cause some = absurd (cc is)
refused_by P (Err g) f e one is found cause some = told P g e one found cause some

-- ---- the units of an object

-- why the units are not read, with the error that says so
data UnitRefusal (object : ℕ) (held : Option (List ℕ)) (e : GdbError) : Type 0 where
  outside : held ≡ None → e ≡ BadElf object SectionData → UnitRefusal object held e
  breaks : (bytes : List ℕ) → held ≡ Some bytes → (offset : ℕ) (fault : UnitFault) → FailsAt bytes offset fault → e ≡ BadUnit object offset fault → UnitRefusal object held e

unit_refusal : (c : Class) (object : ℕ) (file : List ℕ) (e : GdbError) → IsUnitCause c object file e → e ≢ NoMemory → UnitRefusal object (info_bytes c file) e
unit_refusal c object file (BadElf i kind) cause some = outside cause.2 (ap (λ n. BadElf n kind) cause.0 ∙ ap (λ k. BadElf object k) cause.1)
unit_refusal c object file (CompressedSection i s) cause some = absurd cause
unit_refusal c object file (BadUnit i offset fault) cause some = let at = cause.1 in breaks at.0 at.1 offset fault at.2 (ap (λ n. BadUnit n offset fault) cause.0)
unit_refusal c object file (BadPubnames i s) cause some = absurd cause
unit_refusal c object file (TooManyUnits n) cause some = absurd cause
unit_refusal c object file (IndexTooLarge n) cause some = absurd cause
unit_refusal c object file NoMemory cause some = absurd (some refl)

same_unit_refusal : (object : ℕ) (held : Option (List ℕ)) (e f : GdbError) → UnitRefusal object held e → UnitRefusal object held f → e ≡ f
same_unit_refusal object held e f (outside none is) (outside none' is') = is ∙ sym is'
same_unit_refusal object held e f (outside none is) (breaks bytes there offset fault at is') = absurd (there_or_not held bytes there none)
same_unit_refusal object held e f (breaks bytes there offset fault at is) (outside none is') = absurd (there_or_not held bytes there none)
same_unit_refusal object held e f (breaks bytes there offset fault at is) (breaks bytes' there' offset' fault' at' is') =
    let bytes_are : bytes' ≡ bytes = same_bytes bytes' bytes (sym there' ∙ there) in
    let other : FailsAt bytes offset' fault' = subst (λ b. FailsAt b offset' fault') bytes_are at' in
    is
    ∙ ap (λ n. BadUnit object n fault) (one_place bytes offset offset' fault fault' at other)
    ∙ ap (λ x. BadUnit object offset' x) (one_cause bytes offset offset' fault fault' at other)
    ∙ sym is'

-- ---- its pubnames sections

-- why a section is not read, with the error that says so
data SectionRefusal (object : ℕ) (s : ℕ) (held : Option (List ℕ)) (e : GdbError) : Type 0 where
  away : held ≡ None → e ≡ BadElf object SectionData → SectionRefusal object s held e
  unsound : (bytes : List ℕ) → held ≡ Some bytes → e ≡ BadPubnames object (record { 0 = s }) → SectionRefusal object s held e

sets_refusal : (object : ℕ) (s : SectionIndex) (bytes : List ℕ) (e : GdbError) → IsSetsCause object s bytes e → e ≢ NoMemory → e ≡ BadPubnames object s
sets_refusal object s bytes (BadElf i kind) cause some = absurd cause
sets_refusal object s bytes (CompressedSection i at) cause some = absurd cause
sets_refusal object s bytes (BadUnit i offset fault) cause some = absurd cause
sets_refusal object s bytes (BadPubnames i at) cause some = ap (λ n. BadPubnames n at) cause.0 ∙ ap (λ x. BadPubnames object x) cause.1
sets_refusal object s bytes (TooManyUnits n) cause some = absurd cause
sets_refusal object s bytes (IndexTooLarge n) cause some = absurd cause
sets_refusal object s bytes NoMemory cause some = absurd (some refl)

section_refusal : (c : Class) (object : ℕ) (file : List ℕ) (s : ℕ × List ℕ) (e : GdbError) → IsSectionCause c object file s e → e ≢ NoMemory → SectionRefusal object s.0 (section_bytes c file s.1) e
section_refusal c object file s e (leaves none) some = away none refl
section_refusal c object file s e (no_sets bytes there f cause) some = unsound bytes there (sets_refusal object (record { 0 = s.0 }) bytes f cause some)

same_section_refusal : (object s : ℕ) (held : Option (List ℕ)) (e f : GdbError) → SectionRefusal object s held e → SectionRefusal object s held f → e ≡ f
same_section_refusal object s held e f (away none is) (away none' is') = is ∙ sym is'
same_section_refusal object s held e f (away none is) (unsound bytes there is') = absurd (there_or_not held bytes there none)
same_section_refusal object s held e f (unsound bytes there is) (away none is') = absurd (there_or_not held bytes there none)
same_section_refusal object s held e f (unsound bytes there is) (unsound bytes' there' is') = is ∙ sym is'

one_section_cause : (c : Class) (object : ℕ) (file : List ℕ) (s t : ℕ × List ℕ) (e f : GdbError) → s ≡ t → IsSectionCause c object file s e → IsSectionCause c object file t f → e ≢ NoMemory → f ≢ NoMemory → e ≡ f
one_section_cause c object file s t e f same left right a b =
    same_section_refusal object t.0 (section_bytes c file t.1) e f (section_refusal c object file t e (subst (λ (x : ℕ × List ℕ). IsSectionCause c object file x e) same left) a) (section_refusal c object file t f right b)

head_is : (x y : ℕ × List ℕ) (xs ys : List (ℕ × List ℕ)) → x ∷ xs ≡ y ∷ ys → x ≡ y
head_is x y xs ys e = cc e

tail_is : (x y : ℕ × List ℕ) (xs ys : List (ℕ × List ℕ)) → x ∷ xs ≡ y ∷ ys → xs ≡ ys
tail_is x y xs ys e = cc e

-- a section that is read has no cause
sound_section : (c : Class) (object : ℕ) (file : List ℕ) (s t : ℕ × List ℕ) (more : List (ℕ × List ℕ)) (ss : List NameSet) (e : GdbError) → s ≡ t → IsSectionCause c object file s e → AreSetsOfSections c file (t ∷ more) ss → e ≡ NoMemory
sound_section c object file s t more ss e same cause (front, rest, is, here, others) =
    memory_is e (not_in_section c object file t e front here (subst (λ (x : ℕ × List ℕ). IsSectionCause c object file x e) same cause))

one_bad_section : (c : Class) (object : ℕ) (file : List ℕ) (before before' after after' : List (ℕ × List ℕ)) (s t : ℕ × List ℕ) (ss ts : List NameSet) (e f : GdbError) → before ++ s ∷ after ≡ before' ++ t ∷ after' → AreSetsOfSections c file before ss → AreSetsOfSections c file before' ts → IsSectionCause c object file s e → IsSectionCause c object file t f → e ≢ NoMemory → f ≢ NoMemory → e ≡ f
one_bad_section c object file [] [] after after' s t ss ts e f same p q left right a b = one_section_cause c object file s t e f (head_is s t after after' same) left right a b
one_bad_section c object file [] (y ∷ before') after after' s t ss ts e f same p q left right a b =
    absurd (a (sound_section c object file s y before' ts e (head_is s y after (before' ++ t ∷ after') same) left q))
one_bad_section c object file (x ∷ before) [] after after' s t ss ts e f same p q left right a b =
    absurd (b (sound_section c object file t x before ss f (sym (head_is x t (before ++ s ∷ after) after' same)) right p))
one_bad_section c object file (x ∷ before) (y ∷ before') after after' s t ss ts e f same (front, rest, is, here, others) (front', rest', is', here', others') left right a b =
    one_bad_section c object file before before' after after' s t rest rest' e f (tail_is x y (before ++ s ∷ after) (before' ++ t ∷ after') same) others others' left right a b

one_names_cause : (c : Class) (object : ℕ) (file : List ℕ) (e f : GdbError) → FailsInNames c object file e → FailsInNames c object file f → e ≢ NoMemory → f ≢ NoMemory → e ≡ f
one_names_cause c object file e f p q a b =
    let left = p.names in
    let right = q.names in
    one_bad_section c object file left.before right.before left.after right.after left.section right.section left.sets right.sets e f (sym left.listed ∙ right.listed) left.sound right.sound left.cause right.cause a b

-- ---- one object

same_section : (s t : SectionIndex) (o : Option ℕ) → o ≡ Some s.0 → o ≡ Some t.0 → s ≡ t
same_section s t o p q = let same : s.0 ≡ t.0 = cc (p, q) in ap (λ (n : ℕ). let i : SectionIndex = record { 0 = n } in i) same

plain_or_not : (o : Option ℕ) (n : ℕ) → o ≡ Some n → o ≡ None → ⊥
plain_or_not o n p q = cc (p, q)

pub one_scan_cause : HasOneScanCause
one_scan_cause c object file e f (compressed s found) (compressed t found') a b = ap (λ x. CompressedSection object x) (same_section s t (first_compressed c file) found found')
one_scan_cause c object file e f (compressed s found) (in_units g none cause) a b = absurd (plain_or_not (first_compressed c file) s.0 found none)
one_scan_cause c object file e f (compressed s found) (in_names g none fails) a b = absurd (plain_or_not (first_compressed c file) s.0 found none)
one_scan_cause c object file e f (compressed s found) no_memory a b = absurd (b refl)
one_scan_cause c object file e f (in_units g none cause) (compressed t found) a b = absurd (plain_or_not (first_compressed c file) t.0 found none)
one_scan_cause c object file e f (in_units g none cause) (in_units h none' cause') a b = same_unit_refusal object (info_bytes c file) g h (unit_refusal c object file g cause a) (unit_refusal c object file h cause' b)
one_scan_cause c object file e f (in_units g none cause) (in_names h none' fails) a b = absurd (a (memory_is g (not_in_units c object file (fails.first ∷ fails.others) g fails.units cause)))
one_scan_cause c object file e f (in_units g none cause) no_memory a b = absurd (b refl)
one_scan_cause c object file e f (in_names g none fails) (compressed t found) a b = absurd (plain_or_not (first_compressed c file) t.0 found none)
one_scan_cause c object file e f (in_names g none fails) (in_units h none' cause) a b = absurd (b (memory_is h (not_in_units c object file (fails.first ∷ fails.others) h fails.units cause)))
one_scan_cause c object file e f (in_names g none fails) (in_names h none' fails') a b = one_names_cause c object file g h fails fails' a b
one_scan_cause c object file e f (in_names g none fails) no_memory a b = absurd (b refl)
one_scan_cause c object file e f no_memory q a b = absurd (a refl)

pub told_object : (c : Class) (object : ℕ) (file : List ℕ) (f e : GdbError) → IsScanCause c object file f → IsScanCause c object file e → e ≢ NoMemory → (f ≡ e) ⊎ (f ≡ NoMemory)
told_object c object file f e found cause some = told (IsScanCause c object file) f e (one_scan_cause c object file) found cause some

pub no_scan_cause : (c : Class) (object : ℕ) (file : List ℕ) (ps : List Placement) (scan : Option ObjectScan) (e : GdbError) → ScansObject c file object ps scan → IsScanCause c object file e → e ≡ NoMemory
no_scan_cause c object file ps scan e scans cause = memory_is e (excluded c object file scans.held e scans.is_object scans.plain cause)

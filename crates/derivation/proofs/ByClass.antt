-- The type and the machine of a file, by the class that its bytes name.
use Rattle.std.proofs.Common.{◌≡◌, ◌==◌, not, ℕ, Bool, true, false, if◌then◌else◌, List, Option, Some, None, option_map, refl, sym, ◌∙◌, arith}
use Rattle.std.specs.Prelude.{option_and_then, unwrap_or}
use Rattle.std.proofs.lemmas.Bool.{false≢true}
use Rattle.std.proofs.lemmas.Bool.Decides.{Decides-eqb}
use Rattle.elf_format.specs.declared.architecture.Architecture.{Architecture}
use Rattle.elf_format.specs.declared.architecture.Architecture.TheVariants.{X86_64, AArch64, RiscV64, LoongArch64, Ppc64}
use Rattle.elf_format.specs.Architecture.{architecture_of, machine_number}
use Rattle.elf_format.specs.Bytes.{get}
use Rattle.elf_format.specs.Class.{Class, class64, e_type, e_machine}
use Rattle.elf_format.specs.Fault.{class_of}
use Rattle.elf_format.specs.Section.{file_header}
use Rattle.elf_format.specs.declared.error.ElfError.{ElfError}
use Rattle.elf_format.specs.declared.error.ElfError.TheVariants.{Header, Machine}
use Rattle.elf_format.specs.FileHeader.{et_rel}
use Rattle.gdb_index_format.specs.Objects.{class_in}
use Rattle.derivation.specs.Objects.{kind_fault}

some_is : {X : Type 0} (a b : X) → ◌≡◌ {A = Option X} (Some a) (Some b) → a ≡ b
some_is a b is = cc

mapped : (found : Option Class) (f : Class → ℕ) (n : ℕ) → option_map f found ≡ Some n → f (unwrap_or found class64) ≡ n
mapped None f n is = absurd (cc)
mapped (Some c) f n is = some_is (f c) n is

chained : {X : Type 0} (found : Option Class) (f : Class → Option X) (x : X) → option_and_then f found ≡ Some x → f (unwrap_or found class64) ≡ Some x
chained None f x is = absurd (cc)
chained (Some c) f x is = is

-- the machine number of the architecture of a number
numbered : (n : ℕ) (a : Architecture) → architecture_of n ≡ Some a → n ≡ machine_number a
numbered n X86_64 is = grind (arith)
numbered n AArch64 is = grind (arith)
numbered n RiscV64 is = grind (arith)
numbered n LoongArch64 is = grind (arith)
numbered n Ppc64 is = grind (arith)

pub type_is : (file : List ℕ) (n : ℕ) → option_map (λ c. get (e_type c) (file_header c file)) (class_of file) ≡ Some n → get (e_type (class_in file)) (file_header (class_in file) file) ≡ n
unfolding class_in
type_is file n is = mapped (class_of file) (λ c. get (e_type c) (file_header c file)) n is

pub machine_is : (file : List ℕ) (a : Architecture) → option_and_then (λ c. architecture_of (get (e_machine c) (file_header c file))) (class_of file) ≡ Some a → get (e_machine (class_in file)) (file_header (class_in file) file) ≡ machine_number a
unfolding class_in
machine_is file a is = numbered (get (e_machine (class_in file)) (file_header (class_in file) file)) a (chained (class_of file) (λ c. architecture_of (get (e_machine c) (file_header c file))) a is)

-- a test that fails gives the first, and one that holds the second
failed : {P : Type 0} (b : Bool) (x y : Option ElfError) → (b ≡ true → P) → (P → ⊥) → (if not b then x else y) ≡ x
failed true x y holds other = absurd (other (holds refl))
failed false x y holds other = refl

passed : {P : Type 0} (b : Bool) (x y : Option ElfError) → (P → b ≡ true) → P → (if not b then x else y) ≡ y
passed true x y holds p = refl
passed false x y holds p = absurd (false≢true (holds p))

pub other_type : (file : List ℕ) (expected : Architecture) (t : ℕ) → get (e_type (class_in file)) (file_header (class_in file) file) ≡ t → (t ≡ et_rel → ⊥) → Some Header ≡ kind_fault (class_in file) expected file
other_type file expected t type other =
    sym (failed (get (e_type (class_in file)) (file_header (class_in file) file) == et_rel) (Some Header) _ (Decides-eqb _ _).0 (λ is. other (sym type ∙ is)))

after_type : (file : List ℕ) (expected : Architecture) (t : ℕ) → get (e_type (class_in file)) (file_header (class_in file) file) ≡ t → t ≡ et_rel → kind_fault (class_in file) expected file ≡ (if not (get (e_machine (class_in file)) (file_header (class_in file) file) == machine_number expected) then Some Machine else None)
after_type file expected t type is = passed (get (e_type (class_in file)) (file_header (class_in file) file) == et_rel) (Some Header) _ (Decides-eqb _ _).1 (type ∙ is)

pub other_machine : (file : List ℕ) (expected a : Architecture) (t m n : ℕ) → get (e_type (class_in file)) (file_header (class_in file) file) ≡ t → get (e_machine (class_in file)) (file_header (class_in file) file) ≡ machine_number a → t ≡ et_rel → m ≡ machine_number a → n ≡ machine_number expected → (m ≡ n → ⊥) → Some Machine ≡ kind_fault (class_in file) expected file
other_machine file expected a t m n type machine is m-is n-is other =
    sym (after_type file expected t type is ∙ failed (get (e_machine (class_in file)) (file_header (class_in file) file) == machine_number expected) (Some Machine) None (Decides-eqb _ _).0 (λ same. other (m-is ∙ sym machine ∙ same ∙ sym n-is)))

pub no_fault : (file : List ℕ) (expected a : Architecture) (t m n : ℕ) → get (e_type (class_in file)) (file_header (class_in file) file) ≡ t → get (e_machine (class_in file)) (file_header (class_in file) file) ≡ machine_number a → t ≡ et_rel → m ≡ machine_number a → n ≡ machine_number expected → m ≡ n → None ≡ kind_fault (class_in file) expected file
no_fault file expected a t m n type machine is m-is n-is same =
    sym (after_type file expected t type is ∙ passed (get (e_machine (class_in file)) (file_header (class_in file) file) == machine_number expected) (Some Machine) None (Decides-eqb _ _).1 (machine ∙ sym m-is ∙ same ∙ n-is))

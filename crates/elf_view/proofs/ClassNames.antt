-- A file without a fault has a whole header of its class, and names the class.
use Rattle.std.proofs.Common.{◌≡◌, ℕ, Bool, true, false, cond, not, ◌&&◌, List, take, get_or, length, leb, Option, Some, None, refl, sym, ap, ◌∙◌, arith}
use Rattle.std.proofs.lemmas.List.{get_or-take}
use Rattle.std.proofs.lemmas.Slice.Eq.{bytes_eq-Decides}
use Rattle.std.specs.Prelude.{slice_index}
use Rattle.elf_format.specs.declared.error.ElfError.{ElfError}
use Rattle.elf_format.specs.declared.error.ElfError.TheVariants.{Header}
use Rattle.elf_format.specs.Class.{Class, class32, class64, class_byte, file_header_size}
use Rattle.elf_format.specs.Fault.{identification, has_header, fault, class_of}
use Rattle.elf_view.specs.AnyFile.{NamesItsClass}

first_rule : (h : Bool) (rest : Option ElfError) → cond (not h) (Some Header) rest ≡ None → h ≡ true
first_rule true rest e = refl
first_rule false rest e = absurd (cc e)

pub has_whole_header : (c : Class) (is_dynamic : Bool) (file : List ℕ) → fault c is_dynamic file ≡ None → has_header c file ≡ true
unfolding fault
has_whole_header c is_dynamic file none = first_rule (has_header c file) _ none

second : (a b : Bool) → (a && b) ≡ true → b ≡ true
second true b e = e
second false b e = absurd (cc e)

identified : (c : Class) (file : List ℕ) → has_header c file ≡ true → take 7 file ≡ identification c
unfolding has_header
identified c file e = (bytes_eq-Decides (take 7 file) (identification c)).0 (second (leb (file_header_size c) (length file)) _ e)

fifth : (c : Class) (file : List ℕ) → take 7 file ≡ identification c → slice_index file 4 ≡ class_byte c
fifth class32 file e = sym (get_or-take 7 file 4 0 (omega arith)) ∙ ap (λ l. get_or l 4 0) e
fifth class64 file e = sym (get_or-take 7 file 4 0 (omega arith)) ∙ ap (λ l. get_or l 4 0) e

named : (c : Class) (file : List ℕ) → slice_index file 4 ≡ class_byte c → class_of file ≡ Some c
named class32 file e = rw e refl
named class64 file e = rw e refl

pub class_is_named : NamesItsClass
class_is_named c is_dynamic file none = named c file (fifth c file (identified c file (has_whole_header c is_dynamic file none)))

use Rattle.std.proofs.Common.{◌≡◌, ℕ, ℤ, pos, negsuc, ◌+◌, ◌^◌, ◌<◌, ◌≤◌, List, length, ap, ◌∙◌, arith}
use Rattle.std.specs.Int.{w32, w64, cast_unsigned, cast_signed}
use Rattle.std.specs.Int.RustNames.{FitsSigned}
use Rattle.std.proofs.lemmas.Int.{to_z-of_z}
use Rattle.elf_format.specs.Bytes.{get}
use Rattle.elf_format.specs.Class.{Class, class32, class64, word_at, signed_word}
use Rattle.elf_setters.specs.Put.{with_field, word_of}
use Rattle.elf_setters.proofs.PutLemmas.{get_it_with_field}
use Rattle.elf_setters.proofs.laws.signed_numbers_are_read_again.Goals as goal

below32 : (z : ℤ) → FitsSigned w32 z → cast_unsigned w32 z < 2 ^ 32
below32 (pos n) f = omega (arith, f.sfits)
below32 (negsuc n) f = omega arith

below64 : (z : ℤ) → FitsSigned w64 z → cast_unsigned w64 z < 2 ^ 64
below64 (pos n) f = omega (arith, f.sfits)
below64 (negsuc n) f = omega arith

read_again : (class : Class) (at : ℕ) (z : ℤ) (bytes : List ℕ) → (word_at class at at).at + (word_at class at at).width ≤ length bytes → FitsSigned (word_of class) z
    → signed_word class (get (word_at class at at) (with_field (word_at class at at) (cast_unsigned (word_of class) z) bytes)) ≡ z
read_again class32 at z bytes room fits =
    ap (cast_signed w32) (get_it_with_field (word_at class32 at at) (cast_unsigned w32 z) bytes room (below32 z fits)) ∙ to_z-of_z w32 z fits
read_again class64 at z bytes room fits =
    ap (cast_signed w64) (get_it_with_field (word_at class64 at at) (cast_unsigned w64 z) bytes room (below64 z fits)) ∙ to_z-of_z w64 z fits

pub returns : goal.returns
returns c = λ class at value bytes room fits. read_again class at value bytes room fits

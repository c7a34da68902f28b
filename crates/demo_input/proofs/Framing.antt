-- What a contribution with a start and an FRE holds.
use Rattle.std.proofs.Common.{◌≡◌, ℕ, zero, suc, ◌+◌, ◌*◌, ◌^◌, ◌<◌, false, List, [], ◌∷◌, length, refl, ap, ◌∙◌, pos, ◌+ℤ◌, arith}
use Rattle.std.specs.Int.{w32, cast_signed}
use Rattle.std.proofs.lemmas.Nat.{from_le_bytes-to_le_bytes_4}
use Rattle.std.proofs.lemmas.Int.{ints, to_z-of_z}
use Rattle.elf_format.specs.Bytes.{le, u32_at}
use Rattle.elf_format.proofs.NumberLemmas.{u32_is_read}
use Rattle.sframe_format.specs.Contribution.{Contribution, header, is_other_version, functions_of, function_at}
use Rattle.sframe_format.specs.Merged.{fres_len}
use Rattle.sframe_format.specs.Valid.{IsWellFormedContribution}
use Rattle.demo_input.specs.Contribution.{numbered_start, numbered_contribution}

-- a contribution, at an offset
abbrev pub piece : ℕ → ℕ → ℕ → Contribution
piece offset count k = record { offset = offset; bytes = numbered_contribution count k }

pub contribution_len : (n k : ℕ) → length (numbered_contribution n k) ≡ 51
unfolding numbered_contribution
contribution_len n k = refl

pub is_version_2 : (o n k : ℕ) → is_other_version (piece o n k) ≡ false
unfolding numbered_contribution le
is_version_2 o n k = refl

pub no_flags : (o n k : ℕ) → (header (piece o n k)).flags ≡ 0
unfolding numbered_contribution le
no_flags o n k = refl

pub one_fde : (o n k : ℕ) → (header (piece o n k)).num_fdes ≡ 1
unfolding numbered_contribution le
one_fde o n k = refl

pub one_fre : (o n k : ℕ) → (header (piece o n k)).num_fres ≡ 1
unfolding numbered_contribution le
one_fre o n k = refl

pub no_aux : (o n k : ℕ) → (header (piece o n k)).aux_len ≡ 0
unfolding numbered_contribution le
no_aux o n k = refl

pub is_well_formed : (o n k : ℕ) → IsWellFormedContribution (piece o n k)
unfolding numbered_contribution le
is_well_formed o n k = record { magic = refl; fdes = omega arith; fres = omega arith; offsets = offsets_fit }
  where
    offsets_fit : (d : ℕ) → d < 1 → le (numbered_contribution n k) (28 + 20 * d + 8) 4 < 3
    offsets_fit zero below = omega arith
    offsets_fit (suc d) below = absurd (omega arith)

pub one_function : (o n k : ℕ) → functions_of (piece o n k) ≡ function_at (piece o n k) 0 ∷ []
unfolding numbered_contribution le
one_function o n k = refl

pub fres_are_3 : (o n k : ℕ) → fres_len (functions_of (piece o n k)) ≡ 3
unfolding numbered_contribution le
fres_are_3 o n k = refl

-- the signed number of a small number
small_signed : (n : ℕ) → n < 2 ^ 31 → pos 0 +ℤ cast_signed w32 n ≡ pos n
small_signed n below =
    let signed : cast_signed w32 n ≡ pos n = to_z-of_z w32 (pos n) (omega (arith, ints)) in
    omega (arith, ints)

pub start_is : (o n k : ℕ) → numbered_start n k < 2 ^ 31 → (function_at (piece o n k) 0).start ≡ pos (numbered_start n k)
unfolding numbered_contribution le
start_is o n k fits =
    let b : List ℕ = numbered_contribution n k in
    let read : u32_at b 28 ≡ numbered_start n k = u32_is_read b 28 ∙ from_le_bytes-to_le_bytes_4 (numbered_start n k) (omega arith) in
    ap (λ (x : ℕ). pos 0 +ℤ cast_signed w32 x) read ∙ small_signed (numbered_start n k) fits

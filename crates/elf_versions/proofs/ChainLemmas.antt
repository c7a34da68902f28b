-- The items of a chain, one after another.
use Rattle.std.proofs.Common.{◌≡◌, ℕ, zero, suc, ◌+◌, ◌-◌, ◌<◌, ◌≤◌, Bool, true, false, ◌==◌, List, [], ◌∷◌, length, Result, Ok, Err, refl, arith, lt-ltb, if◌then◌else◌}
use Rattle.std.proofs.lemmas.Bool.{le-ltb}
use Rattle.elf_format.specs.declared.error.ElfError.{ElfError}
use Rattle.elf_format.specs.declared.error.ElfError.TheVariants.{VersionTable}
use Rattle.elf_format.specs.VersionChain.{ChainForm, offsets_from, next_of}

-- past all bytes it does not matter where
pub offsets_past : (form : ChainForm) (bytes : List ℕ) (count a b : ℕ) → length bytes < a + form.size → length bytes < b + form.size → offsets_from form bytes count a ≡ offsets_from form bytes count b
offsets_past form bytes zero a b p q = refl
offsets_past form bytes (suc count) a b p q = rw (lt-ltb _ _ p, lt-ltb _ _ q) refl

pub offsets_error : (form : ChainForm) (bytes : List ℕ) (count at : ℕ) → 0 < count → length bytes < at + form.size → offsets_from form bytes count at ≡ Err VersionTable ∷ []
offsets_error form bytes zero at p q = absurd (omega arith)
offsets_error form bytes (suc count) at p q = rw (lt-ltb _ _ q) refl

pub offsets_more : (form : ChainForm) (bytes : List ℕ) (count at : ℕ) → 0 < count → at + form.size ≤ length bytes
    → offsets_from form bytes count at ≡ Ok at ∷ (if next_of form bytes at == 0 then [] else offsets_from form bytes (count - 1) (at + next_of form bytes at))
offsets_more form bytes zero at p q = absurd (omega arith)
offsets_more form bytes (suc count) at p q = let e : suc count - 1 ≡ count = omega arith in rw (le-ltb _ _ q, e) (split (next_of form bytes at == 0) _ _) where
  split : (b : Bool) (x : Result ℕ ElfError) (xs : List (Result ℕ ElfError)) → (if b then x ∷ [] else x ∷ xs) ≡ x ∷ (if b then [] else xs)
  split true x xs = refl
  split false x xs = refl

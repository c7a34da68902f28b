-- The text of a name, and the search for the name of a version.
use Rattle.std.proofs.Common.{◌≡◌, ℕ, Bool, true, false, ◌==◌, if◌then◌else◌, List, [], ◌∷◌, map, Option, Some, None, Result, Ok, Err, refl}
use Rattle.std.proofs.lemmas.Bool.{false_from_ne_true}
use Rattle.std.proofs.lemmas.Str.{IsUtf8-from_is_utf8, is_utf8-from_IsUtf8}
use Rattle.std.specs.Str.{IsUtf8, is_utf8}
use Rattle.elf_format.specs.declared.error.ElfError.{ElfError}
use Rattle.elf_format.specs.Bytes.{get, string_at}
use Rattle.elf_format.specs.Table.{vd_ndx, vda_name, vna_other, vna_name}
use Rattle.elf_format.specs.SymbolName.{part_text}
use Rattle.elf_format.specs.VersionChain.{Headed}
use Rattle.elf_format.specs.VersionName.{readable, name_or, definition_name, needed_name, needed_name_or}
use Rattle.elf_versions.specs.steps.Texts.{shown_byte, or_next}

pub part_whole : (bytes : List ℕ) → IsUtf8 bytes → part_text bytes ≡ bytes
unfolding part_text
part_whole bytes u = rw (is_utf8-from_IsUtf8 bytes u) refl

pub part_ascii : (bytes : List ℕ) → (IsUtf8 bytes → ⊥) → part_text bytes ≡ map shown_byte bytes
unfolding part_text
part_ascii bytes n = rw (false_from_ne_true (is_utf8 bytes) (λ t. n (IsUtf8-from_is_utf8 bytes t))) refl

readable_stays : (found : Option (List ℕ)) (after : Result (Option (List ℕ)) ElfError) → readable found ≡ or_next (readable found) after
readable_stays None after = refl
readable_stays (Some name) after = refl

name_or_next : (strings : List ℕ) (items : List (Result (List ℕ) ElfError)) (after : Result (Option (List ℕ)) ElfError) → name_or strings items after ≡ or_next (name_or strings items (Ok None)) after
name_or_next strings [] after = refl
name_or_next strings (Err e ∷ items) after = refl
name_or_next strings (Ok verdaux ∷ items) after = readable_stays (string_at strings (get vda_name verdaux)) after

pub definition_step : (strings : List ℕ) (index : ℕ) (x : Result Headed ElfError) (xs : List (Result Headed ElfError))
    → definition_name strings index (x ∷ xs) ≡ or_next (definition_name strings index (x ∷ [])) (definition_name strings index xs)
definition_step strings index (Err e) xs = refl
definition_step strings index (Ok definition) xs = choice (get vd_ndx definition.head == index) where
  choice : (b : Bool) → (if b then name_or strings definition.items (definition_name strings index xs) else definition_name strings index xs)
      ≡ or_next (if b then name_or strings definition.items (Ok None) else Ok None) (definition_name strings index xs)
  choice true = name_or_next strings definition.items (definition_name strings index xs)
  choice false = refl

needed_or_next : (strings : List ℕ) (index : ℕ) (items : List (Result (List ℕ) ElfError)) (after : Result (Option (List ℕ)) ElfError)
    → needed_name_or strings index items after ≡ or_next (needed_name_or strings index items (Ok None)) after
needed_or_next strings index [] after = refl
needed_or_next strings index (Err e ∷ items) after = refl
needed_or_next strings index (Ok vernaux ∷ items) after = choice (get vna_other vernaux == index) _ (readable_stays (string_at strings (get vna_name vernaux)) after) _ _ (needed_or_next strings index items after) where
  choice : (b : Bool) (p : Result (Option (List ℕ)) ElfError) → p ≡ or_next p after → (r s : Result (Option (List ℕ)) ElfError) → r ≡ or_next s after
      → (if b then p else r) ≡ or_next (if b then p else s) after
  choice true p e r s h = e
  choice false p e r s h = h

pub needed_step : (strings : List ℕ) (index : ℕ) (x : Result Headed ElfError) (xs : List (Result Headed ElfError))
    → needed_name strings index (x ∷ xs) ≡ or_next (needed_name strings index (x ∷ [])) (needed_name strings index xs)
needed_step strings index (Err e) xs = refl
needed_step strings index (Ok need) xs = needed_or_next strings index need.items (needed_name strings index xs)

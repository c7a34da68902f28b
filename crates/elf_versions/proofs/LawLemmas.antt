-- How long a chain is, where its error stands, what is printed of a name that was split, and causes of refusals.
use Rattle.std.proofs.Common.{◌≡◌, ◌≢◌, ℕ, zero, suc, ◌+◌, ◌<◌, ◌≤◌, Bool, true, false, ◌==◌, nat_lt, ltb, if◌then◌else◌, cond, List, [], ◌∷◌, ◌++◌, map, take, drop, get_or, length, Option, Some, None, Result, Ok, Err, refl, ap, sym, ◌∙◌, arith, inl, inr}
use Rattle.std.proofs.lemmas.Bool.{ltb-true}
use Rattle.std.proofs.lemmas.Bool.Decides.{eqb_tells, nat_tests}
use Rattle.std.proofs.lemmas.List.{append-nil, length-map}
use Rattle.std.proofs.lemmas.List.Sums.{passes_at_first, split_at_first}
use Rattle.std.proofs.lemmas.Str.{IsUtf8-nil, IsUtf8-take, IsUtf8-drop, IsCharBoundary-before_ascii, IsCharBoundary-after_ascii}
use Rattle.std.specs.List.{position_or_len}
use Rattle.std.specs.Str.{IsUtf8}
use Rattle.elf_format.specs.declared.error.ElfError.{ElfError}
use Rattle.elf_format.specs.declared.error.ElfError.TheVariants.{VersionTable}
use Rattle.elf_format.specs.Chain.{on_ok}
use Rattle.elf_format.specs.SymbolName.{at_sign, before_at_sign, split_at, versioned_name, name_text}
use Rattle.elf_format.specs.VersionChain.{ChainForm, HeadForm, Headed, record_at, headed_at, offsets_from, records_from, headed_from, next_of}
use Rattle.elf_format.specs.VersionName.{VersionFault, malformed, bad_index}
use Rattle.elf_versions.specs.declared.error.VersionError.{VersionError}
use Rattle.elf_versions.specs.declared.error.VersionError.TheVariants.{Elf, BadIndex, NoMemory}
use Rattle.elf_versions.specs.Cause.{IsVersionFault}
use Rattle.elf_versions.proofs.TextLemmas.{part_whole}

bounded : (b c : Bool) (e at : Result ℕ ElfError) (rest : List (Result ℕ ElfError)) (count : ℕ) → length rest ≤ count
    → length (if b then e ∷ [] else if c then at ∷ [] else at ∷ rest) ≤ suc count
bounded true c e at rest count h = omega arith
bounded false true e at rest count h = omega arith
bounded false false e at rest count h = omega arith

pub offsets_bounded : (form : ChainForm) (bytes : List ℕ) (count at : ℕ) → length (offsets_from form bytes count at) ≤ count
offsets_bounded form bytes zero at = omega arith
offsets_bounded form bytes (suc count) at =
    bounded (nat_lt (length bytes) (at + form.size)) (next_of form bytes at == 0) (Err VersionTable) (Ok at) (offsets_from form bytes count (at + next_of form bytes at)) count
    (offsets_bounded form bytes count (at + next_of form bytes at))

pub records_bounded : (form : ChainForm) (bytes : List ℕ) (count at : ℕ) → length (records_from form bytes count at) ≤ count
records_bounded form bytes count at = omega (arith, length-map (offsets_from form bytes count at) (on_ok (record_at form bytes)), offsets_bounded form bytes count at)

pub heads_bounded : (form : HeadForm) (bytes : List ℕ) (count at : ℕ) → length (headed_from form bytes count at) ≤ count
heads_bounded form bytes count at = omega (arith, length-map (offsets_from form.outer bytes count at) (on_ok (headed_at form bytes)), offsets_bounded form.outer bytes count at)

-- nothing follows an error
abbrev EndsAtError : {X : Type 0} → List (Result X ElfError) → Type 0
EndsAtError [] = Unit {0}
EndsAtError (Ok x ∷ xs) = EndsAtError xs
EndsAtError (Err e ∷ xs) = xs ≡ []

ends_cases : (b c : Bool) (e : ElfError) (at : ℕ) (rest : List (Result ℕ ElfError)) → EndsAtError rest → EndsAtError (if b then Err e ∷ [] else if c then Ok at ∷ [] else Ok at ∷ rest)
ends_cases true c e at rest h = refl
ends_cases false true e at rest h = tt
ends_cases false false e at rest h = h

offsets_end : (form : ChainForm) (bytes : List ℕ) (count at : ℕ) → EndsAtError (offsets_from form bytes count at)
offsets_end form bytes zero at = tt
offsets_end form bytes (suc count) at =
    ends_cases (nat_lt (length bytes) (at + form.size)) (next_of form bytes at == 0) VersionTable at (offsets_from form bytes count (at + next_of form bytes at))
    (offsets_end form bytes count (at + next_of form bytes at))

mapped_end : {X Y : Type 0} (f : X → Y) (xs : List (Result X ElfError)) → EndsAtError xs → EndsAtError (map (on_ok f) xs)
mapped_end f [] h = tt
mapped_end f (Ok x ∷ xs) h = mapped_end f xs h
mapped_end f (Err e ∷ xs) h = ap (map (on_ok f)) h

nothing_after : {X : Type 0} (front : List (Result X ElfError)) (e : ElfError) (back : List (Result X ElfError)) → EndsAtError (front ++ Err e ∷ back) → back ≡ []
nothing_after [] e back h = h
nothing_after (Ok x ∷ front) e back h = nothing_after front e back h
nothing_after (Err d ∷ []) e back h = absurd (cc)
nothing_after (Err d ∷ y ∷ front) e back h = absurd (cc)

pub record_error_last : (form : ChainForm) (bytes : List ℕ) (count at : ℕ) (front : List (Result (List ℕ) ElfError)) (e : ElfError) (back : List (Result (List ℕ) ElfError)) → records_from form bytes count at ≡ front ++ Err e ∷ back → back ≡ []
record_error_last form bytes count at front e back same =
    let ends : EndsAtError (records_from form bytes count at) = mapped_end (record_at form bytes) (offsets_from form bytes count at) (offsets_end form bytes count at) in
    nothing_after front e back (rw (sym same) ends)

pub head_error_last : (form : HeadForm) (bytes : List ℕ) (count at : ℕ) (front : List (Result Headed ElfError)) (e : ElfError) (back : List (Result Headed ElfError)) → headed_from form bytes count at ≡ front ++ Err e ∷ back → back ≡ []
head_error_last form bytes count at front e back same =
    let ends : EndsAtError (headed_from form bytes count at) = mapped_end (headed_at form bytes) (offsets_from form.outer bytes count at) (offsets_end form.outer bytes count at) in
    nothing_after front e back (rw (sym same) ends)

-- what is printed of a name that was split at an `@`
split_back : (front after : List ℕ) → IsUtf8 front → IsUtf8 after → name_text (before_at_sign front after) ≡ front ++ (at_sign ∷ after)
unfolding name_text
split_back front [] u v = rw (part_whole front u, part_whole [] IsUtf8-nil) refl
split_back front (b ∷ after) u v = elim (eqb_tells b at_sign) [
  | inl same ↦
      let rest : IsUtf8 after = IsUtf8-drop (b ∷ after) 1 v (IsCharBoundary-after_ascii (b ∷ after) 0 v (omega arith) (omega (arith, same.1))) in
      rw (same.0, part_whole front u, part_whole after rest) (ap (λ (c : ℕ). front ++ (at_sign ∷ c ∷ after)) (sym same.1))
  | inr other ↦ rw (other.0, part_whole front u, part_whole (b ∷ after) v) refl
]

found_back : (bytes : List ℕ) (n : ℕ) → IsUtf8 bytes → n < length bytes → get_or bytes n 0 ≡ at_sign → bytes ≡ take n bytes ++ (at_sign ∷ drop (n + 1) bytes) → name_text (split_at bytes (Some n)) ≡ bytes
found_back bytes n u within here split =
    let front : IsUtf8 (take n bytes) = IsUtf8-take bytes n u (IsCharBoundary-before_ascii bytes n within (omega (arith, here))) in
    let after : IsUtf8 (drop (n + 1) bytes) = IsUtf8-drop bytes (n + 1) u (IsCharBoundary-after_ascii bytes n u within (omega (arith, here))) in
    let next : suc n ≡ n + 1 = omega arith in
    rw next (split_back (take n bytes) (drop (n + 1) bytes) front after ∙ sym split)

pub printed_back : (bytes : List ℕ) → IsUtf8 bytes → name_text (versioned_name bytes) ≡ bytes
unfolding versioned_name name_text
printed_back bytes u = cases (ltb (position_or_len (λ b. b == at_sign) bytes) (length bytes)) refl where
  cases : (b : Bool) → ltb (position_or_len (λ b. b == at_sign) bytes) (length bytes) ≡ b → name_text (split_at bytes (cond b (Some (position_or_len (λ b. b == at_sign) bytes)) None)) ≡ bytes
  cases false e = rw (part_whole bytes u) (append-nil bytes)
  cases true e =
      let within : position_or_len (λ b. b == at_sign) bytes < length bytes = ltb-true _ _ e in
      let passes : (get_or bytes (position_or_len (λ b. b == at_sign) bytes) 0 == at_sign) ≡ true = passes_at_first (λ b. b == at_sign) bytes 0 within in
      let here : get_or bytes (position_or_len (λ b. b == at_sign) bytes) 0 ≡ at_sign = grind (arith, nat_tests) in
      found_back bytes (position_or_len (λ b. b == at_sign) bytes) u within here (rw here at (split_at_first (λ b. b == at_sign) bytes 0 within))

no_fault : (fault : VersionFault) → None ≡ Some fault → ⊥
no_fault fault e = absurd (cc)

not_both : (i : ℕ) → Some malformed ≡ Some (bad_index i) → ⊥
not_both i e = absurd (cc)

same_index : (i j : ℕ) → Some (bad_index i) ≡ Some (bad_index j) → BadIndex i ≡ BadIndex j
same_index i j e = cc

-- a fault has one cause beside an allocation failure
pub one_cause : (fault : Option VersionFault) (e f : VersionError) → IsVersionFault fault e → IsVersionFault fault f → e ≢ NoMemory → f ≢ NoMemory → e ≡ f
one_cause fault (Elf a) (Elf b) p q m n = ap Elf (p.0 ∙ sym q.0)
one_cause fault (Elf a) (BadIndex j) p q m n = absurd (not_both j (sym p.1 ∙ q))
one_cause fault (BadIndex i) (Elf b) p q m n = absurd (not_both i (sym q.1 ∙ p))
one_cause fault (BadIndex i) (BadIndex j) p q m n = same_index i j (sym p ∙ q)
one_cause fault NoMemory f p q m n = absurd (m refl)
one_cause fault (Elf a) NoMemory p q m n = absurd (n refl)
one_cause fault (BadIndex i) NoMemory p q m n = absurd (n refl)

pub no_cause : (e : VersionError) → IsVersionFault None e → e ≡ NoMemory
no_cause (Elf a) p = absurd (no_fault malformed p.1)
no_cause (BadIndex i) p = absurd (no_fault (bad_index i) p)
no_cause NoMemory p = refl

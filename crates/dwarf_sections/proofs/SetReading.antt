-- Reading sets of names, from the front.
use Rattle.std.proofs.Common.{◌≡◌, ◌≢◌, ℕ, ◌+◌, ◌^◌, ◌<◌, ◌≤◌, Bool, eqb, ltb, List, [], ◌∷◌, ◌++◌, length, take, drop, get_or, Option, Some, None, Result, Ok, Err, refl, sym, ap, subst, ◌∙◌, arith, inl, inr, append_assoc}
use Rattle.std.specs.Prelude.{replicate}
use Rattle.std.specs.Int.{w32, w64, to_le_bytes, from_le_bytes}
use Rattle.std.proofs.lemmas.Nat.{le_bytes_4, le_bytes_8}
use Rattle.std.specs.List.{All, position, position_or_len}
use Rattle.std.proofs.lemmas.Bool.{cases_lt, cond-true, lt-ltb, eqb-true, eqb-false}
use Rattle.std.proofs.lemmas.List.{length-append, length-take, take-append-drop, drop_more, length-replicate, get_or-take, get_or_default, get_or_at, get_or_past, length-take-le}
use Rattle.std.proofs.lemmas.List.Quantifiers.{position-Some}
use Rattle.std.proofs.lemmas.List.Sums.{fails_before_first}
use Rattle.gdb_index_format.specs.declared.dwarf_format.DwarfFormat.{DwarfFormat}
use Rattle.gdb_index_format.specs.declared.dwarf_format.DwarfFormat.TheVariants.{Dwarf32, Dwarf64}
use Rattle.gdb_index_format.specs.Names.{Entry, width, limit, number, IsClosed, IsEntry, IsEntries}
use Rattle.gdb_index_format.proofs.SetLists.{length-number, same_number, zero_number, zero_limit, entries_after}
use Rattle.dwarf_sections.specs.declared.set_error.SetError.{SetError}
use Rattle.dwarf_sections.specs.declared.set_error.SetError.TheVariants.{BadSet, NoMemory}
use Rattle.dwarf_sections.specs.steps.EntryParts.{NoEntry}
use Rattle.dwarf_sections.specs.Entries.{IsBad}

abbrev zero_test : ℕ → Bool
zero_test c = eqb c 0

-- ---- names

pub name_found : (bytes : List ℕ) (len : ℕ) → position zero_test bytes ≡ Some len → All (λ c. c ≢ 0) (take len bytes) × (bytes ≡ take len bytes ++ 0 ∷ drop (len + 1) bytes)
name_found bytes len e =
    let found = position-Some zero_test bytes len 0 e in (
      λ k d l is. eqb-false (get_or bytes k 0) 0 (found.2 k (below k l)) (sym (get_or-take len bytes k 0 (below k l)) ∙ same_default k d l ∙ is),
      sym (take-append-drop len bytes) ∙ ap (λ t. take len bytes ++ t) (drop_more bytes len 0 found.0 ∙ ap (λ c. c ∷ drop (len + 1) bytes) (eqb-true (get_or bytes len 0) 0 found.1)),
    ) where
      below : (k : ℕ) → k < length (take len bytes) → k < len
      below k l = omega (arith, length-take len bytes)

      same_default : (k d : ℕ) → k < length (take len bytes) → get_or (take len bytes) k 0 ≡ get_or (take len bytes) k d
      same_default k d l = get_or_default (take len bytes) k 0 d l

pub no_zero : (bytes : List ℕ) → position zero_test bytes ≡ None → All (λ c. c ≢ 0) bytes
no_zero bytes e =
    elim (cases_lt (position_or_len zero_test bytes) (length bytes)) [
      | inl lt ↦ absurd (apart (position_or_len zero_test bytes) (position zero_test bytes) (cond-true (ltb (position_or_len zero_test bytes) (length bytes)) (Some (position_or_len zero_test bytes)) None (lt-ltb _ _ lt)) e)
      | inr le ↦ λ k d l is. eqb-false (get_or bytes k d) 0 (fails_before_first zero_test bytes k d (omega arith)) is
    ] where
      apart : (n : ℕ) (o : Option ℕ) → o ≡ Some n → o ≡ None → ⊥
      apart n o p q = cc

-- ---- one entry

short_is_none : (format : DwarfFormat) (bytes : List ℕ) → 0 < length bytes → length bytes < width format → NoEntry format bytes
short_is_none format bytes some short = record {
  not_closed = λ h. elim h [
    | inl none ↦ omega (arith, ap length none)
    | inr z ↦ omega (arith, ap length z.1, length-append (replicate (width format) 0) z.0, length-replicate {A = ℕ} (width format) 0)
  ];
  no_entry = λ e rest p. omega (arith, ap length p.bytes_are, length-append (number format p.offset) (e.flag ∷ (e.name ++ 0 ∷ rest)), length-number format p.offset);
}

pub closed_at_zero : (format : DwarfFormat) (bytes rest : List ℕ) (n : ℕ) → n ≡ 0 → bytes ≡ number format n ++ rest → IsClosed format bytes
closed_at_zero format bytes rest n zero_is is = inr (rest, is ∙ ap (λ k. number format k ++ rest) zero_is ∙ ap (λ z. z ++ rest) (zero_number format))

not_closed_at : (format : DwarfFormat) (bytes rest : List ℕ) (n : ℕ) → (n ≡ 0 → ⊥) → n < limit format → bytes ≡ number format n ++ rest → IsClosed format bytes → ⊥
not_closed_at format bytes rest n some fits is (inl none) = omega (arith, wide format, ap length none, ap length is, length-append (number format n) rest, length-number format n) where
  wide : (format : DwarfFormat) → 0 < width format
  wide Dwarf32 = omega arith
  wide Dwarf64 = omega arith
not_closed_at format bytes rest n some fits is (inr (skipped, zeros)) =
    some (same_number format n 0 rest skipped fits (zero_limit format) (sym is ∙ zeros ∙ ap (λ z. z ++ skipped) (sym (zero_number format)))).0

pub no_flag : (format : DwarfFormat) (bytes rest : List ℕ) (n : ℕ) → (n ≡ 0 → ⊥) → n < limit format → bytes ≡ number format n ++ rest → length rest ≡ 0 → NoEntry format bytes
no_flag format bytes rest n some fits is none = record {
  not_closed = not_closed_at format bytes rest n some fits is;
  no_entry = λ e tail p. let parts = same_number format n p.offset rest (e.flag ∷ (e.name ++ 0 ∷ tail)) fits p.fits (sym is ∙ p.bytes_are) in omega (arith, none, ap length parts.1);
}

pub no_end : (format : DwarfFormat) (bytes rest : List ℕ) (n flag : ℕ) → (n ≡ 0 → ⊥) → n < limit format → bytes ≡ number format n ++ (flag ∷ rest) → All (λ c. c ≢ 0) rest → NoEntry format bytes
no_end format bytes rest n flag some fits is clean = record {
  not_closed = not_closed_at format bytes (flag ∷ rest) n some fits is;
  no_entry = λ e tail p.
      let parts = same_number format n p.offset (flag ∷ rest) (e.flag ∷ (e.name ++ 0 ∷ tail)) fits p.fits (sym is ∙ p.bytes_are) in
      let same : rest ≡ e.name ++ 0 ∷ tail = tail_is flag e.flag rest (e.name ++ 0 ∷ tail) parts.1 in
      clean (length e.name) 0 (omega (arith, ap length same, length-append e.name (0 ∷ tail))) (ap (λ (t : List ℕ). get_or t (length e.name) 0) same ∙ get_or_at e.name 0 tail 0 (length e.name) refl);
} where
  tail_is : (c d : ℕ) (x y : List ℕ) → c ∷ x ≡ d ∷ y → x ≡ y
  tail_is c d x y e = cc

pub entry_made : (format : DwarfFormat) (bytes after rest : List ℕ) (e : Entry) (n : ℕ) → (n ≡ 0 → ⊥) → n < limit format → bytes ≡ number format n ++ (e.flag ∷ after) → All (λ c. c ≢ 0) e.name → after ≡ e.name ++ 0 ∷ rest → IsEntry format bytes e rest
entry_made format bytes after rest e n some fits is clean parts = record { offset = n; some = omega (arith, some); fits = fits; clean = clean; bytes_are = is ∙ ap (λ t. number format n ++ (e.flag ∷ t)) parts }

pub short_none : (format : DwarfFormat) (bytes : List ℕ) → 0 < length bytes → length bytes < width format → NoEntry format bytes
short_none format bytes some short = short_is_none format bytes some short

-- ---- all entries

pub none_there : (format : DwarfFormat) (bytes : List ℕ) → NoEntry format bytes → (es : List Entry) → IsEntries format bytes es → ⊥
none_there format bytes h [] closed = h.not_closed closed
none_there format bytes h (e ∷ es) (rest, entry, more) = h.no_entry e rest entry

pub sound_more : (format : DwarfFormat) (bytes rest tail : List ℕ) (done : List Entry) (e : Entry) → ((es : List Entry) → IsEntries format rest es → IsEntries format bytes (done ++ es)) → IsEntry format rest e tail → (es : List Entry) → IsEntries format tail es → IsEntries format bytes ((done ++ e ∷ []) ++ es)
sound_more format bytes rest tail done e sound entry es more = subst (λ xs. IsEntries format bytes xs) (sym (append_assoc done (e ∷ []) es)) (sound (e ∷ es) (tail, entry, more))

pub complete_more : (format : DwarfFormat) (bytes rest tail : List ℕ) (e : Entry) → ((es : List Entry) → IsEntries format bytes es → (fs : List Entry) × IsEntries format rest fs) → IsEntry format rest e tail → (es : List Entry) → IsEntries format bytes es → (fs : List Entry) × IsEntries format tail fs
complete_more format bytes rest tail e complete entry es all = let left = complete es all in entries_after format rest e tail left.0 entry left.1

pub entry_shorter : (format : DwarfFormat) (bytes rest : List ℕ) (e : Entry) → IsEntry format bytes e rest → length rest < length bytes
entry_shorter format bytes rest e p = omega (arith, ap length p.bytes_are, length-append (number format p.offset) (e.flag ∷ (e.name ++ 0 ∷ rest)), length-append e.name (0 ∷ rest))

-- ---- numbers

pub read_narrow : (format : DwarfFormat) (bytes rest front : List ℕ) (n : ℕ) → format ≡ Dwarf32 → ((i : ℕ) → get_or bytes i 0 < 256) → n < 2 ^ 32 → front ≡ take 4 bytes → 4 ≤ length bytes → n ≡ from_le_bytes w32 front → rest ≡ drop 4 bytes → (n < limit format) × (bytes ≡ number format n ++ rest)
read_narrow format bytes rest front n is small fits front_is long value rest_is =
    let spelled : to_le_bytes w32 n ≡ front = le_bytes_4 front n (ap length front_is ∙ length-take-le 4 bytes long) (λ i. subst (λ (t : List ℕ). get_or t i 0 < 256) (sym front_is) (take_small 4 bytes small i)) value in
    subst (λ f. (n < limit f) × (bytes ≡ number f n ++ rest)) (sym is)
    (fits, sym (take-append-drop 4 bytes) ∙ ap (λ t. t ++ drop 4 bytes) (sym front_is ∙ sym spelled) ∙ ap (λ t. to_le_bytes w32 n ++ t) (sym rest_is)) where
      take_small : (k : ℕ) (bytes : List ℕ) → ((i : ℕ) → get_or bytes i 0 < 256) → (i : ℕ) → get_or (take k bytes) i 0 < 256
      take_small k bytes small i = elim (cases_lt i k) [
        | inl lt ↦ subst (λ x. x < 256) (sym (get_or-take k bytes i 0 lt)) (small i)
        | inr le ↦ subst (λ x. x < 256) (sym (get_or_past (take k bytes) i 0 (omega (arith, length-take k bytes)))) (omega arith)
      ]

pub read_wide : (format : DwarfFormat) (bytes rest front : List ℕ) (n : ℕ) → format ≡ Dwarf64 → ((i : ℕ) → get_or bytes i 0 < 256) → n < 2 ^ 64 → front ≡ take 8 bytes → 8 ≤ length bytes → n ≡ from_le_bytes w64 front → rest ≡ drop 8 bytes → (n < limit format) × (bytes ≡ number format n ++ rest)
read_wide format bytes rest front n is small fits front_is long value rest_is =
    let spelled : to_le_bytes w64 n ≡ front = le_bytes_8 front n (ap length front_is ∙ length-take-le 8 bytes long) (λ i. subst (λ (t : List ℕ). get_or t i 0 < 256) (sym front_is) (take_small 8 bytes small i)) value in
    subst (λ f. (n < limit f) × (bytes ≡ number f n ++ rest)) (sym is)
    (fits, sym (take-append-drop 8 bytes) ∙ ap (λ t. t ++ drop 8 bytes) (sym front_is ∙ sym spelled) ∙ ap (λ t. to_le_bytes w64 n ++ t) (sym rest_is)) where
      take_small : (k : ℕ) (bytes : List ℕ) → ((i : ℕ) → get_or bytes i 0 < 256) → (i : ℕ) → get_or (take k bytes) i 0 < 256
      take_small k bytes small i = elim (cases_lt i k) [
        | inl lt ↦ subst (λ x. x < 256) (sym (get_or-take k bytes i 0 lt)) (small i)
        | inr le ↦ subst (λ x. x < 256) (sym (get_or_past (take k bytes) i 0 (omega (arith, length-take k bytes)))) (omega arith)
      ]

-- ---- what is bad

pub IsBad-weaker : {X Y P Q : Type 0} (r : Result X SetError) (e : SetError) → r ≡ Err e → (P → Q) → IsBad r P → (s : Result Y SetError) → s ≡ Err e → IsBad s Q
IsBad-weaker (Ok x) e is f h s same = absurd cc
IsBad-weaker (Err BadSet) BadSet is f h (Err BadSet) same = f h
IsBad-weaker (Err BadSet) NoMemory is f h s same = absurd cc
IsBad-weaker (Err NoMemory) BadSet is f h s same = absurd cc
IsBad-weaker (Err NoMemory) NoMemory is f h (Err NoMemory) same = tt
IsBad-weaker (Err BadSet) BadSet is f h (Ok y) same = absurd cc
IsBad-weaker (Err BadSet) BadSet is f h (Err NoMemory) same = absurd cc
IsBad-weaker (Err NoMemory) NoMemory is f h (Ok y) same = absurd cc
IsBad-weaker (Err NoMemory) NoMemory is f h (Err BadSet) same = absurd cc

-- Reading sets of names, one after another.
use Rattle.std.proofs.Common.{◌≡◌, ◌≢◌, ℕ, zero, suc, ◌+◌, ◌*◌, ◌<◌, List, [], ◌∷◌, ◌++◌, length, None, refl, sym, ap, subst, ◌∙◌, arith, append_assoc}
use Rattle.std.specs.Int.{w16, to_le_bytes}
use Rattle.std.proofs.lemmas.List.{length-append}
use Rattle.gdb_index_format.specs.declared.dwarf_format.DwarfFormat.{DwarfFormat}
use Rattle.gdb_index_format.specs.declared.dwarf_format.DwarfFormat.TheVariants.{Dwarf32, Dwarf64}
use Rattle.gdb_index_format.specs.Names.{Entry, NameSet, width, limit, number, initial_length, length_limit, IsEntries, IsSet, IsSetList}
use Rattle.gdb_index_format.proofs.SetLists.{same_front, length-number, same_number, same_length, body as spelled, set_parts, set_spells, one_set, some_bytes, no_bytes}
use Rattle.dwarf_sections.specs.declared.sets.SetHead.{SetHead}
use Rattle.std.specs.List.{All}
use Rattle.dwarf_sections.specs.Clean.{IsClean}
use Rattle.dwarf_sections.specs.steps.SetParts.{body, BodyAt, NoSet, IsHead}

body_then : (format : DwarfFormat) (u l : ℕ) (z x : List ℕ) → spelled format u l z x ≡ body format u l z ++ x
body_then format u l z x = sym (
    append_assoc (to_le_bytes w16 2) (number format u ++ (number format l ++ z)) x
    ∙ ap (λ (t : List ℕ). to_le_bytes w16 2 ++ t) (append_assoc (number format u) (number format l ++ z) x
    ∙ ap (λ (t : List ℕ). number format u ++ t) (append_assoc (number format l) z x))
    )

length-body : (format : DwarfFormat) (u l : ℕ) (z : List ℕ) → length (body format u l z) ≡ 2 + 2 * width format + length z
length-body format u l z = omega (arith, length-append (to_le_bytes w16 2) (number format u ++ (number format l ++ z)), length-append (number format u) (number format l ++ z), length-append (number format l) z, length-number format u, length-number format l)

-- what a set at the front says of an initial length that is read there
record Agrees (f : DwarfFormat) (n : ℕ) (r front rest : List ℕ) (s : NameSet) (p : IsSet front s) : Type 0 where
  format : f ≡ p.format
  len : n ≡ 2 + 2 * width p.format + length p.last
  rest_is : r ≡ body p.format s.unit p.unit_len p.last ++ rest

agrees : (bytes : List ℕ) (f : DwarfFormat) (n : ℕ) (r front rest : List ℕ) (s : NameSet) (p : IsSet front s) → n < length_limit f → bytes ≡ initial_length f n ++ r → bytes ≡ front ++ rest → Agrees f n r front rest s p
agrees bytes f n r front rest s p fits here is =
    let same = same_length f p.format n (2 + 2 * width p.format + length p.last) r (spelled p.format s.unit p.unit_len p.last rest) fits p.fits (sym here ∙ is ∙ set_spells front rest s p) in
    record { format = same.0; len = same.1; rest_is = same.2 ∙ body_then p.format s.unit p.unit_len p.last rest }

pub no_set_body : (bytes : List ℕ) (f : DwarfFormat) (n : ℕ) (r b after : List ℕ) → n < length_limit f → bytes ≡ initial_length f n ++ r → r ≡ b ++ after → length b ≡ n → BodyAt f b None → NoSet bytes
no_set_body bytes f n r b after fits here cut len none front rest s is p =
    let a = agrees bytes f n r front rest s p fits here is in
    let parts = same_front b (body p.format s.unit p.unit_len p.last) after rest (len ∙ a.len ∙ sym (length-body p.format s.unit p.unit_len p.last)) (sym cut ∙ a.rest_is) in
    subst (λ g. BodyAt g b None) a.format none s.unit p.unit_len p.last p.unit_fits p.len_fits parts.0

same_last_of : (f : DwarfFormat) (u v l m : ℕ) (z w x y : List ℕ) → u < limit f → v < limit f → l < limit f → m < limit f → length z ≡ length w → body f u l z ++ x ≡ body f v m w ++ y → z ≡ w
same_last_of f u v l m z w x y p q r t len e =
    let parts = same_front (body f u l z) (body f v m w) x y (length-body f u l z ∙ ap (λ (k : ℕ). 2 + 2 * width f + k) len ∙ sym (length-body f v m w)) e in
    let one = same_front (to_le_bytes w16 2) (to_le_bytes w16 2) (number f u ++ (number f l ++ z)) (number f v ++ (number f m ++ w)) refl parts.0 in
    let two = same_number f u v (number f l ++ z) (number f m ++ w) p q one.1 in
    (same_number f l m z w r t two.1).1

same_last : (f g : DwarfFormat) (u v l m : ℕ) (z w x y : List ℕ) → f ≡ g → u < limit f → v < limit g → l < limit f → m < limit g → 2 + 2 * width f + length z ≡ 2 + 2 * width g + length w → body f u l z ++ x ≡ body g v m w ++ y → z ≡ w
same_last Dwarf32 Dwarf32 u v l m z w x y o p q r t len e = same_last_of Dwarf32 u v l m z w x y p q r t (omega (arith, len)) e
same_last Dwarf64 Dwarf64 u v l m z w x y o p q r t len e = same_last_of Dwarf64 u v l m z w x y p q r t (omega (arith, len)) e
same_last Dwarf32 Dwarf64 u v l m z w x y o p q r t len e = absurd cc
same_last Dwarf64 Dwarf32 u v l m z w x y o p q r t len e = absurd cc

pub no_set_entries : (bytes : List ℕ) (h : SetHead) → IsHead bytes h → ((es : List Entry) → IsEntries h.format h.last.now es → ⊥) → NoSet bytes
no_set_entries bytes h head none front rest s is p =
    let a = agrees bytes h.format (2 + 2 * width h.format + length h.last.now) (body h.format h.unit head.unit_len h.last.now ++ h.rest.now) front rest s p head.fits head.bytes_are is in
    let last = same_last h.format p.format h.unit s.unit head.unit_len p.unit_len h.last.now p.last h.rest.now rest a.format head.unit_fits p.unit_fits head.len_fits p.len_fits a.len a.rest_is in
    none s.entries (subst (λ f. IsEntries f h.last.now s.entries) (sym a.format) (subst (λ z. IsEntries p.format z s.entries) (sym last) p.entries))

pub set_found : (bytes : List ℕ) (h : SetHead) (es : List Entry) → IsHead bytes h → IsEntries h.format h.last.now es → (front : List ℕ) × (bytes ≡ front ++ h.rest.now) × IsSet front (record { unit = h.unit; entries = es })
set_found bytes h es head entries =
    let i = initial_length h.format (2 + 2 * width h.format + length h.last.now) in
    let front = i ++ to_le_bytes w16 2 ++ number h.format h.unit ++ number h.format head.unit_len ++ h.last.now in (
      front,
      head.bytes_are ∙ ap (λ (t : List ℕ). i ++ t) (sym (body_then h.format h.unit head.unit_len h.last.now h.rest.now)) ∙ sym (set_parts i h.format h.unit head.unit_len h.last.now h.rest.now),
      record { format = h.format; unit_len = head.unit_len; last = h.last.now; unit_fits = head.unit_fits; len_fits = head.len_fits; entries = entries; fits = head.fits; bytes_are = refl },
    )

-- ---- all sets

pub none_there : (bytes : List ℕ) → 0 < length bytes → NoSet bytes → (ss : List NameSet) → IsSetList bytes ss → ⊥
none_there bytes some none [] nil = omega (arith, some, ap length nil)
none_there bytes some none (s ∷ ss) (front, rest, is, set, more) = none front rest s is set

pub sound_more : (bytes rest tail front : List ℕ) (done : List NameSet) (s : NameSet) → ((ss : List NameSet) → IsSetList rest ss → IsSetList bytes (done ++ ss)) → rest ≡ front ++ tail → IsSet front s → (ss : List NameSet) → IsSetList tail ss → IsSetList bytes ((done ++ s ∷ []) ++ ss)
sound_more bytes rest tail front done s sound is set ss more = subst (λ xs. IsSetList bytes xs) (sym (append_assoc done (s ∷ []) ss)) (sound (s ∷ ss) (front, tail, is, set, more))

sets_after : (rest tail front : List ℕ) (s : NameSet) (ss : List NameSet) → rest ≡ front ++ tail → IsSet front s → IsSetList rest ss → (ts : List NameSet) × IsSetList tail ts
sets_after rest tail front s [] is set nil = absurd (no_bytes front tail s set (sym is ∙ nil))
sets_after rest tail front s (t ∷ ts) is set (front', tail', is', set', more) = (ts, subst (λ b. IsSetList b ts) (sym (one_set front front' tail tail' s t set set' (sym is ∙ is')).1) more)

pub complete_more : (bytes rest tail front : List ℕ) (s : NameSet) → ((ss : List NameSet) → IsSetList bytes ss → (ts : List NameSet) × IsSetList rest ts) → rest ≡ front ++ tail → IsSet front s → (ss : List NameSet) → IsSetList bytes ss → (ts : List NameSet) × IsSetList tail ts
complete_more bytes rest tail front s complete is set ss all = let left = complete ss all in sets_after rest tail front s left.0 is set left.1

pub shorter : (rest tail front : List ℕ) (s : NameSet) → rest ≡ front ++ tail → IsSet front s → length tail < length rest
shorter rest tail front s is p =
    omega (arith, ap length is, ap length (set_spells front tail s p), length-append front tail, some_bytes p.format (2 + 2 * width p.format + length p.last), length-append (initial_length p.format (2 + 2 * width p.format + length p.last)) (spelled p.format s.unit p.unit_len p.last tail), ap length (body_then p.format s.unit p.unit_len p.last tail), length-append (body p.format s.unit p.unit_len p.last) tail)

pub nil_is : (bytes : List ℕ) → length bytes ≡ 0 → bytes ≡ []
nil_is [] e = refl
nil_is (b ∷ bytes) e = absurd (omega (arith, e))

-- ---- names end at a zero byte

entries_clean : (format : DwarfFormat) (bytes : List ℕ) (es : List Entry) → IsEntries format bytes es → All (λ e. All (λ c. c ≢ 0) e.name) es
entries_clean format bytes [] h k d l = absurd (omega arith)
entries_clean format bytes (e ∷ es) (rest, entry, more) zero d l = entry.clean
entries_clean format bytes (e ∷ es) (rest, entry, more) (suc k) d l = entries_clean format rest es more k d (omega arith)

pub sets_clean : (bytes : List ℕ) (ss : List NameSet) → IsSetList bytes ss → All IsClean ss
sets_clean bytes [] h k d l = absurd (omega arith)
sets_clean bytes (s ∷ ss) (front, rest, is, set, more) zero d l = entries_clean set.format set.last s.entries set.entries
sets_clean bytes (s ∷ ss) (front, rest, is, set, more) (suc k) d l = sets_clean rest ss more k d (omega arith)

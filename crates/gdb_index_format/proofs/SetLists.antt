-- Bytes are at most one list of sets of names.
use Rattle.std.proofs.Common.{◌≡◌, ◌≢◌, ℕ, suc, ◌+◌, ◌*◌, ◌<◌, List, [], ◌∷◌, ◌++◌, length, take, drop, refl, sym, ap, subst, ◌∙◌, arith, inl, inr, append_assoc}
use Rattle.std.specs.Prelude.{replicate}
use Rattle.std.specs.List.{All}
use Rattle.std.specs.Int.{w16, w32, w64, to_le_bytes, from_le_bytes}
use Rattle.std.proofs.lemmas.List.{take_at, drop_at, length-append}
use Rattle.std.proofs.lemmas.Nat.{from_le_bytes-to_le_bytes_4, from_le_bytes-to_le_bytes_8}
use Rattle.gdb_index_format.specs.declared.dwarf_format.DwarfFormat.{DwarfFormat}
use Rattle.gdb_index_format.specs.declared.dwarf_format.DwarfFormat.TheVariants.{Dwarf32, Dwarf64}
use Rattle.gdb_index_format.specs.Names.{Entry, NameSet, width, number, limit, initial_length, length_limit, IsClosed, IsEntry, IsEntries, IsSet, IsSetList, SetsAreOne}

-- two lists that begin with as many elements
pub same_front : (a b x y : List ℕ) → length a ≡ length b → a ++ x ≡ b ++ y → (a ≡ b) × (x ≡ y)
same_front a b x y len e = (
  sym (take_at a x (length a) refl) ∙ ap (take (length a)) e ∙ take_at b y (length a) (sym len),
  sym (drop_at a x (length a) refl) ∙ ap (drop (length a)) e ∙ drop_at b y (length a) (sym len),
)

pub length-number : (format : DwarfFormat) (n : ℕ) → length (number format n) ≡ width format
length-number Dwarf32 n = refl
length-number Dwarf64 n = refl

number_is : (format : DwarfFormat) (m n : ℕ) → m < limit format → n < limit format → number format m ≡ number format n → m ≡ n
number_is Dwarf32 m n p q e = sym (from_le_bytes-to_le_bytes_4 m p) ∙ ap (from_le_bytes w32) e ∙ from_le_bytes-to_le_bytes_4 n q
number_is Dwarf64 m n p q e = sym (from_le_bytes-to_le_bytes_8 m p) ∙ ap (from_le_bytes w64) e ∙ from_le_bytes-to_le_bytes_8 n q

pub zero_number : (format : DwarfFormat) → number format 0 ≡ replicate (width format) 0
zero_number Dwarf32 = refl
zero_number Dwarf64 = refl

pub zero_limit : (format : DwarfFormat) → 0 < limit format
zero_limit Dwarf32 = omega arith
zero_limit Dwarf64 = omega arith

-- a number and what follows it
pub same_number : (format : DwarfFormat) (m n : ℕ) (x y : List ℕ) → m < limit format → n < limit format → number format m ++ x ≡ number format n ++ y → (m ≡ n) × (x ≡ y)
same_number format m n x y p q e =
    let parts = same_front (number format m) (number format n) x y (length-number format m ∙ sym (length-number format n)) e in
    (number_is format m n p q parts.0, parts.1)

-- names end at their first zero byte
same_name : (a b x y : List ℕ) → All (λ c. c ≢ 0) a → All (λ c. c ≢ 0) b → a ++ 0 ∷ x ≡ b ++ 0 ∷ y → (a ≡ b) × (x ≡ y)
same_name [] [] x y p q e = (refl, cc)
same_name [] (c ∷ b) x y p q e = absurd (q 0 0 (omega arith) (first c 0 (b ++ 0 ∷ y) x (sym e))) where
  first : (c d : ℕ) (x y : List ℕ) → c ∷ x ≡ d ∷ y → c ≡ d
  first c d x y e = cc
same_name (c ∷ a) [] x y p q e = absurd (p 0 0 (omega arith) (first c 0 (a ++ 0 ∷ x) y e)) where
  first : (c d : ℕ) (x y : List ℕ) → c ∷ x ≡ d ∷ y → c ≡ d
  first c d x y e = cc
same_name (c ∷ a) (d ∷ b) x y p q e =
    let heads : c ≡ d = cc in
    let tails : a ++ 0 ∷ x ≡ b ++ 0 ∷ y = cc in
    let rest = same_name a b x y (λ k z l. p (suc k) z (omega arith)) (λ k z l. q (suc k) z (omega arith)) tails in
    (ap (λ h. h ∷ a) heads ∙ ap (λ t. d ∷ t) rest.0, rest.1)

-- what closes the entries is no entry
pub not_closed : (format : DwarfFormat) (bytes : List ℕ) (e : Entry) (rest : List ℕ) → IsEntry format bytes e rest → IsClosed format bytes → ⊥
not_closed format bytes e rest p (inl none) =
    omega (arith, ap length p.bytes_are, ap length none, length-append (number format p.offset) (e.flag ∷ (e.name ++ 0 ∷ rest)))
not_closed format bytes e rest p (inr (skipped, zeros)) =
    let parts = same_number format p.offset 0 (e.flag ∷ (e.name ++ 0 ∷ rest)) skipped p.fits (zero_limit format) (sym p.bytes_are ∙ zeros ∙ ap (λ z. z ++ skipped) (sym (zero_number format))) in
    omega (arith, p.some, parts.0)

same_entry : (e f : Entry) → e.name ≡ f.name → e.flag ≡ f.flag → e ≡ f
same_entry e f p q = ap (λ (n : List ℕ). record { name = n; flag = e.flag }) p ∙ ap (λ (n : ℕ). record { name = f.name; flag = n }) q

-- no entry begins another
pub one_entry : (format : DwarfFormat) (bytes : List ℕ) (e f : Entry) (rest tail : List ℕ) → IsEntry format bytes e rest → IsEntry format bytes f tail → (e ≡ f) × (rest ≡ tail)
one_entry format bytes e f rest tail p q =
    let parts = same_number format p.offset q.offset (e.flag ∷ (e.name ++ 0 ∷ rest)) (f.flag ∷ (f.name ++ 0 ∷ tail)) p.fits q.fits (sym p.bytes_are ∙ q.bytes_are) in
    let names = same_name e.name f.name rest tail p.clean q.clean (tail_is e.flag f.flag _ _ parts.1) in
    (same_entry e f names.0 (head_is e.flag f.flag _ _ parts.1), names.1) where
      head_is : (c d : ℕ) (x y : List ℕ) → c ∷ x ≡ d ∷ y → c ≡ d
      head_is c d x y e = cc

      tail_is : (c d : ℕ) (x y : List ℕ) → c ∷ x ≡ d ∷ y → x ≡ y
      tail_is c d x y e = cc

one_entries : (format : DwarfFormat) (bytes : List ℕ) (es fs : List Entry) → IsEntries format bytes es → IsEntries format bytes fs → es ≡ fs
one_entries format bytes [] [] p q = refl
one_entries format bytes [] (f ∷ fs) p (rest, entry, more) = absurd (not_closed format bytes f rest entry p)
one_entries format bytes (e ∷ es) [] (rest, entry, more) q = absurd (not_closed format bytes e rest entry q)
one_entries format bytes (e ∷ es) (f ∷ fs) (rest, entry, more) (tail, entry', more') =
    let parts = one_entry format bytes e f rest tail entry entry' in
    ap (λ x. x ∷ es) parts.0 ∙ ap (λ xs. f ∷ xs) (one_entries format rest es fs more (subst (λ t. IsEntries format t fs) (sym parts.1) more'))

-- so what follows an entry holds the other entries
pub entries_after : (format : DwarfFormat) (bytes : List ℕ) (e : Entry) (rest : List ℕ) (es : List Entry) → IsEntry format bytes e rest → IsEntries format bytes es → (fs : List Entry) × IsEntries format rest fs
entries_after format bytes e rest [] p closed = absurd (not_closed format bytes e rest p closed)
entries_after format bytes e rest (f ∷ fs) p (tail, entry, more) = (fs, subst (λ t. IsEntries format t fs) (sym (one_entry format bytes e f rest tail p entry).1) more)

-- an initial length shows its format and its number
wide_is_not_narrow : (m : ℕ) (x y : List ℕ) → m < 4294967280 → to_le_bytes w32 m ++ x ≡ 255 ∷ 255 ∷ 255 ∷ 255 ∷ y → ⊥
wide_is_not_narrow m x y small e =
    let parts = same_front (to_le_bytes w32 m) (255 ∷ 255 ∷ 255 ∷ 255 ∷ []) x y refl e in
    let value : m ≡ 4294967295 = sym (from_le_bytes-to_le_bytes_4 m (omega arith)) ∙ ap (from_le_bytes w32) parts.0 in
    omega (arith, value)

pub same_length : (f g : DwarfFormat) (m n : ℕ) (x y : List ℕ) → m < length_limit f → n < length_limit g → initial_length f m ++ x ≡ initial_length g n ++ y → (f ≡ g) × (m ≡ n) × (x ≡ y)
same_length Dwarf32 Dwarf32 m n x y p q e = let parts = same_number Dwarf32 m n x y (omega arith) (omega arith) e in (refl, parts.0, parts.1)
same_length Dwarf32 Dwarf64 m n x y p q e = absurd (wide_is_not_narrow m x (to_le_bytes w64 n ++ y) p e)
same_length Dwarf64 Dwarf32 m n x y p q e = absurd (wide_is_not_narrow n y (to_le_bytes w64 m ++ x) q (sym e))
same_length Dwarf64 Dwarf64 m n x y p q e =
    let inner : number Dwarf64 m ++ x ≡ number Dwarf64 n ++ y = (same_front (255 ∷ 255 ∷ 255 ∷ 255 ∷ []) (255 ∷ 255 ∷ 255 ∷ 255 ∷ []) (number Dwarf64 m ++ x) (number Dwarf64 n ++ y) refl e).1 in
    let parts = same_number Dwarf64 m n x y p q inner in
    (refl, parts.0, parts.1)

same_set : (s t : NameSet) → s.unit ≡ t.unit → s.entries ≡ t.entries → s ≡ t
same_set s t p q = ap (λ (n : ℕ). record { unit = n; entries = s.entries }) p ∙ ap (λ (es : List Entry). record { unit = t.unit; entries = es }) q

-- what follows the initial length
abbrev pub body : DwarfFormat → ℕ → ℕ → List ℕ → List ℕ → List ℕ
body format unit len last x = to_le_bytes w16 2 ++ (number format unit ++ (number format len ++ (last ++ x)))

same_body_of : (f : DwarfFormat) (u v l m : ℕ) (z w x y : List ℕ) (es fs : List Entry) → u < limit f → v < limit f → l < limit f → m < limit f → IsEntries f z es → IsEntries f w fs → length z ≡ length w → body f u l z x ≡ body f v m w y → (u ≡ v) × (es ≡ fs) × (x ≡ y)
same_body_of f u v l m z w x y es fs p q r t c d len e =
    let one = same_front (to_le_bytes w16 2) (to_le_bytes w16 2) (number f u ++ (number f l ++ (z ++ x))) (number f v ++ (number f m ++ (w ++ y))) refl e in
    let two = same_number f u v (number f l ++ (z ++ x)) (number f m ++ (w ++ y)) p q one.1 in
    let three = same_number f l m (z ++ x) (w ++ y) r t two.1 in
    let four = same_front z w x y len three.1 in
    (two.0, one_entries f z es fs c (subst (λ b. IsEntries f b fs) (sym four.0) d), four.1)

same_body : (f g : DwarfFormat) (u v l m : ℕ) (z w x y : List ℕ) (es fs : List Entry) → f ≡ g → u < limit f → v < limit g → l < limit f → m < limit g → IsEntries f z es → IsEntries g w fs → 2 + 2 * width f + length z ≡ 2 + 2 * width g + length w → body f u l z x ≡ body g v m w y → (u ≡ v) × (es ≡ fs) × (x ≡ y)
same_body Dwarf32 Dwarf32 u v l m z w x y es fs o p q r t c d len e = same_body_of Dwarf32 u v l m z w x y es fs p q r t c d (omega (arith, len)) e
same_body Dwarf64 Dwarf64 u v l m z w x y es fs o p q r t c d len e = same_body_of Dwarf64 u v l m z w x y es fs p q r t c d (omega (arith, len)) e
same_body Dwarf32 Dwarf64 u v l m z w x y es fs o p q r t c d len e = absurd cc
same_body Dwarf64 Dwarf32 u v l m z w x y es fs o p q r t c d len e = absurd cc

pub set_parts : (i : List ℕ) (format : DwarfFormat) (u l : ℕ) (z x : List ℕ) → i ++ to_le_bytes w16 2 ++ number format u ++ number format l ++ z ++ x ≡ i ++ body format u l z x
set_parts i format u l z x =
    append_assoc (i ++ to_le_bytes w16 2 ++ number format u ++ number format l) z x
    ∙ append_assoc (i ++ to_le_bytes w16 2 ++ number format u) (number format l) (z ++ x)
    ∙ append_assoc (i ++ to_le_bytes w16 2) (number format u) (number format l ++ (z ++ x))
    ∙ append_assoc i (to_le_bytes w16 2) (number format u ++ (number format l ++ (z ++ x)))

pub set_spells : (a x : List ℕ) (s : NameSet) (p : IsSet a s) → a ++ x ≡ initial_length p.format (2 + 2 * width p.format + length p.last) ++ body p.format s.unit p.unit_len p.last x
set_spells a x s p = ap (λ b. b ++ x) p.bytes_are ∙ set_parts (initial_length p.format (2 + 2 * width p.format + length p.last)) p.format s.unit p.unit_len p.last x

-- no set begins another
pub one_set : (a b x y : List ℕ) (s t : NameSet) → IsSet a s → IsSet b t → a ++ x ≡ b ++ y → (s ≡ t) × (x ≡ y)
one_set a b x y s t p q e =
    let lengths = same_length p.format q.format (2 + 2 * width p.format + length p.last) (2 + 2 * width q.format + length q.last) (body p.format s.unit p.unit_len p.last x) (body q.format t.unit q.unit_len q.last y) p.fits q.fits (sym (set_spells a x s p) ∙ e ∙ set_spells b y t q) in
    let parts = same_body p.format q.format s.unit t.unit p.unit_len q.unit_len p.last q.last x y s.entries t.entries lengths.0 p.unit_fits q.unit_fits p.len_fits q.len_fits p.entries q.entries lengths.1 lengths.2 in
    (same_set s t parts.0 parts.1, parts.2)

pub some_bytes : (format : DwarfFormat) (n : ℕ) → 0 < length (initial_length format n)
some_bytes Dwarf32 n = omega arith
some_bytes Dwarf64 n = omega arith

pub no_bytes : (front rest : List ℕ) (t : NameSet) → IsSet front t → front ++ rest ≡ [] → ⊥
no_bytes front rest t set e =
    omega (arith, ap length e, ap length (set_spells front rest t set), some_bytes set.format (2 + 2 * width set.format + length set.last), length-append (initial_length set.format (2 + 2 * width set.format + length set.last)) (body set.format t.unit set.unit_len set.last rest))

pub one_set_list : SetsAreOne
one_set_list b [] [] p q = refl
one_set_list b [] (t ∷ ts) p (front, rest, is, set, more) = absurd (no_bytes front rest t set (sym is ∙ p))
one_set_list b (s ∷ ss) [] (front, rest, is, set, more) q = absurd (no_bytes front rest s set (sym is ∙ q))
one_set_list b (s ∷ ss) (t ∷ ts) (front, rest, is, set, more) (front', rest', is', set', more') =
    let parts = one_set front front' rest rest' s t set set' (sym is ∙ is') in
    ap (λ x. x ∷ ss) parts.0 ∙ ap (λ xs. t ∷ xs) (one_set_list rest ss ts more (subst (λ r. IsSetList r ts) (sym parts.1) more'))

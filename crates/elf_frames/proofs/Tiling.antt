-- Entries that tile the data from its first byte end in one way.
use Rattle.std.proofs.Common.{◌≡◌, inl, inr, ℕ, ◌+◌, ◌<◌, ◌≤◌, List, [], ◌∷◌, ◌++◌, length, Option, Some, None, refl, sym, ap, ◌∙◌, subst, arith}
use Rattle.std.specs.List.{AllByRecursion}
use Rattle.elf_frames.specs.Entries.{FrameEntry, Begins, IsEntryAt, Tile, IsEnd, length_at}
use Rattle.elf_frames.specs.Taken.{FrameInput, first_lacking}
use Rattle.elf_frames.specs.Split.{HasSymbols, AreEntries}

-- ---- one more entry

pub tile_put : (bytes : List ℕ) (at : ℕ) (es : List FrameEntry) (stop : ℕ) (e : FrameEntry) → Tile bytes at es stop → IsEntryAt bytes stop e → Tile bytes at (es ++ e ∷ []) (stop + e.size)
tile_put bytes at [] stop e tile is =
    subst (λ (n : ℕ). Tile bytes n (e ∷ []) (stop + e.size)) (sym tile) (is, refl)
tile_put bytes at (f ∷ es) stop e tile is = (tile.0, tile_put bytes (at + f.size) es stop e tile.1 is)

pub all_put : {X : Type 0} (P : X → Type 0) (xs : List X) (x : X) → AllByRecursion P xs → P x → AllByRecursion P (xs ++ x ∷ [])
all_put P [] x h k = (k, tt)
all_put P (y ∷ xs) x h k = (h.0, all_put P xs x h.1 k)

pub tile_within : (bytes : List ℕ) (at : ℕ) (es : List FrameEntry) (stop : ℕ) → at ≤ length bytes → Tile bytes at es stop → stop ≤ length bytes
tile_within bytes at [] stop h tile = subst (λ (n : ℕ). n ≤ length bytes) tile h
tile_within bytes at (e ∷ es) stop h tile = tile_within bytes (at + e.size) es stop tile.0.within tile.1

-- ---- how they end

-- no entry begins, or the one that begins ends after the data, or lacks the symbol of a relocation
pub data Ending : Type 0 where
  ended : Ending
  too_long : Ending
  lacking : ℕ → Ending

pub record TooLong (bytes : List ℕ) (at : ℕ) : Type 0 where
  pub begins : Begins bytes at
  pub beyond : length bytes < at + (4 + length_at bytes at)

pub record Lacking (input : FrameInput) (at r : ℕ) : Type 0 where
  pub entry : FrameEntry
  pub is_entry : IsEntryAt input.bytes at entry
  pub first : first_lacking input entry ≡ Some r

abbrev pub EndsAs : FrameInput → ℕ → Ending → Type 0
EndsAs input at ended = IsEnd input.bytes at
EndsAs input at too_long = TooLong input.bytes at
EndsAs input at (lacking r) = Lacking input at r

not_both : (bytes : List ℕ) (at : ℕ) → IsEnd bytes at → Begins bytes at → ⊥
not_both bytes at (inl short) begins = absurd (omega (arith, begins.room))
not_both bytes at (inr zero_length) begins = begins.some zero_length.1

entry_is : (o s p t : ℕ) → o ≡ p → s ≡ t → (let e : FrameEntry = record { offset = o; size = s } in let f : FrameEntry = record { offset = p; size = t } in e ≡ f)
entry_is o s p t a b = cc (a, b)

pub one_entry : (bytes : List ℕ) (at : ℕ) (e f : FrameEntry) → IsEntryAt bytes at e → IsEntryAt bytes at f → e ≡ f
one_entry bytes at e f h k = entry_is e.offset e.size f.offset f.size (h.offset ∙ sym k.offset) (h.size ∙ sym k.size)

fits_not : (bytes : List ℕ) (at : ℕ) (e : FrameEntry) → IsEntryAt bytes at e → length bytes < at + (4 + length_at bytes at) → ⊥
fits_not bytes at e is beyond = absurd (omega (arith, is.size, is.within))

same_some : (r q : ℕ) → Some r ≡ Some q → r ≡ q
same_some r q e = cc

none_some : {X : Type 0} (o : Option X) (x : X) → o ≡ None → o ≡ Some x → ⊥
none_some o x a b = cc

one_lacking : (input : FrameInput) (at r q : ℕ) → Lacking input at r → Lacking input at q → r ≡ q
one_lacking input at r q h k = same_some r q (sym h.first ∙ ap (first_lacking input) (one_entry input.bytes at h.entry k.entry h.is_entry k.is_entry) ∙ k.first)

one_ending : (input : FrameInput) (at : ℕ) (a b : Ending) → EndsAs input at a → EndsAs input at b → a ≡ b
one_ending input at ended ended h k = refl
one_ending input at ended too_long h k = absurd (not_both input.bytes at h k.begins)
one_ending input at ended (lacking r) h k = absurd (not_both input.bytes at h k.is_entry.begins)
one_ending input at too_long ended h k = absurd (not_both input.bytes at k h.begins)
one_ending input at too_long too_long h k = refl
one_ending input at too_long (lacking r) h k = absurd (fits_not input.bytes at k.entry k.is_entry h.beyond)
one_ending input at (lacking r) ended h k = absurd (not_both input.bytes at k h.is_entry.begins)
one_ending input at (lacking r) too_long h k = absurd (fits_not input.bytes at h.entry h.is_entry k.beyond)
one_ending input at (lacking r) (lacking q) h k = ap lacking (one_lacking input at r q h k)

-- an entry with its symbols goes on
goes_on : (input : FrameInput) (at : ℕ) (a : Ending) (e : FrameEntry) → EndsAs input at a → IsEntryAt input.bytes at e → HasSymbols input e → ⊥
goes_on input at ended e h is has = not_both input.bytes at h is.begins
goes_on input at too_long e h is has = fits_not input.bytes at e is h.beyond
goes_on input at (lacking r) e h is has = none_some (first_lacking input h.entry) r (ap (first_lacking input) (one_entry input.bytes at h.entry e h.is_entry is) ∙ has) h.first

-- the same entries, up to the same offset, and the same ending
pub record SameEntries (es fs : List FrameEntry) (s t : ℕ) (a b : Ending) : Type 0 where
  pub entries : es ≡ fs
  pub stop : s ≡ t
  pub ending : a ≡ b

cons_same : (e f : FrameEntry) (es fs : List FrameEntry) → e ≡ f → es ≡ fs → e ∷ es ≡ f ∷ fs
cons_same e f es fs p q = cc (p, q)

same_from : (input : FrameInput) (at : ℕ) (es fs : List FrameEntry) (s t : ℕ) (a b : Ending)
    → Tile input.bytes at es s → AllByRecursion (HasSymbols input) es → EndsAs input s a
    → Tile input.bytes at fs t → AllByRecursion (HasSymbols input) fs → EndsAs input t b → SameEntries es fs s t a b
same_from input at [] [] s t a b te he ae tf hf bf =
    let e : t ≡ s = sym tf ∙ te in
    record { entries = refl; stop = sym e; ending = one_ending input s a b ae (subst (λ (n : ℕ). EndsAs input n b) e bf) }
same_from input at [] (f ∷ fs) s t a b te he ae tf hf bf = absurd (goes_on input at a f (subst (λ (n : ℕ). EndsAs input n a) (sym te) ae) tf.0 hf.0)
same_from input at (e ∷ es) [] s t a b te he ae tf hf bf = absurd (goes_on input at b e (subst (λ (n : ℕ). EndsAs input n b) (sym tf) bf) te.0 he.0)
same_from input at (e ∷ es) (f ∷ fs) s t a b te he ae tf hf bf =
    let first : f ≡ e = one_entry input.bytes at f e tf.0 te.0 in
    let tile : Tile input.bytes (at + e.size) fs t = subst (λ (x : FrameEntry). Tile input.bytes (at + x.size) fs t) first tf.1 in
    let later : SameEntries es fs s t a b = same_from input (at + e.size) es fs s t a b te.1 he.1 ae tile hf.1 bf in
    record { entries = cons_same e f es fs (sym first) later.entries; stop = later.stop; ending = later.ending }

pub same_entries : (input : FrameInput) (es fs : List FrameEntry) (s t : ℕ) (a b : Ending) → AreEntries input es s → EndsAs input s a → AreEntries input fs t → EndsAs input t b → SameEntries es fs s t a b
same_entries input es fs s t a b he ae hf bf = same_from input 0 es fs s t a b he.tile he.symbols ae hf.tile hf.symbols bf

-- The frames of a section among lists of frames, one after another.
use Rattle.std.proofs.Common.{◌≡◌, ℕ, zero, suc, ◌+◌, ◌<◌, Bool, true, false, List, [], ◌∷◌, ◌++◌, length, map, get_or, Option, Some, None, refl, sym, ap, ◌∙◌, subst, arith, cond, reverse, option_map}
use Rattle.std.specs.List.{filter, enumerate_from}
use Rattle.std.specs.Option.{option_or}
use Rattle.std.proofs.lemmas.List.{map-append, reverse-append, length-append}
use Rattle.std.proofs.lemmas.List.Elements.{filter-append}
use Rattle.elf_format.specs.Symbol.{last_that}
use Rattle.elf_frames.specs.Frames.{Frame, is_for, previous_after}
use Rattle.elf_frames.specs.Laws.{PreviousIsLower, LaterFramesFirst}

-- the indexes of a section's frames, counted from a number
abbrev pub frames_from : ℕ → ℕ → List Frame → List ℕ
frames_from section n fs = map (λ p. p.0) (filter (λ p. is_for section p.1) (enumerate_from n fs))

abbrev pub last_from : ℕ → ℕ → List Frame → Option ℕ
last_from section n fs = option_map (λ p. p.0) (last_that (λ p. is_for section p.1) (enumerate_from n fs))

first_of_pair : (b : Bool) (n : ℕ) (f : Frame) (rest : List (ℕ × Frame)) → map (λ p. p.0) (cond b ((n, f) ∷ rest) rest) ≡ cond b (n ∷ map (λ p. p.0) rest) (map (λ p. p.0) rest)
first_of_pair true n f rest = refl
first_of_pair false n f rest = refl

pub from_cons : (section n : ℕ) (f : Frame) (fs : List Frame) → frames_from section n (f ∷ fs) ≡ cond (is_for section f) (n ∷ frames_from section (n + 1) fs) (frames_from section (n + 1) fs)
from_cons section n f fs = first_of_pair (is_for section f) n f (filter (λ p. is_for section p.1) (enumerate_from (n + 1) fs))

last_of_pair : (b : Bool) (n : ℕ) (f : Frame) (o : Option (ℕ × Frame)) → option_map (λ p. p.0) (option_or o (cond b (Some (n, f)) None)) ≡ option_or (option_map (λ p. p.0) o) (cond b (Some n) None)
last_of_pair b n f (Some p) = refl
last_of_pair true n f None = refl
last_of_pair false n f None = refl

pub last_cons : (section n : ℕ) (f : Frame) (fs : List Frame) → last_from section n (f ∷ fs) ≡ option_or (last_from section (n + 1) fs) (cond (is_for section f) (Some n) None)
last_cons section n f fs = last_of_pair (is_for section f) n f (last_that (λ p. is_for section p.1) (enumerate_from (n + 1) fs))

-- ---- counted from another number

up : ℕ → ℕ → ℕ
up m n = m + n

map_cond : (b : Bool) (m n : ℕ) (xs ys : List ℕ) → xs ≡ map (λ i. m + i) ys → cond b ((m + n) ∷ xs) xs ≡ map (λ i. m + i) (cond b (n ∷ ys) ys)
map_cond true m n xs ys e = ap (λ zs. (m + n) ∷ zs) e
map_cond false m n xs ys e = e

one_up : (m n : ℕ) → m + n + 1 ≡ m + (n + 1)
one_up m n = omega arith

pub frames_up : (section m n : ℕ) (fs : List Frame) → frames_from section (m + n) fs ≡ map (λ i. m + i) (frames_from section n fs)
frames_up section m n [] = refl
frames_up section m n (f ∷ fs) =
    from_cons section (m + n) f fs
    ∙ map_cond (is_for section f) m n (frames_from section (m + n + 1) fs) (frames_from section (n + 1) fs) (ap (λ k. frames_from section k fs) (one_up m n) ∙ frames_up section m (n + 1) fs)
    ∙ ap (map (λ i. m + i)) (sym (from_cons section n f fs))

-- ---- one after another

enumerate_append : (n : ℕ) (fs gs : List Frame) → enumerate_from n (fs ++ gs) ≡ enumerate_from n fs ++ enumerate_from (n + length fs) gs
enumerate_append n [] gs = let e : n + 0 ≡ n = omega arith in ap (λ k. enumerate_from k gs) (sym e)
enumerate_append n (f ∷ fs) gs =
    let e : n + 1 + length fs ≡ n + suc (length fs) = omega arith in
    ap (λ xs. (n, f) ∷ xs) (enumerate_append (n + 1) fs gs ∙ ap (λ k. enumerate_from (n + 1) fs ++ enumerate_from k gs) e)

pub frames_append : (section n : ℕ) (fs gs : List Frame) → frames_from section n (fs ++ gs) ≡ frames_from section n fs ++ frames_from section (n + length fs) gs
frames_append section n fs gs =
    ap (λ xs. map (λ p. p.0) (filter (λ p. is_for section p.1) xs)) (enumerate_append n fs gs)
    ∙ ap (map (λ p. p.0)) (filter-append (λ p. is_for section p.1) (enumerate_from n fs) (enumerate_from (n + length fs) gs))
    ∙ map-append (λ p. p.0) (filter (λ p. is_for section p.1) (enumerate_from n fs)) (filter (λ p. is_for section p.1) (enumerate_from (n + length fs) gs))

no_more : (n : ℕ) → 0 + n ≡ n + 0
no_more n = omega arith

pub later_frames_first : LaterFramesFirst
later_frames_first fs gs section =
    ap reverse (frames_append section 0 fs gs ∙ ap (λ k. frames_from section 0 fs ++ frames_from section k gs) (no_more (length fs)) ∙ ap (λ xs. frames_from section 0 fs ++ xs) (frames_up section (length fs) 0 gs))
    ∙ reverse-append (frames_from section 0 fs) (map (λ i. length fs + i) (frames_from section 0 gs))

-- ---- the last frame of a section

below : (o : Option ℕ) (b : Bool) (n j m : ℕ) → n < m → (o ≡ Some j → j < m) → option_or o (cond b (Some n) None) ≡ Some j → j < m
below (Some x) b n j m h k e = k e
below None true n j m h k e = subst (λ (i : ℕ). i < m) (some_is n j e) h where
  some_is : (a c : ℕ) → Some a ≡ Some c → a ≡ c
  some_is a c e = cc
below None false n j m h k e = k e

pub last_below : (section n : ℕ) (fs : List Frame) (j : ℕ) → last_from section n fs ≡ Some j → j < n + length fs
last_below section n [] j e = absurd (no_frame e) where
  no_frame : None ≡ Some j → ⊥
  no_frame e = cc
last_below section n (f ∷ fs) j e =
    let s : n + 1 + length fs ≡ n + suc (length fs) = omega arith in
    below (last_from section (n + 1) fs) (is_for section f) n j (n + suc (length fs)) (omega arith)
    (λ h. subst (λ (m : ℕ). j < m) s (last_below section (n + 1) fs j h)) (sym (last_cons section n f fs) ∙ e)

lower_after : (before fs : List Frame) (k j : ℕ) → k < length fs → get_or (previous_after before fs) k None ≡ Some j → j < length before + k
lower_after before [] k j h e = absurd (omega arith)
lower_after before (f ∷ fs) zero j h e = let l : j < 0 + length before = last_below f.section 0 before j e in omega (arith, l)
lower_after before (f ∷ fs) (suc k) j h e =
    let l : j < length (before ++ f ∷ []) + k = lower_after (before ++ f ∷ []) fs k j (omega arith) e in
    omega (arith, l, length-append before (f ∷ []))

pub previous_is_lower : PreviousIsLower
previous_is_lower fs k j h e = let l : j < 0 + k = lower_after [] fs k j h e in omega (arith, l)

-- The chain of frames of one section.
use Rattle.std.proofs.Common.{◌≡◌, ℕ, zero, suc, ◌+◌, ◌<◌, ◌≤◌, Bool, true, false, cond, List, [], ◌∷◌, ◌++◌, length, reverse, take, get_or, Option, Some, None, refl, sym, ap, ◌∙◌, subst, arith, add-one, append_assoc}
use Rattle.std.specs.Prelude.{◌==◌, slice_get}
use Rattle.std.proofs.lemmas.Bool.Decides.{nat_tests}
use Rattle.std.proofs.lemmas.List.{append-nil, reverse-append, length-take-le, take_more, take_all}
use Rattle.std.proofs.lemmas.Option.{get_or_from_slice_get, slice_get_within}
use Rattle.elf_frames.specs.Frames.{Frame, is_for, frames_for, last_frame, previous_after, previous_frames}
use Rattle.elf_frames.specs.steps.Chain.{chain_of, chain_at, IsAmong}
use Rattle.elf_frames.proofs.Linking.{frames_from, frames_append, from_cons, last_below}
use Rattle.elf_frames.proofs.Linked.{or_new, last_one_more}
use Rattle.elf_frames.proofs.Ranges.{past}

-- ---- one more frame

up_to : (fs : List Frame) (i : ℕ) (f : Frame) → slice_get fs i ≡ Some f → take (i + 1) fs ≡ take i fs ++ f ∷ []
up_to fs i f e = take_more fs i f (slice_get_within fs i f e) ∙ ap (λ x. take i fs ++ x ∷ []) (get_or_from_slice_get fs i f f e)

count_up_to : (fs : List Frame) (i : ℕ) (f : Frame) → slice_get fs i ≡ Some f → length (take i fs) ≡ i
count_up_to fs i f e = let h : i < length fs = slice_get_within fs i f e in length-take-le i fs (omega arith)

frames_for_put : (s : ℕ) (gs : List Frame) (f : Frame) → frames_for s (gs ++ f ∷ []) ≡ frames_for s gs ++ cond (is_for s f) (length gs ∷ []) []
frames_for_put s gs f =
    let e : 0 + length gs ≡ length gs = omega arith in
    frames_append s 0 gs (f ∷ []) ∙ ap (λ n. frames_for s gs ++ frames_from s n (f ∷ [])) e ∙ ap (λ xs. frames_for s gs ++ xs) (from_cons s (length gs) f [])

own_section : (n : ℕ) → n == n ≡ true
own_section n = grind (arith, nat_tests)

same_section : (m n : ℕ) → m == n ≡ true → m ≡ n
same_section m n e = grind (arith, nat_tests)

last_first : (xs : List ℕ) (m n : ℕ) → m ≡ n → reverse (xs ++ m ∷ []) ≡ n ∷ reverse xs
last_first xs m n e = reverse-append xs (m ∷ []) ∙ ap (λ k. k ∷ reverse xs) e

put_true : (s : ℕ) (gs : List Frame) (f : Frame) (n : ℕ) → is_for s f ≡ true → length gs ≡ n → reverse (frames_for s (gs ++ f ∷ [])) ≡ n ∷ reverse (frames_for s gs)
put_true s gs f n is count =
    ap reverse (frames_for_put s gs f ∙ ap (λ b. frames_for s gs ++ cond b (length gs ∷ []) []) is) ∙ last_first (frames_for s gs) (length gs) n count

put_false : (s : ℕ) (gs : List Frame) (f : Frame) → is_for s f ≡ false → reverse (frames_for s (gs ++ f ∷ [])) ≡ reverse (frames_for s gs)
put_false s gs f is = ap reverse (frames_for_put s gs f ∙ ap (λ b. frames_for s gs ++ cond b (length gs ∷ []) []) is ∙ append-nil (frames_for s gs))

-- ---- from a frame back

pub chain_known : (fs : List Frame) (i : ℕ) (f : Frame) → slice_get fs i ≡ Some f → chain_at fs (Some i) ≡ i ∷ reverse (frames_for f.section (take i fs))
chain_known fs i f e =
    ap (chain_of fs i) e
    ∙ ap (λ gs. reverse (frames_for f.section gs)) (up_to fs i f e)
    ∙ put_true f.section (take i fs) f i (own_section f.section) (count_up_to fs i f e)

chain_step : (fs : List Frame) (s n : ℕ) (f : Frame) (b : Bool) → slice_get fs n ≡ Some f → is_for s f ≡ b → reverse (frames_for s (take n fs)) ≡ chain_at fs (last_frame s (take n fs))
    → reverse (frames_for s (take n fs ++ f ∷ [])) ≡ chain_at fs (last_frame s (take n fs ++ f ∷ []))
chain_step fs s n f true e is before =
    let own : f.section ≡ s = same_section f.section s is in
    put_true s (take n fs) f n is (count_up_to fs n f e)
    ∙ ap (λ t. n ∷ reverse (frames_for t (take n fs))) (sym own)
    ∙ sym (chain_known fs n f e)
    ∙ ap (λ k. chain_at fs (Some k)) (sym (count_up_to fs n f e))
    ∙ ap (λ b. chain_at fs (or_new b (length (take n fs)) (last_frame s (take n fs)))) (sym is)
    ∙ ap (chain_at fs) (sym (last_one_more s (take n fs) f))
chain_step fs s n f false e is before =
    put_false s (take n fs) f is
    ∙ before
    ∙ ap (λ b. chain_at fs (or_new b (length (take n fs)) (last_frame s (take n fs)))) (sym is)
    ∙ ap (chain_at fs) (sym (last_one_more s (take n fs) f))

chain_more : (fs : List Frame) (s n : ℕ) (o : Option Frame) → suc n ≤ length fs → slice_get fs n ≡ o → reverse (frames_for s (take n fs)) ≡ chain_at fs (last_frame s (take n fs))
    → reverse (frames_for s (take (suc n) fs)) ≡ chain_at fs (last_frame s (take (suc n) fs))
chain_more fs s n None h e before = let p : length fs ≤ n = past fs n e in absurd (omega arith)
chain_more fs s n (Some f) h e before =
    let t : take (suc n) fs ≡ take n fs ++ f ∷ [] = ap (λ k. take k fs) (sym (add-one n)) ∙ up_to fs n f e in
    ap (λ gs. reverse (frames_for s gs)) t
    ∙ chain_step fs s n f (is_for s f) e refl before
    ∙ ap (λ gs. chain_at fs (last_frame s gs)) (sym t)

-- of the first frames, those of a section, latest first
pub chain_last : (fs : List Frame) (s n : ℕ) → n ≤ length fs → reverse (frames_for s (take n fs)) ≡ chain_at fs (last_frame s (take n fs))
chain_last fs s zero h = refl
chain_last fs s (suc n) h = chain_more fs s n (slice_get fs n) h refl (chain_last fs s n (omega arith))

pub chain_whole : (fs : List Frame) (s : ℕ) (o : Option ℕ) → o ≡ last_frame s fs → chain_at fs o ≡ reverse (frames_for s fs)
chain_whole fs s o e =
    let all : take (length fs) fs ≡ fs = take_all (length fs) fs (omega arith) in
    ap (chain_at fs) e ∙ ap (λ gs. chain_at fs (last_frame s gs)) (sym all) ∙ sym (chain_last fs s (length fs) (omega arith)) ∙ ap (λ gs. reverse (frames_for s gs)) all

-- ---- the frame before

previous_from : (before fs : List Frame) (i : ℕ) (f : Frame) → slice_get fs i ≡ Some f → get_or (previous_after before fs) i None ≡ last_frame f.section (before ++ take i fs)
previous_from before [] i f e = cc
previous_from before (g ∷ fs) zero f e = ap (λ (h : Frame). last_frame h.section before) (same g f e) ∙ ap (last_frame f.section) (sym (append-nil before)) where
  same : (a b : Frame) → Some a ≡ Some b → a ≡ b
  same a b e = cc
previous_from before (g ∷ fs) (suc i) f e = previous_from (before ++ g ∷ []) fs i f e ∙ ap (last_frame f.section) (append_assoc before (g ∷ []) (take i fs))

pub previous_is : (fs : List Frame) (i : ℕ) (f : Frame) → slice_get fs i ≡ Some f → get_or (previous_frames fs) i None ≡ last_frame f.section (take i fs)
previous_is fs i f e = previous_from [] fs i f e

-- a chain from a frame: the frame, and the chain from the one before it
chain_unfolds : (fs : List Frame) (i : ℕ) (o : Option Frame) → i < length fs → slice_get fs i ≡ o → chain_at fs (Some i) ≡ i ∷ chain_at fs (get_or (previous_frames fs) i None)
chain_unfolds fs i None h e = let p : length fs ≤ i = past fs i e in absurd (omega arith)
chain_unfolds fs i (Some f) h e =
    chain_known fs i f e ∙ ap (λ xs. i ∷ xs) (chain_last fs f.section i (omega arith) ∙ ap (chain_at fs) (sym (previous_is fs i f e)))

pub chain_next : (fs : List Frame) (i : ℕ) → i < length fs → chain_at fs (Some i) ≡ i ∷ chain_at fs (get_or (previous_frames fs) i None)
chain_next fs i h = chain_unfolds fs i (slice_get fs i) h refl

among_by : (fs : List Frame) (o : Option ℕ) → ((j : ℕ) → o ≡ Some j → j < length fs) → IsAmong fs o
among_by fs None h = tt
among_by fs (Some j) h = h j refl

pub last_among : (fs : List Frame) (s : ℕ) (o : Option ℕ) → o ≡ last_frame s fs → IsAmong fs o
last_among fs s o e = among_by fs o (λ j k. let h : j < 0 + length fs = last_below s 0 fs j (sym e ∙ k) in omega (arith, h))

previous_among_of : (fs : List Frame) (i : ℕ) (o : Option Frame) → i < length fs → slice_get fs i ≡ o → IsAmong fs (get_or (previous_frames fs) i None)
previous_among_of fs i None h e = let p : length fs ≤ i = past fs i e in absurd (omega arith)
previous_among_of fs i (Some f) h e =
    among_by fs _ (λ j k. let l : j < 0 + length (take i fs) = last_below f.section 0 (take i fs) j (sym (previous_is fs i f e) ∙ k) in omega (arith, l, count_up_to fs i f e))

pub previous_among : (fs : List Frame) (i : ℕ) (o : Option ℕ) → i < length fs → o ≡ get_or (previous_frames fs) i None → IsAmong fs o
previous_among fs i o h e = subst (IsAmong fs) (sym e) (previous_among_of fs i (slice_get fs i) h refl)

pub chain_shorter : (fs : List Frame) (i : ℕ) (o : Option ℕ) → i < length fs → o ≡ get_or (previous_frames fs) i None → length (chain_at fs o) < length (chain_at fs (Some i))
chain_shorter fs i o h e =
    let a : length (chain_at fs (Some i)) ≡ suc (length (chain_at fs (get_or (previous_frames fs) i None))) = ap length (chain_next fs i h) in
    let b : length (chain_at fs o) ≡ length (chain_at fs (get_or (previous_frames fs) i None)) = ap (λ x. length (chain_at fs x)) e in
    omega (arith, a, b)

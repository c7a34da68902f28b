-- How many frames a section's chain has, and their sizes.
use Rattle.std.proofs.Common.{◌≡◌, ℕ, suc, ◌+◌, ◌<◌, ◌≤◌, Bool, true, false, cond, List, [], ◌∷◌, ◌++◌, length, reverse, Some, refl, sym, ap, ◌∙◌, subst, arith, append_assoc}
use Rattle.std.specs.Prelude.{slice_get}
use Rattle.std.specs.List.{filter, sum_by, AllByRecursion}
use Rattle.std.proofs.lemmas.List.{length-reverse, reverse-append, length_push}
use Rattle.std.proofs.lemmas.List.Sums.{sum_by-cons, sum_by_push}
use Rattle.elf_frames.specs.Frames.{Frame, is_for, frames_for, frame_count, frame_bytes}
use Rattle.elf_frames.specs.steps.Kept.{size_at, size_of_frame}
use Rattle.elf_frames.proofs.Linking.{frames_from, from_cons}
use Rattle.elf_frames.proofs.Tiling.{all_put}

-- ---- how many

count_pick : (b : Bool) (n : ℕ) (f : Frame) (ns : List ℕ) (fs : List Frame) → length ns ≡ length fs → length (cond b (n ∷ ns) ns) ≡ length (cond b (f ∷ fs) fs)
count_pick true n f ns fs e = let h : suc (length ns) ≡ suc (length fs) = ap suc e in h
count_pick false n f ns fs e = e

count_from : (s n : ℕ) (fs : List Frame) → length (frames_from s n fs) ≡ length (filter (is_for s) fs)
count_from s n [] = refl
count_from s n (f ∷ fs) = ap length (from_cons s n f fs) ∙ count_pick (is_for s f) n f (frames_from s (n + 1) fs) (filter (is_for s) fs) (count_from s (n + 1) fs)

pub chain_count : (fs : List Frame) (s : ℕ) → length (reverse (frames_for s fs)) ≡ frame_count s fs
chain_count fs s = length-reverse (frames_for s fs) ∙ count_from s 0 fs

-- ---- their sizes

at_end : (before : List Frame) (f : Frame) (fs : List Frame) → slice_get (before ++ f ∷ fs) (length before) ≡ Some f
at_end [] f fs = refl
at_end (g ∷ before) f fs = at_end before f fs

bytes_pick : (b : Bool) (size : ℕ → ℕ) (n : ℕ) (f : Frame) (ns : List ℕ) (fs : List Frame) → size n ≡ f.size → sum_by size ns ≡ sum_by (λ x. x.size) fs → sum_by size (cond b (n ∷ ns) ns) ≡ sum_by (λ x. x.size) (cond b (f ∷ fs) fs)
bytes_pick true size n f ns fs e h = let a : sum_by size (n ∷ ns) ≡ size n + sum_by size ns = sum_by-cons size n ns in let b : sum_by (λ x. x.size) (f ∷ fs) ≡ f.size + sum_by (λ x. x.size) fs = sum_by-cons (λ x. x.size) f fs in omega (arith, a, b, e, h)
bytes_pick false size n f ns fs e h = h

bytes_from : (all before : List Frame) (s n : ℕ) (fs : List Frame) → all ≡ before ++ fs → n ≡ length before → sum_by (size_at all) (frames_from s n fs) ≡ sum_by (λ x. x.size) (filter (is_for s) fs)
bytes_from all before s n [] e h = refl
bytes_from all before s n (f ∷ fs) e h =
    ap (sum_by (size_at all)) (from_cons s n f fs)
    ∙ bytes_pick (is_for s f) (size_at all) n f (frames_from s (n + 1) fs) (filter (is_for s) fs)
    (ap (λ xs. size_at xs n) e ∙ ap (size_at (before ++ f ∷ fs)) h ∙ ap size_of_frame (at_end before f fs))
    (bytes_from all (before ++ f ∷ []) s (n + 1) fs (e ∙ sym (append_assoc before (f ∷ []) fs)) (ap (λ k. k + 1) h ∙ sym (length_push before f)))

sum_reverse : (size : ℕ → ℕ) (ns : List ℕ) → sum_by size (reverse ns) ≡ sum_by size ns
sum_reverse size [] = refl
sum_reverse size (n ∷ ns) = let e : reverse (n ∷ ns) ≡ reverse ns ++ n ∷ [] = reverse-append (n ∷ []) ns in omega (arith, ap (sum_by size) e, sum_by_push size (reverse ns) n, sum_reverse size ns, sum_by-cons size n ns)

pub chain_bytes : (fs : List Frame) (s : ℕ) → sum_by (size_at fs) (reverse (frames_for s fs)) ≡ frame_bytes s fs
chain_bytes fs s = sum_reverse (size_at fs) (frames_for s fs) ∙ bytes_from fs [] s 0 fs refl refl

-- ---- all are among the frames

below_pick : (b : Bool) (m n : ℕ) (ns : List ℕ) → n < m → AllByRecursion (λ i. i < m) ns → AllByRecursion (λ i. i < m) (cond b (n ∷ ns) ns)
below_pick true m n ns h k = (h, k)
below_pick false m n ns h k = k

below_from : (m s n : ℕ) (fs : List Frame) → n + length fs ≤ m → AllByRecursion (λ i. i < m) (frames_from s n fs)
below_from m s n [] h = tt
below_from m s n (f ∷ fs) h = subst (AllByRecursion (λ i. i < m)) (sym (from_cons s n f fs)) (below_pick (is_for s f) m n (frames_from s (n + 1) fs) (omega arith) (below_from m s (n + 1) fs (omega arith)))

all_reverse : (m : ℕ) (ns : List ℕ) → AllByRecursion (λ i. i < m) ns → AllByRecursion (λ i. i < m) (reverse ns)
all_reverse m [] h = tt
all_reverse m (n ∷ ns) h = subst (AllByRecursion (λ i. i < m)) (sym (reverse-append (n ∷ []) ns)) (all_put (λ i. i < m) (reverse ns) n (all_reverse m ns h.1) h.0)

pub chain_below : (fs : List Frame) (s : ℕ) → AllByRecursion (λ i. i < length fs) (reverse (frames_for s fs))
chain_below fs s = all_reverse (length fs) (frames_for s fs) (below_from (length fs) s 0 fs (omega arith))

-- ---- sums go no higher than the whole

filter_fewer : (s : ℕ) (fs : List Frame) → frame_count s fs ≤ length fs
filter_fewer s [] = omega arith
filter_fewer s (f ∷ fs) = let h : length (filter (is_for s) fs) ≤ length fs = filter_fewer s fs in pick (is_for s f) h where
  pick : (b : Bool) → length (filter (is_for s) fs) ≤ length fs → length (cond b (f ∷ filter (is_for s) fs) (filter (is_for s) fs)) ≤ length (f ∷ fs)
  pick true h = omega arith
  pick false h = omega arith

pub frame_count_within : (fs : List Frame) (s : ℕ) → frame_count s fs ≤ length fs
frame_count_within fs s = filter_fewer s fs

pub frame_bytes_within : (s : ℕ) (fs : List Frame) → frame_bytes s fs ≤ sum_by (λ f. f.size) fs
frame_bytes_within s [] = omega arith
frame_bytes_within s (f ∷ fs) = pick (is_for s f) (frame_bytes_within s fs) where
  pick : (b : Bool) → sum_by (λ x. x.size) (filter (is_for s) fs) ≤ sum_by (λ x. x.size) fs → sum_by (λ x. x.size) (cond b (f ∷ filter (is_for s) fs) (filter (is_for s) fs)) ≤ sum_by (λ x. x.size) (f ∷ fs)
  pick true h = omega (arith, sum_by-cons (λ (x : Frame). x.size) f (filter (is_for s) fs), sum_by-cons (λ (x : Frame). x.size) f fs)
  pick false h = omega (arith, sum_by-cons (λ (x : Frame). x.size) f fs)

-- the frames of a chain that are still to come, with what was counted of those before
pub record IsCounted (fs : List Frame) (s count size : ℕ) (left : List ℕ) : Type 0 where
  pub below : AllByRecursion (λ i. i < length fs) left
  pub counted : count + length left ≡ frame_count s fs
  pub summed : size + sum_by (size_at fs) left ≡ frame_bytes s fs

pub counts_none : (fs : List Frame) (s : ℕ) (left : List ℕ) → left ≡ reverse (frames_for s fs) → IsCounted fs s 0 0 left
counts_none fs s left e = record {
  below = subst (AllByRecursion (λ i. i < length fs)) (sym e) (chain_below fs s);
  counted = omega (arith, ap length e, chain_count fs s);
  summed = omega (arith, ap (sum_by (size_at fs)) e, chain_bytes fs s);
}

pub counts_more : (fs : List Frame) (s count size n : ℕ) (left : List ℕ) → IsCounted fs s count size (n ∷ left) → IsCounted fs s (count + 1) (size + size_at fs n) left
counts_more fs s count size n left h = record {
  below = h.below.1;
  counted = omega (arith, h.counted);
  summed = omega (arith, h.summed, sum_by-cons (size_at fs) n left);
}

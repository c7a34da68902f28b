-- Numbers and steps as they are read.
use Rattle.std.proofs.Common.{◌≡◌, ℕ, zero, suc, ◌+◌, ◌-◌, ◌*◌, ◌/◌, ◌<◌, ◌≤◌, false, cond, ltb, List, length, take, drop, get_or, map, Option, Some, None, Result, Ok, Err, refl, sym, ap, ◌∙◌, arith}
use Rattle.std.specs.Prelude.{slice_get, ◌||◌}
use Rattle.std.proofs.lemmas.Bool.{or_from, le-ltb}
use Rattle.std.specs.List.{range_with_len}
use Rattle.std.proofs.lemmas.List.{same_lists, length-take, length-drop}
use Rattle.std.proofs.lemmas.Option.{slice_get-get_or}
use Rattle.std.proofs.lemmas.List.FromFn.{length-map-range_with_len, get_or-map-range_with_len}
use Rattle.elf_format.specs.Bytes.{u32_at}
use Rattle.gdb_index_format.specs.Probe.{ProbeStep, Ends, Passes, Probed, after_step, probe_from, vector_at, step_in, step_at, slot_count}
use Rattle.gdb_index_format.specs.Hash.{name_hash}
use Rattle.gdb_index_format.specs.Slots.{slot_of}
use Rattle.gdb_index_format.specs.declared.bad_index.BadIndex.{BadIndex}
use Rattle.gdb_index_format.specs.declared.bad_index.BadIndex.TheVariants.{VectorOutside}
use Rattle.gdb_index.specs.Vector.{words_in}
use Rattle.elf_format.proofs.NumberLemmas.{number_in_part}

pub length_words_in : (bytes : List ℕ) → length (words_in bytes) ≡ length bytes / 4
unfolding words_in
length_words_in bytes = length-map-range_with_len (λ (k : ℕ). u32_at bytes (4 * k)) 0 (length bytes / 4)

pub get_or-words_in : (bytes : List ℕ) (k d : ℕ) → k < length bytes / 4 → get_or (words_in bytes) k d ≡ u32_at bytes (4 * k)
unfolding words_in
get_or-words_in bytes k d l = get_or-map-range_with_len (λ (j : ℕ). u32_at bytes (4 * j)) 0 (length bytes / 4) k k d l (omega arith)

abbrev pub vector_words : List ℕ → ℕ → ℕ → List ℕ
vector_words b at count = map (λ k. u32_at b (at + 4 + 4 * k)) (range_with_len 0 count)

pub words_in-part : (b : List ℕ) (at count n : ℕ) → n ≡ 4 * count → length (take n (drop (at + 4) b)) ≡ n → vector_words b at count ≡ words_in (take n (drop (at + 4) b))
words_in-part b at count n whole len =
    let part = take n (drop (at + 4) b) in
    let lens : length (words_in part) ≡ count = length_words_in part ∙ omega (arith, len, whole) in
    same_lists (vector_words b at count) (words_in part)
    (length-map-range_with_len (λ (k : ℕ). u32_at b (at + 4 + 4 * k)) 0 count ∙ sym lens)
    (λ k d l.
    let below : k < count = omega (arith, length-map-range_with_len (λ (k : ℕ). u32_at b (at + 4 + 4 * k)) 0 count) in
    get_or-map-range_with_len (λ (j : ℕ). u32_at b (at + 4 + 4 * j)) 0 count k k d below (omega arith)
    ∙ sym (number_in_part b (at + 4) n (4 * k) 4 (omega arith))
    ∙ sym (get_or-words_in part k d (omega (arith, len, whole))))

-- ---- a probe, step by step

after_is : (step : ProbeStep) (other : ProbeStep) (k : ℕ) (rest : Probed) → step ≡ other → after_step step k rest ≡ after_step other k rest
after_is step other k rest e = ap (λ x. after_step x k rest) e

pub probe_step : (f : ℕ → ProbeStep) (left n k : ℕ) → left ≡ n - k → k < n → probe_from f (n - k) k ≡ after_step (f k) k (probe_from f (n - (k + 1)) (k + 1))
unfolding probe_from
probe_step f zero n k e l = absurd (omega arith)
probe_step f (suc left) n k e l =
    ap (λ x. probe_from f x k) (sym e) ∙ ap (λ x. after_step (f k) k (probe_from f x (k + 1))) less where
      less : left ≡ n - (k + 1)
      less = omega arith

pub probe_ends : (f : ℕ → ProbeStep) (n k : ℕ) (answer : Result (Option (List ℕ)) BadIndex) → k < n → f k ≡ Ends answer → probe_from f (n - k) k ≡ record { answer = answer; steps = k + 1 }
probe_ends f n k answer l e = probe_step f (n - k) n k refl l ∙ after_is (f k) (Ends answer) k _ e

pub probe_passes : (f : ℕ → ProbeStep) (n k : ℕ) → k < n → f k ≡ Passes → probe_from f (n - k) k ≡ probe_from f (n - (k + 1)) (k + 1)
probe_passes f n k l e = probe_step f (n - k) n k refl l ∙ after_is (f k) Passes k _ e

pub probe_over : (f : ℕ → ProbeStep) (n : ℕ) → probe_from f (n - n) n ≡ record { answer = Ok None; steps = n }
unfolding probe_from
probe_over f n = ap (λ x. probe_from f x n) none where
  none : n - n ≡ 0
  none = omega arith

pub vector_found : (b : List ℕ) (at count : ℕ) → at + 4 ≤ length b → at + 4 + 4 * count ≤ length b → count ≡ u32_at b at → vector_at b at ≡ Ok (Some (words_in (take (at + 4 + 4 * count - (at + 4)) (drop (at + 4) b))))
unfolding vector_at
vector_found b at count head all is =
    let size : at + 4 + 4 * count - (at + 4) ≡ 4 * count = omega arith in
    let inside : (ltb (length b) (at + 4) || ltb (length b) (at + 4 + 4 * u32_at b at)) ≡ false =
    or_from (ltb (length b) (at + 4)) (ltb (length b) (at + 4 + 4 * u32_at b at)) (le-ltb (length b) (at + 4) head) (le-ltb (length b) (at + 4 + 4 * u32_at b at) (omega arith)) in
    let words : vector_words b at (u32_at b at) ≡ words_in (take (at + 4 + 4 * count - (at + 4)) (drop (at + 4) b)) =
    words_in-part b at (u32_at b at) (at + 4 + 4 * count - (at + 4)) (omega arith) (omega (arith, length-take (at + 4 + 4 * count - (at + 4)) (drop (at + 4) b), length-drop (at + 4) b)) in
    ap (λ x. cond x (Err VectorOutside) (Ok (Some (vector_words b at (u32_at b at))))) inside ∙ ap (λ ws. Ok (Some ws)) words

pub word_in-words : (bytes : List ℕ) (index : ℕ) → index < length (words_in bytes) → 4 * index + 4 ≤ length bytes
word_in-words bytes index l = omega (arith, length_words_in bytes)

pub slice_get-words_in : (bytes : List ℕ) (index word : ℕ) → index < length (words_in bytes) → word ≡ u32_at bytes (4 * index) → Some word ≡ slice_get (words_in bytes) index
slice_get-words_in bytes index word l is =
    sym (slice_get-get_or (words_in bytes) index 0 l ∙ ap (λ x. Some x) (get_or-words_in bytes index 0 (omega (arith, length_words_in bytes)) ∙ sym is))

pub step_is : (b n : List ℕ) (slots hash k s : ℕ) (x : ProbeStep) → x ≡ step_in b n s → s ≡ slot_of slots hash k → hash ≡ name_hash n → slots ≡ slot_count b → step_at b n k ≡ x
step_is b n slots hash k s x found at hashed counted =
    ap (λ m. step_in b n (slot_of m (name_hash n) k)) (sym counted) ∙ ap (λ h. step_in b n (slot_of slots h k)) (sym hashed) ∙ ap (step_in b n) (sym at) ∙ sym found

-- Frames with one more, and the links between those of one section.
use Rattle.std.proofs.Common.{◌≡◌, ℕ, zero, suc, ◌+◌, ◌<◌, ◌≤◌, Bool, true, false, cond, List, [], ◌∷◌, ◌++◌, length, map, set, take, drop, get_or, Option, Some, None, refl, sym, ap, ◌∙◌, subst, arith, append_assoc, option_map, vec_len, vec_capacity}
use Rattle.std.specs.Prelude.{◌==◌}
use Rattle.std.specs.List.{sum_by, AllByRecursion}
use Rattle.std.proofs.lemmas.Bool.Decides.{nat_tests}
use Rattle.std.proofs.lemmas.List.{map-append, append-nil, drop_more, length-drop, length-map, take_all, take_more, take-map}
use Rattle.std.proofs.lemmas.List.Sums.{sum_by-cons, sum_by_push, sum_by-take-le}
use Rattle.std.proofs.lemmas.Option.{slice_get_read}
use Rattle.std.specs.Option.{option_or, option_flatten}
use Rattle.elf_format.specs.declared.index.SectionIndex.{SectionIndex}
use Rattle.elf_format.specs.Class.{Class}
use Rattle.elf_frames.specs.declared.frame.CieAtOffset.{CieAtOffset}
use Rattle.elf_frames.specs.declared.frame.ExceptionFrame.{ExceptionFrame}
use Rattle.elf_frames.specs.declared.frame.FrameIndex.{FrameIndex}
use Rattle.elf_frames.specs.declared.links.FrameLinks.{FrameLinks}
use Rattle.elf_frames.specs.Frames.{Frame, cie_size, is_for, previous_after, previous_frames, last_frame}
use Rattle.elf_frames.specs.Shown.{shown_cie, shown_frame, shown_frames, shown_previous, last_in, sections_of}
use Rattle.elf_frames.specs.steps.Kept.{size_at}
use Rattle.elf_frames.specs.steps.Links.{linked_frames, AreLinked, HasFrameRoom}
use Rattle.elf_frames.proofs.Linking.{last_from, last_cons}
use Rattle.elf_frames.proofs.Tiling.{all_put}

-- ---- what contracts see

pub shown_put : {A B C D E F G H I J K : Type 0} (c : Class) (fs : List (ExceptionFrame A B C D E F G H I J K)) (ss : List SectionIndex) (f : ExceptionFrame A B C D E F G H I J K) (s : SectionIndex) → length ss ≡ length fs
    → shown_frames c (fs ++ f ∷ []) (ss ++ s ∷ []) ≡ shown_frames c fs ss ++ shown_frame c f s ∷ []
shown_put c [] [] f s e = refl
shown_put c [] (t ∷ ss) f s e = absurd (omega arith)
shown_put c (g ∷ fs) [] f s e = absurd (omega arith)
shown_put c (g ∷ fs) (t ∷ ss) f s e = ap (λ xs. shown_frame c g t ∷ xs) (shown_put c fs ss f s (omega arith))

pub shown_length : {A B C D E F G H I J K : Type 0} (c : Class) (fs : List (ExceptionFrame A B C D E F G H I J K)) (ss : List SectionIndex) → length ss ≡ length fs → length (shown_frames c fs ss) ≡ length fs
shown_length c [] ss e = refl
shown_length c (g ∷ fs) [] e = absurd (omega arith)
shown_length c (g ∷ fs) (t ∷ ss) e = ap suc (shown_length c fs ss (omega arith))

-- with the sections that contracts see, the frames are those that they see
pub shown_again : {A B C D E F G H I J K : Type 0} (c : Class) (fs : List (ExceptionFrame A B C D E F G H I J K)) (ss : List SectionIndex) → length ss ≡ length fs → shown_frames c fs (sections_of (shown_frames c fs ss)) ≡ shown_frames c fs ss
shown_again c [] ss e = refl
shown_again c (g ∷ fs) [] e = absurd (omega arith)
shown_again c (g ∷ fs) (t ∷ ss) e = ap (λ xs. shown_frame c g t ∷ xs) (shown_again c fs ss (omega arith))

-- sizes

shown_sizes : {A B C D E F G H I J K : Type 0} (c : Class) (fs : List (ExceptionFrame A B C D E F G H I J K)) (ss : List SectionIndex) → length ss ≡ length fs → sum_by (λ f. f.size) (shown_frames c fs ss) ≡ sum_by (λ f. f.frame_size) fs
shown_sizes c [] ss e = refl
shown_sizes c (g ∷ fs) [] e = absurd (omega arith)
shown_sizes c (g ∷ fs) (t ∷ ss) e =
    sum_by-cons (λ f. f.size) (shown_frame c g t) (shown_frames c fs ss) ∙ ap (λ n. g.frame_size + n) (shown_sizes c fs ss (omega arith)) ∙ sym (sum_by-cons (λ f. f.frame_size) g fs)

-- by the sections that contracts see
pub seen_sizes : {A B C D E F G H I J K : Type 0} (c : Class) (fs : List (ExceptionFrame A B C D E F G H I J K)) (seen : List Frame) → length fs ≡ length seen → shown_frames c fs (sections_of seen) ≡ seen → sum_by (λ f. f.frame_size) fs ≡ sum_by (λ f. f.size) seen
seen_sizes c fs seen e h =
    sym (shown_sizes c fs (sections_of seen) (length-map seen (λ f. record { 0 = f.section }) ∙ sym e)) ∙ ap (sum_by (λ (f : Frame). f.size)) h

pub seen_total : {A B C D E F G H I J K : Type 0} (c : Class) (fs : List (ExceptionFrame A B C D E F G H I J K)) (seen : List Frame) (i n sum : ℕ) → length fs ≡ length seen → shown_frames c fs (sections_of seen) ≡ seen → length fs ≤ i → sum ≡ n + sum_by (λ f. f.frame_size) (take i fs) → sum ≡ n + sum_by (λ f. f.size) seen
seen_total c fs seen i n sum e h past is = is ∙ ap (λ xs. n + sum_by (λ f. f.frame_size) xs) (take_all i fs past) ∙ ap (λ m. n + m) (seen_sizes c fs seen e h)

pub shown_size : {A B C D E F G H I J K : Type 0} (c : Class) (fs : List (ExceptionFrame A B C D E F G H I J K)) (ss : List SectionIndex) (i : ℕ) (d : ExceptionFrame A B C D E F G H I J K) → length ss ≡ length fs → i < length fs → (get_or fs i d).frame_size ≡ size_at (shown_frames c fs ss) i
shown_size c [] ss i d e h = absurd (omega arith)
shown_size c (g ∷ fs) [] i d e h = absurd (omega arith)
shown_size c (g ∷ fs) (t ∷ ss) zero d e h = refl
shown_size c (g ∷ fs) (t ∷ ss) (suc i) d e h = shown_size c fs ss i d (omega arith) (omega arith)

pub cies_fit : (cies : List CieAtOffset) (i : ℕ) (d : CieAtOffset) → i < length cies → cie_size (map shown_cie (take i cies)) + length (get_or cies i d).bytes.now ≤ cie_size (map shown_cie cies)
cies_fit cies i d h =
    let step : cie_size (map shown_cie (take (i + 1) cies)) ≡ cie_size (map shown_cie (take i cies)) + length (get_or cies i d).bytes.now =
    ap (λ xs. cie_size (map shown_cie xs)) (take_more cies i d h) ∙ ap cie_size (map-append shown_cie (take i cies) (get_or cies i d ∷ [])) ∙ sum_by_push (λ cie. length cie.bytes) (map shown_cie (take i cies)) (shown_cie (get_or cies i d)) in
    let whole : cie_size (take (i + 1) (map shown_cie cies)) ≤ cie_size (map shown_cie cies) = sum_by-take-le (λ cie. length cie.bytes) (map shown_cie cies) (i + 1) in
    let same : cie_size (take (i + 1) (map shown_cie cies)) ≡ cie_size (map shown_cie (take (i + 1) cies)) = ap cie_size (take-map shown_cie (i + 1) cies) in
    omega (arith, step, whole, same)

-- ---- links

previous_put : (before fs : List Frame) (g : Frame) → previous_after before (fs ++ g ∷ []) ≡ previous_after before fs ++ last_frame g.section (before ++ fs) ∷ []
previous_put before [] g = ap (λ xs. last_frame g.section xs ∷ []) (sym (append-nil before))
previous_put before (f ∷ fs) g =
    ap (λ xs. last_frame f.section before ∷ xs) (previous_put (before ++ f ∷ []) fs g ∙ ap (λ xs. previous_after (before ++ f ∷ []) fs ++ last_frame g.section xs ∷ []) (append_assoc before (f ∷ []) fs))

pub previous_one_more : (fs : List Frame) (g : Frame) → previous_frames (fs ++ g ∷ []) ≡ previous_frames fs ++ last_frame g.section fs ∷ []
previous_one_more fs g = previous_put [] fs g

-- the last frame of a section with one more frame
abbrev pub or_new : Bool → ℕ → Option ℕ → Option ℕ
or_new b n o = cond b (Some n) o

none_or : (b : Bool) (n : ℕ) → option_or None (cond b (Some n) None) ≡ or_new b n None
none_or true n = refl
none_or false n = refl

new_or : (b c : Bool) (m n : ℕ) (o : Option ℕ) → option_or (or_new b m o) (cond c (Some n) None) ≡ or_new b m (option_or o (cond c (Some n) None))
new_or true c m n o = refl
new_or false c m n o = refl

last_put : (section n : ℕ) (fs : List Frame) (g : Frame) → last_from section n (fs ++ g ∷ []) ≡ or_new (is_for section g) (n + length fs) (last_from section n fs)
last_put section n [] g =
    last_cons section n g [] ∙ none_or (is_for section g) n ∙ ap (λ m. or_new (is_for section g) m None) (sym (add-none n)) where
      add-none : (n : ℕ) → n + 0 ≡ n
      add-none n = omega arith
last_put section n (f ∷ fs) g =
    let e : n + 1 + length fs ≡ n + suc (length fs) = omega arith in
    last_cons section n f (fs ++ g ∷ [])
    ∙ ap (λ o. option_or o (cond (is_for section f) (Some n) None)) (last_put section (n + 1) fs g ∙ ap (λ m. or_new (is_for section g) m (last_from section (n + 1) fs)) e)
    ∙ new_or (is_for section g) (is_for section f) (n + suc (length fs)) n (last_from section (n + 1) fs)
    ∙ ap (λ o. or_new (is_for section g) (n + suc (length fs)) o) (sym (last_cons section n f fs))

pub last_one_more : (section : ℕ) (fs : List Frame) (g : Frame) → last_frame section (fs ++ g ∷ []) ≡ or_new (is_for section g) (length fs) (last_frame section fs)
last_one_more section fs g = last_put section 0 fs g ∙ ap (λ m. or_new (is_for section g) m (last_frame section fs)) (none-add (length fs)) where
  none-add : (n : ℕ) → 0 + n ≡ n
  none-add n = omega arith

-- ---- the list of last frames

same_index : (a b : ℕ) → suc a == suc b ≡ (a == b)
same_index a b = grind (arith, nat_tests)

not_later : (b : ℕ) → 0 == suc b ≡ false
not_later b = grind (arith, nat_tests)

not_earlier : (a : ℕ) → suc a == 0 ≡ false
not_earlier a = grind (arith, nat_tests)

at_new : (b c : Bool) (n : ℕ) (o : Option ℕ) → b ≡ c → or_new c n o ≡ or_new b n o
at_new b c n o e = cc

pub last_in_set : (last : List (Option FrameIndex)) (s section n : ℕ) → s < length last → last_in (set last s (Some (record { 0 = n }))) section ≡ or_new (s == section) n (last_in last section)
last_in_set [] s section n h = absurd (omega arith)
last_in_set (x ∷ last) zero zero n h = refl
last_in_set (x ∷ last) zero (suc section) n h = at_new (0 == suc section) false n (last_in last section) (not_later section)
last_in_set (x ∷ last) (suc s) zero n h = at_new (suc s == 0) false n (last_in (x ∷ []) 0) (not_earlier s)
last_in_set (x ∷ last) (suc s) (suc section) n h =
    last_in_set last s section n (omega arith) ∙ at_new (suc s == suc section) (s == section) n (last_in last section) (same_index s section)

-- ---- one more frame

read_last : (last : List (Option FrameIndex)) (s : ℕ) (x : Option FrameIndex) → s < length last → x ≡ get_or last s x → option_map (λ i. i.0) x ≡ last_in last s
read_last last s x h e = sym (ap (λ o. option_map (λ i. i.0) (option_flatten o)) (slice_get_read last (length last) s x refl h e))

pub put_previous : {A B C D E F G H I J K : Type 0} (c : Class) (fs : List (ExceptionFrame A B C D E F G H I J K)) (ss : List SectionIndex) (last : List (Option FrameIndex)) (f : ExceptionFrame A B C D E F G H I J K) (s : SectionIndex)
    → length ss ≡ length fs → map shown_previous fs ≡ previous_frames (shown_frames c fs ss) → ((section : ℕ) → last_in last section ≡ last_frame section (shown_frames c fs ss)) → s.0 < length last
    → f.previous_frame_for_section ≡ get_or last s.0 f.previous_frame_for_section
    → map shown_previous (fs ++ f ∷ []) ≡ previous_frames (shown_frames c (fs ++ f ∷ []) (ss ++ s ∷ []))
put_previous c fs ss last f s sections previous lasts h e =
    map-append shown_previous fs (f ∷ [])
    ∙ ap (λ xs. xs ++ shown_previous f ∷ []) previous
    ∙ ap (λ o. previous_frames (shown_frames c fs ss) ++ o ∷ []) (read_last last s.0 f.previous_frame_for_section h e ∙ lasts s.0)
    ∙ sym (previous_one_more (shown_frames c fs ss) (shown_frame c f s))
    ∙ ap previous_frames (sym (shown_put c fs ss f s sections))

pub put_last : {A B C D E F G H I J K : Type 0} (c : Class) (fs : List (ExceptionFrame A B C D E F G H I J K)) (ss : List SectionIndex) (last : List (Option FrameIndex)) (f : ExceptionFrame A B C D E F G H I J K) (s : SectionIndex) (n : ℕ)
    → length ss ≡ length fs → ((section : ℕ) → last_in last section ≡ last_frame section (shown_frames c fs ss)) → s.0 < length last → n ≡ length fs
    → (section : ℕ) → last_in (set last s.0 (Some (record { 0 = n }))) section ≡ last_frame section (shown_frames c (fs ++ f ∷ []) (ss ++ s ∷ []))
put_last c fs ss last f s n sections lasts h e section =
    last_in_set last s.0 section n h
    ∙ ap (λ o. or_new (s.0 == section) n o) (lasts section)
    ∙ ap (λ m. or_new (s.0 == section) m (last_frame section (shown_frames c fs ss))) (e ∙ sym (shown_length c fs ss sections))
    ∙ sym (last_one_more section (shown_frames c fs ss) (shown_frame c f s))
    ∙ ap (last_frame section) (sym (shown_put c fs ss f s sections))

within_more : (m n : ℕ) (ss : List SectionIndex) → m ≤ n → AllByRecursion (λ s. s.0 < m) ss → AllByRecursion (λ s. s.0 < n) ss
within_more m n [] h k = tt
within_more m n (s ∷ ss) h k = (omega (arith, k.0), within_more m n ss h k.1)

pub put_within : (m n : ℕ) (ss : List SectionIndex) (s : SectionIndex) → m ≤ n → s.0 < m → AllByRecursion (λ s. s.0 < m) ss → AllByRecursion (λ s. s.0 < n) (ss ++ s ∷ [])
put_within m n ss s h less k = all_put (λ s. s.0 < n) ss s (within_more m n ss h k) (omega arith)

-- ---- the frames of another, one by one

module _ {A B C D E F G H I J K : Type 0} (c : Class) where
  -- frames that are still to come, with their sections: with them the frames are those wanted
  pub record IsPut (links : FrameLinks A B C D E F G H I J K) (frames : List (ExceptionFrame A B C D E F G H I J K)) (sections : List SectionIndex) (whole : List Frame) : Type 0 where
    pub linked : AreLinked c links
    pub same : length sections ≡ length frames
    pub within : AllByRecursion (λ s. s.0 < vec_len links.last) sections
    pub room : HasFrameRoom links (length frames) (length frames)
    pub wanted : linked_frames c links ++ shown_frames c frames sections ≡ whole

  pub put_some : (links : FrameLinks A B C D E F G H I J K) (f : ExceptionFrame A B C D E F G H I J K) (all fs : List (ExceptionFrame A B C D E F G H I J K)) (ss : List SectionIndex) (i : ℕ) (whole : List Frame) → all ≡ f ∷ fs → IsPut links all (drop i ss) whole → i < length ss
  put_some links f all fs ss i whole e h = omega (arith, h.same, ap length e, length-drop i ss)

  pub put_below : (links : FrameLinks A B C D E F G H I J K) (all : List (ExceptionFrame A B C D E F G H I J K)) (ss : List SectionIndex) (i : ℕ) (d : SectionIndex) (whole : List Frame) → i < length ss → IsPut links all (drop i ss) whole → (get_or ss i d).0 < vec_len links.last
  put_below links all ss i d whole less h = (subst (AllByRecursion (λ s. s.0 < vec_len links.last)) (drop_more ss i d less) h.within).0

  pub put_step : (before after : FrameLinks A B C D E F G H I J K) (f : ExceptionFrame A B C D E F G H I J K) (all fs : List (ExceptionFrame A B C D E F G H I J K)) (ss : List SectionIndex) (i : ℕ) (d : SectionIndex) (whole : List Frame)
      → all ≡ f ∷ fs → IsPut before all (drop i ss) whole → i < length ss
      → AreLinked c after → linked_frames c after ≡ linked_frames c before ++ shown_frame c f (get_or ss i d) ∷ [] → vec_len after.last ≡ vec_len before.last
      → vec_len after.frames ≡ vec_len before.frames + 1 → vec_capacity after.frames ≡ vec_capacity before.frames → vec_len after.sections ≡ vec_len before.sections + 1 → vec_capacity after.sections ≡ vec_capacity before.sections
      → IsPut after fs (drop (i + 1) ss) whole
  put_step before after f all fs ss i d whole e h less linked frames last fl fc sl sc =
      let s = get_or ss i d in
      let step : drop i ss ≡ s ∷ drop (i + 1) ss = drop_more ss i d less in
      let tail = (subst (AllByRecursion (λ s. s.0 < vec_len before.last)) step h.within).1 in
      record {
        linked = linked;
        same = omega (arith, h.same, ap length e, ap length step);
        within = subst (λ n. AllByRecursion (λ s. s.0 < n) (drop (i + 1) ss)) (sym last) tail;
        room = record { frame_room = omega (arith, h.room.frame_room, ap length e, fl, fc); section_room = omega (arith, h.room.section_room, ap length e, sl, sc) };
        wanted =
            ap (λ xs. xs ++ shown_frames c fs (drop (i + 1) ss)) frames
            ∙ append_assoc (linked_frames c before) (shown_frame c f s ∷ []) (shown_frames c fs (drop (i + 1) ss))
            ∙ ap (λ xs. linked_frames c before ++ shown_frames c xs (s ∷ drop (i + 1) ss)) (sym e)
            ∙ ap (λ xs. linked_frames c before ++ shown_frames c all xs) (sym step)
            ∙ h.wanted;
      }

  pub put_end : (links : FrameLinks A B C D E F G H I J K) (all : List (ExceptionFrame A B C D E F G H I J K)) (ss : List SectionIndex) (whole : List Frame) → all ≡ [] → IsPut links all ss whole → linked_frames c links ≡ whole
  put_end links all ss whole e h = sym (append-nil (linked_frames c links)) ∙ ap (λ xs. linked_frames c links ++ shown_frames c xs ss) (sym e) ∙ h.wanted

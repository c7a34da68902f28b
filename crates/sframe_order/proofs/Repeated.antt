-- Sorting the merged contribution again keeps every byte.
use Rattle.std.proofs.Common.{◌≡◌, ℕ, zero, suc, ◌+◌, ◌-◌, ◌*◌, ◌<◌, ◌≤◌, ◌^◌, ◌++◌, ◌&&◌, Bool, true, false, cond, not, eqb, leb, ltb, List, [], ◌∷◌, length, get_or, filter, pos, negsuc, FitsSigned, refl, sym, ap, subst, ◌∙◌, arith, w8, w32}
use Rattle.std.specs.Prelude.{replicate}
use Rattle.std.specs.Int.{cast_signed}
use Rattle.std.specs.List.{All, slice_range, flat_map, take_while}
use Rattle.std.proofs.lemmas.Bool.Decides.{nat_tests}
use Rattle.std.proofs.lemmas.List.{append_assoc, length-append, length-replicate, get_or_past}
use Rattle.std.proofs.lemmas.List.Elements.{All-nil, All-cons, All-head, All-tail, All-same, All-take, All-drop, All-map}
use Rattle.std.proofs.lemmas.List.Sums.{take_while-cons}
use Rattle.sframe_format.specs.declared.header.Header.{Header}
use Rattle.elf_format.specs.declared.index.Span.{Span}
use Rattle.sframe_format.specs.Fields.{header_of, header_bytes}
use Rattle.sframe_format.specs.Contribution.{Contribution, Function, header, contribution_at, is_contribution, is_other_version, contributions, read_ones, functions}
use Rattle.sframe_format.specs.Order.{InOrder}
use Rattle.sframe_format.specs.Merged.{merged, merged_flags, merged_header, used_len, merged_fdes_start, fdes, start_fields, fres_len, fre_count}
use Rattle.sframe_format.specs.Valid.{HasReadableRanges, MergesInOrder, HasRoom, StartsFit}
use Rattle.sframe_format.specs.Sorted.{IsMerged}
use Rattle.sframe_format.proofs.Again.{HeaderFits, header_of-header_bytes}
use Rattle.sframe_format.proofs.Headers.{same_header}
use Rattle.sframe_order.specs.Laws.{AreBytes, used_span}
use Rattle.sframe_order.specs.steps.View.{AreShort}
use Rattle.sframe_order.proofs.Carried.{IsWhole, All-in_order, whole, length_range, length_range-le}
use Rattle.sframe_order.proofs.Fdes.{range-range}
use Rattle.sframe_order.proofs.Flags.{merged_flags_stay}
use Rattle.sframe_order.proofs.Laid.{IsLaid, functions_again}
use Rattle.sframe_order.proofs.Pieces.{used_bytes, length_four, second_part, third_part, last_part, length_fdes, length_fres}
use Rattle.sframe_order.proofs.Reading.{read_ones-kept, other_version-kept}

-- ---- bytes

pub byte_at : (xs : List ℕ) (k : ℕ) → AreBytes xs → get_or xs k 0 < 256
byte_at [] k all = let none : List ℕ = [] in let past : get_or none k 0 ≡ 0 = get_or_past none k 0 (omega arith) in omega arith
byte_at (x ∷ xs) zero all = All-head (λ b. b < 256) x xs all
byte_at (x ∷ xs) (suc k) all = byte_at xs k (All-tail (λ b. b < 256) x xs all)

fits_byte : (n : ℕ) → n < 256 → FitsSigned w8 (cast_signed w8 n)
fits_byte n below = at (ltb n 128) refl
  where
    at : (b : Bool) → ltb n 128 ≡ b → FitsSigned w8 (cond b (pos n) (negsuc (256 - suc n)))
    at true t = record { sfits = grind (arith, nat_tests) }
    at false t = record { sfits = grind (arith, nat_tests) }

taken_more : {X : Type 0} (p : X → Bool) (P : X → Type 0) (x : X) (xs : List X) (b : Bool) → P x → All P xs → All P (cond b (x ∷ xs) [])
taken_more p P x xs true here all = All-cons P x xs here all
taken_more p P x xs false here all = All-nil P

taken_while : {X : Type 0} (p : X → Bool) (P : X → Type 0) (xs : List X) → All P xs → All P (take_while p xs)
taken_while p P [] all = All-nil P
taken_while p P (x ∷ xs) all = All-same P (take_while p (x ∷ xs)) _ (take_while-cons p x xs) (taken_more p P x (take_while p xs) (p x) (All-head P x xs all) (taken_while p P xs (All-tail P x xs all)))

-- what is read from bytes has bytes
read_bytes : (s : List ℕ) (rs : List Span) → AreBytes s → All (λ (c : Contribution). AreBytes c.bytes) (read_ones s rs)
read_bytes s rs all =
    taken_while (λ c. not (is_other_version c)) (λ (c : Contribution). AreBytes c.bytes) (contributions s rs)
    (All-map (λ (c : Contribution). AreBytes c.bytes) (contribution_at s) (filter is_contribution rs) (λ k d below. All-take (λ b. b < 256) _ _ (All-drop (λ b. b < 256) _ s all)))

at_short : (s : List ℕ) (r : Span) → length s < 2 ^ 32 → length (contribution_at s r).bytes < 2 ^ 32
at_short s r small = omega (arith, length_range-le s r.start r.stop)

-- what is read from a short section is short
pub read_short : (s : List ℕ) (rs : List Span) → length s < 2 ^ 32 → AreShort (read_ones s rs)
read_short s rs small =
    taken_while (λ c. not (is_other_version c)) (λ (c : Contribution). length c.bytes < 2 ^ 32) (contributions s rs)
    (All-map (λ (c : Contribution). length c.bytes < 2 ^ 32) (contribution_at s) (filter is_contribution rs) (λ k d below. at_short s (get_or (filter is_contribution rs) k d) small))

-- ---- the header

header_fits : (c : Contribution) (cs : List Contribution) (gs : List Function) → AreBytes c.bytes → used_len c gs < 2 ^ 32 → fre_count (c ∷ cs) < 2 ^ 32 → HeaderFits (merged_header c cs gs)
header_fits c cs gs bytes small fres = record {
  magic = omega arith;
  fp = fits_byte (get_or c.bytes 5 0) (byte_at c.bytes 5 bytes);
  ra = fits_byte (get_or c.bytes 6 0) (byte_at c.bytes 6 bytes);
  fdes = omega arith;
  fres = fres;
  len = omega arith;
  fde_start = omega arith;
  fre_start = omega arith;
}

length_header : (h : Header) → length (header_bytes h) ≡ 28
length_header h = refl

header_read : (h : Header) (a d r : List ℕ) → HeaderFits h → header_of (header_bytes h ++ a ++ d ++ r) ≡ h
header_read h a d r fits =
    ap header_of (append_assoc (header_bytes h ++ a) d r ∙ append_assoc (header_bytes h) a (d ++ r)) ∙ header_of-header_bytes h (a ++ (d ++ r)) fits

-- bytes of a header, auxiliary bytes, FDEs and FREs
again_laid : (x : Contribution) (h : Header) (aux : List ℕ) (flags a : ℕ) (gs : List Function) → x.offset ≡ 0 → x.bytes ≡ header_bytes h ++ aux ++ fdes flags (28 + a) gs ++ flat_map (λ (g : Function). g.fres) gs → HeaderFits h → h.flags ≡ flags → h.aux_len ≡ a → h.num_fdes ≡ length gs → h.fde_start_offset ≡ 0 → h.fre_start_offset ≡ 20 * length gs → length aux ≡ a
    → All IsWhole gs → All (FitsSigned w32) (start_fields flags (28 + a) gs) → fres_len gs < 2 ^ 32 → IsLaid x flags a gs
again_laid x h aux flags a gs offset bytes fits flags_is aux_is count from fres_from len each fit small =
    let is : header x ≡ h = ap header_of bytes ∙ header_read h aux _ _ fits in
    let d : List ℕ = fdes flags (28 + a) gs in
    let r : List ℕ = flat_map (λ (g : Function). g.fres) gs in
    let dl : length d ≡ 20 * length gs = length_fdes flags (28 + a) gs each in
    let rl : length r ≡ fres_len gs = length_fres gs in
    let hl : length (header_bytes h) ≡ 28 = length_header h in
    record {
      offset = offset;
      flags_are = ap (λ (k : Header). k.flags) is ∙ flags_is;
      aux_is = ap (λ (k : Header). k.aux_len) is ∙ aux_is;
      count = ap (λ (k : Header). k.num_fdes) is ∙ count;
      fdes_from = ap (λ (k : Header). k.fde_start_offset) is ∙ from;
      fres_from = ap (λ (k : Header). k.fre_start_offset) is ∙ fres_from;
      fdes_are = ap (λ t. slice_range t (28 + a) (28 + a + 20 * length gs)) bytes ∙ third_part (header_bytes h) aux d r (28 + a) (28 + a + 20 * length gs) (omega arith) (omega arith);
      fres_are = ap (λ t. slice_range t (28 + a + 20 * length gs) (28 + a + 20 * length gs + fres_len gs)) bytes ∙ last_part (header_bytes h) aux d r (28 + a + 20 * length gs) (28 + a + 20 * length gs + fres_len gs) (omega arith) (omega arith);
      len = let four : length (header_bytes h ++ aux ++ d ++ r) ≡ 28 + length aux + length d + length r = length_four (header_bytes h) aux d r in ap length bytes ∙ four ∙ omega arith;
      whole = each;
      fit = fit;
      small = small;
    }

-- ---- the merged section

-- what the used bytes of the merged section contribute
abbrev pub merged_one : List ℕ → Contribution → List Contribution → List Function → Contribution
merged_one s c cs gs = contribution_at (merged s c cs gs) (used_span (used_len c gs))

-- what the law stands on
pub record IsGood (s : List ℕ) (c : Contribution) (cs : List Contribution) (gs : List Function) : Type 0 where
  pub bytes : AreBytes c.bytes
  pub size : length s < 2 ^ 32
  pub room : HasRoom s c cs gs
  pub each : All IsWhole gs
  pub fit : StartsFit c cs gs

aux_len : (s : List ℕ) (c : Contribution) (cs : List Contribution) (gs : List Function) → IsGood s c cs gs → length (slice_range s 28 (merged_fdes_start c)) ≡ (header c).aux_len
aux_len s c cs gs good = length_range s 28 (merged_fdes_start c) (header c).aux_len refl (omega (arith, good.room.used))

abbrev used_part : List ℕ → Contribution → List Contribution → List Function → List ℕ
used_part s c cs gs = header_bytes (merged_header c cs gs) ++ slice_range s 28 (merged_fdes_start c) ++ fdes (merged_flags c cs) (merged_fdes_start c) gs ++ flat_map (λ (g : Function). g.fres) gs

length_used : (s : List ℕ) (c : Contribution) (cs : List Contribution) (gs : List Function) → IsGood s c cs gs → length (used_part s c cs gs) ≡ used_len c gs
length_used s c cs gs good =
    let four : length (used_part s c cs gs) ≡ 28 + length (slice_range s 28 (merged_fdes_start c)) + length (fdes (merged_flags c cs) (merged_fdes_start c) gs) + length (flat_map (λ (g : Function). g.fres) gs) = length_four (header_bytes (merged_header c cs gs)) (slice_range s 28 (merged_fdes_start c)) (fdes (merged_flags c cs) (merged_fdes_start c) gs) (flat_map (λ (g : Function). g.fres) gs) in
    omega (arith, aux_len s c cs gs good, length_fdes (merged_flags c cs) (merged_fdes_start c) gs good.each, length_fres gs)

one_bytes : (s : List ℕ) (c : Contribution) (cs : List Contribution) (gs : List Function) → IsGood s c cs gs → (merged_one s c cs gs).bytes ≡ used_part s c cs gs
one_bytes s c cs gs good = used_bytes (used_part s c cs gs) (replicate (length s - used_len c gs) 0) (used_len c gs) (length_used s c cs gs good)

pub one_fits : (s : List ℕ) (c : Contribution) (cs : List Contribution) (gs : List Function) → IsGood s c cs gs → HeaderFits (merged_header c cs gs)
one_fits s c cs gs good = header_fits c cs gs good.bytes (omega (arith, good.room.used, good.size)) good.room.fres

pub one_header : (s : List ℕ) (c : Contribution) (cs : List Contribution) (gs : List Function) → IsGood s c cs gs → header (merged_one s c cs gs) ≡ merged_header c cs gs
one_header s c cs gs good = ap header_of (one_bytes s c cs gs good) ∙ header_read (merged_header c cs gs) (slice_range s 28 (merged_fdes_start c)) (fdes (merged_flags c cs) (merged_fdes_start c) gs) (flat_map (λ (g : Function). g.fres) gs) (one_fits s c cs gs good)

pub one_laid : (s : List ℕ) (c : Contribution) (cs : List Contribution) (gs : List Function) → IsGood s c cs gs → IsLaid (merged_one s c cs gs) (merged_flags c cs) (header c).aux_len gs
one_laid s c cs gs good =
    again_laid (merged_one s c cs gs) (merged_header c cs gs) (slice_range s 28 (merged_fdes_start c)) (merged_flags c cs) (header c).aux_len gs refl (one_bytes s c cs gs good) (one_fits s c cs gs good) refl refl refl refl refl (aux_len s c cs gs good) good.each good.fit (omega (arith, good.room.used, good.size))

pub length_merged : (s : List ℕ) (c : Contribution) (cs : List Contribution) (gs : List Function) → IsGood s c cs gs → length (merged s c cs gs) ≡ length s
length_merged s c cs gs good =
    let zeros : List ℕ = replicate (length s - used_len c gs) 0 in
    let len : length zeros ≡ length s - used_len c gs = length-replicate {A = ℕ} (length s - used_len c gs) 0 in
    omega (arith, length-append (used_part s c cs gs) zeros, length_used s c cs gs good, good.room.used)

same_section : {h h' : Header} {a a' : List ℕ} {f f' p p' n n' : ℕ} (gs : List Function) (r : List ℕ) → h ≡ h' → a ≡ a' → f ≡ f' → p ≡ p' → n ≡ n' → header_bytes h ++ a ++ fdes f p gs ++ r ++ replicate n 0 ≡ header_bytes h' ++ a' ++ fdes f' p' gs ++ r ++ replicate n' 0
same_section gs r e1 e2 e3 e4 e5 = cc

pub flags_again : (s : List ℕ) (c : Contribution) (cs : List Contribution) (gs : List Function) → IsGood s c cs gs → merged_flags (merged_one s c cs gs) [] ≡ merged_flags c cs
flags_again s c cs gs good =
    merged_flags_stay c cs (merged_one s c cs gs) (byte_at c.bytes 3 good.bytes) (ap (λ (h : Header). h.flags) (one_header s c cs gs good))

header_again : (s : List ℕ) (c : Contribution) (cs : List Contribution) (gs : List Function) → IsGood s c cs gs → merged_header (merged_one s c cs gs) [] gs ≡ merged_header c cs gs
header_again s c cs gs good =
    let is : header (merged_one s c cs gs) ≡ merged_header c cs gs = one_header s c cs gs good in
    let fres : (header (merged_one s c cs gs)).num_fres ≡ fre_count (c ∷ cs) = ap (λ (h : Header). h.num_fres) is in
    same_header refl refl (flags_again s c cs gs good) (ap (λ (h : Header). h.abi_arch) is) (ap (λ (h : Header). h.cfa_fixed_fp_offset) is) (ap (λ (h : Header). h.cfa_fixed_ra_offset) is) (ap (λ (h : Header). h.aux_len) is) refl (omega (arith, fres)) refl refl refl

pub place_again : (s : List ℕ) (c : Contribution) (cs : List Contribution) (gs : List Function) → IsGood s c cs gs → merged_fdes_start (merged_one s c cs gs) ≡ merged_fdes_start c
place_again s c cs gs good = ap (λ (h : Header). 28 + h.aux_len) (one_header s c cs gs good)

pub used_again : (s : List ℕ) (c : Contribution) (cs : List Contribution) (gs : List Function) → IsGood s c cs gs → used_len (merged_one s c cs gs) gs ≡ used_len c gs
used_again s c cs gs good = ap (λ n. n + 20 * length gs + fres_len gs) (place_again s c cs gs good)

aux_again : (s : List ℕ) (c : Contribution) (cs : List Contribution) (gs : List Function) → IsGood s c cs gs → slice_range (merged s c cs gs) 28 (merged_fdes_start c) ≡ slice_range s 28 (merged_fdes_start c)
aux_again s c cs gs good =
    sym (range-range (merged s c cs gs) 0 (used_len c gs) 28 (merged_fdes_start c) 28 (merged_fdes_start c) (omega arith) (omega arith) (omega arith) (omega arith))
    ∙ ap (λ t. slice_range t 28 (merged_fdes_start c)) (one_bytes s c cs gs good)
    ∙ second_part (header_bytes (merged_header c cs gs)) (slice_range s 28 (merged_fdes_start c)) _ _ 28 (merged_fdes_start c) refl (omega (arith, aux_len s c cs gs good))

pub bytes_again : (s : List ℕ) (c : Contribution) (cs : List Contribution) (gs : List Function) → IsGood s c cs gs → merged (merged s c cs gs) (merged_one s c cs gs) [] gs ≡ merged s c cs gs
bytes_again s c cs gs good =
    same_section gs _ (header_again s c cs gs good) (ap (slice_range (merged s c cs gs) 28) (place_again s c cs gs good) ∙ aux_again s c cs gs good) (flags_again s c cs gs good) (place_again s c cs gs good) (omega (arith, length_merged s c cs gs good, used_again s c cs gs good))

-- ---- sorting it again

long : (n : ℕ) → 28 ≤ n → leb 28 (n - 0) ≡ true
long n h = grind (arith, nat_tests)

version_is : (x : Contribution) (h : Header) → header x ≡ h → h.version ≡ 2 → is_other_version x ≡ false
version_is x h is two = ap (λ (k : Header). eqb k.magic 0xdee2 && not (eqb k.version 2)) is ∙ ap (λ v. eqb h.magic 0xdee2 && not (eqb v 2)) two ∙ none (eqb h.magic 0xdee2)
  where
    none : (b : Bool) → b && false ≡ false
    none true = refl
    none false = refl

pub same_version : (s : List ℕ) (c : Contribution) (cs : List Contribution) (gs : List Function) → IsGood s c cs gs → is_other_version (merged_one s c cs gs) ≡ false
same_version s c cs gs good = version_is (merged_one s c cs gs) (merged_header c cs gs) (one_header s c cs gs good) refl

pub read_again : (s : List ℕ) (c : Contribution) (cs : List Contribution) (gs : List Function) → IsGood s c cs gs → read_ones (merged s c cs gs) (used_span (used_len c gs) ∷ []) ≡ merged_one s c cs gs ∷ []
read_again s c cs gs good = read_ones-kept (merged s c cs gs) (used_span (used_len c gs)) [] (long (used_len c gs) (omega arith)) (same_version s c cs gs good)

pub functions_of_one : (s : List ℕ) (c : Contribution) (cs : List Contribution) (gs : List Function) → IsGood s c cs gs → functions (merged_one s c cs gs ∷ []) ≡ gs
functions_of_one s c cs gs good = functions_again (merged_one s c cs gs) (merged_flags c cs) (header c).aux_len gs (one_laid s c cs gs good)

pub merge_again : (s : List ℕ) (c : Contribution) (cs : List Contribution) (gs : List Function) (fs : List Function) → IsGood s c cs gs → InOrder fs gs → 0 < length gs → MergesInOrder (read_ones (merged s c cs gs) (used_span (used_len c gs) ∷ [])) (merged_one s c cs gs) [] gs
merge_again s c cs gs fs good order some = record {
  read_is = read_again s c cs gs good;
  some = some;
  order = subst (λ hs. InOrder hs gs) (sym (ap functions (read_again s c cs gs good) ∙ functions_of_one s c cs gs good)) (record { ascending = order.ascending; kept = λ r. refl });
}

pub again : (s : List ℕ) (c : Contribution) (cs : List Contribution) (gs : List Function) (fs : List Function) → IsGood s c cs gs → InOrder fs gs → 0 < length gs → IsMerged (merged s c cs gs) (used_span (used_len c gs) ∷ []) (merged s c cs gs) (used_len c gs)
again s c cs gs fs good order some = record {
  c = merged_one s c cs gs;
  cs = [];
  gs = gs;
  one_version = other_version-kept (merged s c cs gs) (used_span (used_len c gs)) [] (long (used_len c gs) (omega arith)) (same_version s c cs gs good);
  merge = merge_again s c cs gs fs good order some;
  bytes_are = sym (bytes_again s c cs gs good);
  used_is = sym (used_again s c cs gs good);
}

-- what is valid and has functions is good
pub good_from : (s : List ℕ) (rs : List Span) (c : Contribution) (cs : List Contribution) (gs : List Function) → AreBytes s → HasReadableRanges s rs → MergesInOrder (read_ones s rs) c cs gs → HasRoom s c cs gs → StartsFit c cs gs → IsGood s c cs gs
good_from s rs c cs gs bytes readable merge room fit = record {
  bytes = All-head (λ (x : Contribution). AreBytes x.bytes) c cs (subst (All (λ (x : Contribution). AreBytes x.bytes)) merge.read_is (read_bytes s rs bytes));
  size = readable.size;
  room = room;
  each = All-in_order IsWhole (functions (read_ones s rs)) gs merge.order (whole (read_ones s rs) readable.contributions);
  fit = fit;
}

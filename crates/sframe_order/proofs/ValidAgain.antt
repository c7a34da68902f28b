-- The merged section is valid, so that sorting it again is not refused.
use Rattle.std.proofs.Common.{◌≡◌, ℕ, ◌+◌, ◌<◌, ◌≤◌, List, [], ◌∷◌, length, get_or, pos, FitsSigned, sym, ap, subst, ◌∙◌, arith, w32}
use Rattle.std.specs.List.{All}
use Rattle.std.proofs.lemmas.List.Elements.{All-nil, All-cons}
use Rattle.std.proofs.lemmas.List.Sums.{sum_by-take-le, sum_by_more}
use Rattle.sframe_format.specs.declared.header.Header.{Header}
use Rattle.elf_format.specs.declared.index.Span.{Span}
use Rattle.sframe_format.specs.Contribution.{Contribution, Function, contribution_at, header, read_ones, functions_of, functions}
use Rattle.sframe_format.specs.Order.{InOrder}
use Rattle.sframe_format.specs.Merged.{merged, merged_flags, merged_header, merged_starts, used_len, merged_fdes_start, start_fields, fres_len, fre_count}
use Rattle.sframe_format.specs.Valid.{IsWellFormedContribution, AreWellFormedContributions, IsSortable, MergesInOrder, HasRoom, StartsFit}
use Rattle.std.proofs.lemmas.List.{append-nil}
use Rattle.elf_format.specs.Flags.{has_flag}
use Rattle.elf_format.specs.Span.{IsInside}
use Rattle.sframe_format.specs.Sorted.{IsMerged}
use Rattle.sframe_order.proofs.Again.{before}
use Rattle.sframe_order.proofs.Answering.{same_merge}
use Rattle.sframe_order.proofs.Laid.{IsLaid, fres_place, offset_at, functions_again}
use Rattle.sframe_order.proofs.Flags.{merged_flags_sorted}
use Rattle.sframe_order.proofs.OneResult.{no_fault}
use Rattle.sframe_order.proofs.Repeated.{IsGood, byte_at, merged_one, one_header, one_laid, length_merged, flags_again, place_again, used_again, read_again, merge_again, again, good_from}
use Rattle.sframe_order.specs.Laws.{AreBytes, used_span, IsSortedContribution}

laid_sound : (x : Contribution) (flags a : ℕ) (gs : List Function) (g : Function) → IsLaid x flags a gs → (header x).magic ≡ 0xdee2 → IsWellFormedContribution x
laid_sound x flags a gs g laid magic = record {
  magic = magic;
  fdes = omega (arith, laid.aux_is, laid.fdes_from, laid.count, laid.len);
  fres = omega (arith, fres_place x flags a gs laid, laid.len);
  offsets = λ d b.
      let below : d < length gs = omega (arith, laid.count) in
      let more : before gs (d + 1) ≡ before gs d + length (get_or gs d g).fres = sum_by_more (λ (g : Function). length g.fres) gs d g below in
      let all : before gs (d + 1) ≤ fres_len gs = sum_by-take-le (λ (g : Function). length g.fres) gs (d + 1) in
      omega (arith, offset_at x flags a gs d g laid below, fres_place x flags a gs laid, laid.len, (laid.whole d g below).fres);
}

room_again : (s : List ℕ) (c : Contribution) (cs : List Contribution) (gs : List Function) → IsGood s c cs gs → HasRoom (merged s c cs gs) (merged_one s c cs gs) [] gs
room_again s c cs gs good =
    let fres : (header (merged_one s c cs gs)).num_fres ≡ fre_count (c ∷ cs) = ap (λ (h : Header). h.num_fres) (one_header s c cs gs good) in
    record {
      used = omega (arith, used_again s c cs gs good, length_merged s c cs gs good, good.room.used);
      fres = omega (arith, fres, good.room.fres);
    }

starts_again : (s : List ℕ) (c : Contribution) (cs : List Contribution) (gs : List Function) → IsGood s c cs gs → merged_starts (merged_one s c cs gs) [] gs ≡ merged_starts c cs gs
starts_again s c cs gs good = ap (λ f. start_fields f (merged_fdes_start (merged_one s c cs gs)) gs) (flags_again s c cs gs good) ∙ ap (λ p. start_fields (merged_flags c cs) p gs) (place_again s c cs gs good)

pub valid_again : (s : List ℕ) (c : Contribution) (cs : List Contribution) (gs : List Function) (fs : List Function) (g : Function) → IsGood s c cs gs → InOrder fs gs → 0 < length gs → IsSortable (merged s c cs gs) (used_span (used_len c gs) ∷ [])
valid_again s c cs gs fs g good order some =
    let t : List ℕ = merged s c cs gs in
    let x : Contribution = merged_one s c cs gs in
    let r : Span = used_span (used_len c gs) in
    let len : length t ≡ length s = length_merged s c cs gs good in
    let sound : IsWellFormedContribution x = laid_sound x (merged_flags c cs) (header c).aux_len gs g (one_laid s c cs gs good) (ap (λ (h : Header). h.magic) (one_header s c cs gs good)) in
    let merge : MergesInOrder (read_ones t (r ∷ [])) x [] gs = merge_again s c cs gs fs good order some in
    record {
      readable = record {
        ranges = All-cons (IsInside (length t)) r [] (record { ordered = omega arith; below = omega (arith, good.room.used) }) (All-nil (IsInside (length t)));
        size = omega (arith, good.size);
        contributions = subst AreWellFormedContributions (sym (read_again s c cs gs good)) (All-cons IsWellFormedContribution x [] sound (All-nil IsWellFormedContribution));
      };
      room = λ one c' cs' gs' m. same_merge (HasRoom t) (read_ones t (r ∷ [])) x c' [] cs' gs gs' merge m (room_again s c cs gs good);
      starts = λ one c' cs' gs' m. same_merge StartsFit (read_ones t (r ∷ [])) x c' [] cs' gs gs' merge m (subst (All (FitsSigned w32)) (sym (starts_again s c cs gs good)) good.fit);
    }

no_function : Function
no_function = record { start = pos 0; size = []; info = []; fres = [] }

good_of : (s t : List ℕ) (rs : List Span) (used : ℕ) → AreBytes s → IsSortable s rs → (h : IsMerged s rs t used) → IsGood s h.c h.cs h.gs
good_of s t rs used bytes valid h = good_from s rs h.c h.cs h.gs bytes valid.readable h.merge (valid.room h.one_version h.c h.cs h.gs h.merge) (valid.starts h.one_version h.c h.cs h.gs h.merge)

pub stays_sorted : (s t : List ℕ) (rs : List Span) (used : ℕ) → AreBytes s → IsSortable s rs → IsMerged s rs t used → IsMerged t (used_span used ∷ []) t used
stays_sorted s t rs used bytes valid h =
    let same : IsMerged (merged s h.c h.cs h.gs) (used_span (used_len h.c h.gs) ∷ []) (merged s h.c h.cs h.gs) (used_len h.c h.gs) = again s h.c h.cs h.gs (functions (read_ones s rs)) (good_of s t rs used bytes valid h) h.merge.order h.merge.some in
    subst (λ n. IsMerged t (used_span n ∷ []) t n) (sym h.used_is) (subst (λ b. IsMerged b (used_span (used_len h.c h.gs) ∷ []) b (used_len h.c h.gs)) (sym h.bytes_are) same)

pub stays_valid : (s t : List ℕ) (rs : List Span) (used : ℕ) → AreBytes s → IsSortable s rs → IsMerged s rs t used → IsSortable t (used_span used ∷ [])
stays_valid s t rs used bytes valid h =
    let same : IsSortable (merged s h.c h.cs h.gs) (used_span (used_len h.c h.gs) ∷ []) = valid_again s h.c h.cs h.gs (functions (read_ones s rs)) no_function (good_of s t rs used bytes valid h) h.merge.order h.merge.some in
    subst (λ n. IsSortable t (used_span n ∷ [])) (sym h.used_is) (subst (λ b. IsSortable b (used_span (used_len h.c h.gs) ∷ [])) (sym h.bytes_are) same)

sorted_one : (s : List ℕ) (c : Contribution) (cs : List Contribution) (fs gs : List Function) → IsGood s c cs gs → InOrder fs gs → IsSortedContribution fs (merged_one s c cs gs)
sorted_one s c cs fs gs good order =
    let x : Contribution = merged_one s c cs gs in
    let laid : IsLaid x (merged_flags c cs) (header c).aux_len gs = one_laid s c cs gs good in
    let is : header x ≡ merged_header c cs gs = one_header s c cs gs good in
    let flags : (header x).flags ≡ merged_flags c cs = laid.flags_are in
    record {
      long = omega (arith, laid.len);
      version = ap (λ (h : Header). h.version) is;
      flag = ap (λ f. has_flag f 1) flags ∙ merged_flags_sorted c cs (byte_at c.bytes 3 good.bytes);
      fault = no_fault x (laid_sound x (merged_flags c cs) (header c).aux_len gs no_function laid (ap (λ (h : Header). h.magic) is));
      order = subst (InOrder fs) (sym (sym (append-nil (functions_of x)) ∙ functions_again x (merged_flags c cs) (header c).aux_len gs laid)) order;
    }

-- the used bytes of a sorted section have its functions in order
pub read_in_order : (s t : List ℕ) (rs : List Span) (used : ℕ) → AreBytes s → IsSortable s rs → IsMerged s rs t used → (used ≤ length t) × IsSortedContribution (functions (read_ones s rs)) (contribution_at t (used_span used))
read_in_order s t rs used bytes valid h =
    let good : IsGood s h.c h.cs h.gs = good_of s t rs used bytes valid h in
    let m : List ℕ = merged s h.c h.cs h.gs in
    let n : ℕ = used_len h.c h.gs in
    let fs : List Function = functions (read_ones s rs) in
    let within : n ≤ length m = omega (arith, length_merged s h.c h.cs h.gs good, good.room.used) in
    let one : IsSortedContribution fs (contribution_at m (used_span n)) = sorted_one s h.c h.cs fs h.gs good h.merge.order in
    subst (λ k. (k ≤ length t) × IsSortedContribution fs (contribution_at t (used_span k))) (sym h.used_is) (subst (λ b. (n ≤ length b) × IsSortedContribution fs (contribution_at b (used_span n))) (sym h.bytes_are) (within, one))

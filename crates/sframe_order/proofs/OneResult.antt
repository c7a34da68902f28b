-- A section and its ranges are sorted in one way, and what is valid has no cause of a refusal.
use Rattle.std.proofs.Common.{◌≡◌, ℕ, ℤ, ◌++◌, map, ◌+◌, ◌-◌, ◌<◌, ◌≤◌, Bool, true, false, cond, not, eqb, ltb, List, [], ◌∷◌, length, Option, Some, None, pos, negsuc, FitsSigned, refl, sym, ap, ◌∙◌, arith, w32}
use Rattle.std.specs.List.{All, position, position_or_len, range_with_len}
use Rattle.std.proofs.lemmas.Bool.Decides.{nat_tests}
use Rattle.std.proofs.lemmas.Bool.{false≢true}
use Rattle.std.proofs.lemmas.List.Elements.{All-nil, All-cons, All-head, All-tail, All-weaker}
use Rattle.std.proofs.lemmas.List.{length-append}
use Rattle.std.proofs.lemmas.List.FromFn.{length-map-range_with_len}
use Rattle.std.proofs.lemmas.List.Sums.{passes_at_first}
use Rattle.elf_format.specs.declared.index.Span.{Span}
use Rattle.sframe_format.specs.declared.fault.SframeOutcome.{SframeOutcome}
use Rattle.sframe_format.specs.declared.fault.SframeOutcome.TheVariants.{Sorted, NoDescriptors, OtherVersion}
use Rattle.sframe_format.specs.declared.fault.SframeFault.{SframeFault}
use Rattle.sframe_format.specs.declared.fault.SframeFault.TheVariants as faults
use Rattle.sframe_format.specs.declared.fault.LargeKind.TheVariants as kinds
use Rattle.sframe_format.specs.Contribution.{Contribution, header, fres_start, row_offset, read_ones, other_version, function_at, functions_of, functions}
use Rattle.sframe_format.specs.Merged.{merged, used_len, fre_count, merged_starts}
use Rattle.sframe_format.specs.Valid.{IsWellFormedContribution, AreWellFormedContributions, IsSortable, IsSortCause, contribution_fault, first_fault, or_else, offset_fault, fits_i32}
use Rattle.elf_format.specs.Span.{IsInside, is_inside}
use Rattle.sframe_format.specs.Sorted.{SortOf, IsMerged}
use Rattle.sframe_order.specs.Laws.{HasNoDescriptors}
use Rattle.sframe_order.proofs.Answering.{same_merge, no_merge}
use Rattle.sframe_order.proofs.FirstOf.{none_below, passes_below}

-- ---- one result

abbrev IsSame : List ℕ → List ℕ → SframeOutcome → SframeOutcome → Type 0
IsSame t t' o o' = (t ≡ t') × (o ≡ o')

same_sorted : (s : List ℕ) (rs : List Span) (t t' : List ℕ) (used used' : ℕ) → IsMerged s rs t used → IsMerged s rs t' used' → IsSame t t' (Sorted used) (Sorted used')
same_sorted s rs t t' used used' a b =
    let bytes : merged s a.c a.cs a.gs ≡ merged s b.c b.cs b.gs = same_merge (λ c cs gs. merged s a.c a.cs a.gs ≡ merged s c cs gs) (read_ones s rs) a.c b.c a.cs b.cs a.gs b.gs a.merge b.merge refl in
    let len : used_len a.c a.gs ≡ used_len b.c b.gs = same_merge (λ c cs gs. used_len a.c a.gs ≡ used_len c gs) (read_ones s rs) a.c b.c a.cs b.cs a.gs b.gs a.merge b.merge refl in
    (a.bytes_are ∙ bytes ∙ sym b.bytes_are, ap (λ n. Sorted n) (a.used_is ∙ len ∙ sym b.used_is))

clash : {X : Type 0} (o : Option ℕ) (v : ℕ) → o ≡ None → o ≡ Some v → X
clash o v p q = cc

pub one_result : (s : List ℕ) (rs : List Span) (t t' : List ℕ) (o o' : SframeOutcome) → SortOf s rs t o → SortOf s rs t' o' → IsSame t t' o o'
one_result s rs t t' (Sorted used) (Sorted used') a b = same_sorted s rs t t' used used' a b
one_result s rs t t' (Sorted used) NoDescriptors a b = absurd (no_merge (read_ones s rs) a.c a.cs a.gs b.2 a.merge)
one_result s rs t t' (Sorted used) (OtherVersion v) a b = clash _ v a.one_version b.1
one_result s rs t t' NoDescriptors (Sorted used) a b = absurd (no_merge (read_ones s rs) b.c b.cs b.gs a.2 b.merge)
one_result s rs t t' NoDescriptors NoDescriptors a b = (a.0 ∙ sym b.0, refl)
one_result s rs t t' NoDescriptors (OtherVersion v) a b = clash _ v a.1 b.1
one_result s rs t t' (OtherVersion v) (Sorted used) a b = clash _ v b.one_version a.1
one_result s rs t t' (OtherVersion v) NoDescriptors a b = clash _ v b.1 a.1
one_result s rs t t' (OtherVersion v) (OtherVersion v') a b = let e : Some v ≡ Some v' = sym a.1 ∙ b.1 in let n : v ≡ v' = cc in (a.0 ∙ sym b.0, ap (λ n. OtherVersion n) n)

-- ---- what is valid is not refused

place_of : (n m k : ℕ) (b : Bool) → ltb n m ≡ b → cond b (Some n) None ≡ Some k → (n ≡ k) × (n < m)
place_of n m k true t e = (cc, grind (arith, nat_tests))
place_of n m k false t e = cc

-- no member passes, so none is found
not_found : {X : Type 0} (p : X → Bool) (xs : List X) (k : ℕ) (d : X) → All (λ x. p x ≡ false) xs → position p xs ≡ Some k → ⊥
not_found p xs k d none e =
    let at : (position_or_len p xs ≡ k) × (position_or_len p xs < length xs) = place_of (position_or_len p xs) (length xs) k _ refl e in
    false≢true (sym (none (position_or_len p xs) d at.1) ∙ passes_at_first p xs d at.1)

pub inside_passes : (n : ℕ) (r : Span) → IsInside n r → not (is_inside n r) ≡ false
inside_passes n r h = grind (arith, nat_tests, h.ordered, h.below)

none_of : (b1 b2 b3 : Bool) (x y z o : Option SframeFault) → b1 ≡ false → b2 ≡ false → b3 ≡ false → o ≡ None → cond b1 x (cond b2 y (cond b3 z o)) ≡ None
none_of true b2 b3 x y z o p q r e = cc
none_of false true b3 x y z o p q r e = cc
none_of false false true x y z o p q r e = cc
none_of false false false x y z o p q r e = e

is_magic : (m : ℕ) → m ≡ 0xdee2 → not (eqb m 0xdee2) ≡ false
is_magic m e = grind (arith, nat_tests)

not_below : (m n : ℕ) → n ≤ m → ltb m n ≡ false
not_below m n h = grind (arith, nat_tests)

pub no_fault : (c : Contribution) → IsWellFormedContribution c → contribution_fault c ≡ None
no_fault c sound =
    none_of _ _ _ _ _ _ _ (is_magic (header c).magic sound.magic) (not_below _ _ sound.fdes) (not_below _ _ sound.fres)
    (ap (offset_fault c) (sym (none_below (λ d. not (ltb (row_offset c d) (length c.bytes - fres_start c))) (header c).num_fdes (λ k b. passes_below _ _ (sound.offsets k b)))))

pub no_first_fault : (cs : List Contribution) → AreWellFormedContributions cs → first_fault cs ≡ None
no_first_fault [] sound = refl
no_first_fault (c ∷ cs) sound = ap (λ o. or_else o (first_fault cs)) (no_fault c (All-head IsWellFormedContribution c cs sound)) ∙ no_first_fault cs (All-tail IsWellFormedContribution c cs sound)

fits_passes : (z : ℤ) → FitsSigned w32 z → not (fits_i32 z) ≡ false
fits_passes (pos n) f = grind (arith, nat_tests, f.sfits)
fits_passes (negsuc n) f = grind (arith, nat_tests, f.sfits)

no_far : (zs : List ℤ) (k : ℕ) → All (FitsSigned w32) zs → position (λ z. not (fits_i32 z)) zs ≡ Some k → ⊥
no_far zs k all e = not_found (λ z. not (fits_i32 z)) zs k (pos 0) (All-weaker (FitsSigned w32) (λ z. not (fits_i32 z) ≡ false) fits_passes zs all) e

no_span : Span
no_span = record { start = 0; stop = 0 }

found_no : {X : Type 0} (o : Option SframeFault) (e : SframeFault) → o ≡ None → o ≡ Some e → X
found_no o e p q = cc

-- a valid section is refused for out of memory alone
pub only_memory : (s : List ℕ) (rs : List Span) (e : SframeFault) → IsSortable s rs → IsSortCause s rs e → e ≡ faults.NoMemory
only_memory s rs (faults.BadRange k) valid h = absurd (not_found (λ r. not (is_inside (length s) r)) rs k no_span (All-weaker (IsInside (length s)) (λ r. not (is_inside (length s) r) ≡ false) (inside_passes (length s)) rs valid.readable.ranges) h)
only_memory s rs (faults.TooLarge kinds.Section needed limit) valid (inside, n, l, beyond) = absurd (omega (arith, valid.readable.size))
only_memory s rs (faults.BadMagic value offset) valid (inside, size, fault) = found_no _ _ (no_first_fault (read_ones s rs) valid.readable.contributions) fault
only_memory s rs (faults.Truncated kind offset) valid (inside, size, fault) = found_no _ _ (no_first_fault (read_ones s rs) valid.readable.contributions) fault
only_memory s rs (faults.TooLarge kinds.Merged needed limit) valid (readable, one, h) = absurd (omega (arith, (valid.room one h.c h.cs h.gs h.merge).used, h.needed_is, h.limit_is, h.beyond))
only_memory s rs (faults.TooLarge kinds.Rows needed limit) valid (readable, one, h) = absurd (omega (arith, (valid.room one h.c h.cs h.gs h.merge).fres, h.needed_is, ap fre_count h.merge.read_is, h.limit_is, h.beyond))
only_memory s rs (faults.AddressRange index value) valid (readable, one, h) = absurd (no_far (merged_starts h.c h.cs h.gs) index (valid.starts one h.c h.cs h.gs h.merge) h.first.0)
only_memory s rs faults.NoMemory valid h = refl

-- ---- outcomes

abbrev HasNone : Contribution → Type 0
HasNone c = (header c).num_fdes ≡ 0

length_functions : (c : Contribution) (cs : List Contribution) → length (functions (c ∷ cs)) ≡ (header c).num_fdes + length (functions cs)
length_functions c cs = length-append (functions_of c) (functions cs) ∙ ap (λ n. n + length (functions cs)) (length-map-range_with_len (function_at c) 0 (header c).num_fdes)

none_left : (cs : List Contribution) → length (functions cs) ≡ 0 → All HasNone cs
none_left [] e = All-nil HasNone
none_left (c ∷ cs) e = All-cons HasNone c cs (omega (arith, length_functions c cs)) (none_left cs (omega (arith, length_functions c cs)))

no_functions : (cs : List Contribution) → All HasNone cs → functions cs ≡ []
no_functions [] none = refl
no_functions (c ∷ cs) none = ap (λ n. map (function_at c) (range_with_len 0 n) ++ functions cs) (All-head HasNone c cs none) ∙ no_functions cs (All-tail HasNone c cs none)

pub outcome_other : (s : List ℕ) (rs : List Span) (t : List ℕ) (o : SframeOutcome) (v : ℕ) → SortOf s rs t o → (o ≡ OtherVersion v → other_version s rs ≡ Some v) × (other_version s rs ≡ Some v → o ≡ OtherVersion v)
outcome_other s rs t (Sorted used) v a = (λ e. cc, λ e. clash _ v a.one_version e)
outcome_other s rs t NoDescriptors v a = (λ e. cc, λ e. clash _ v a.1 e)
outcome_other s rs t (OtherVersion w) v a = (λ e. let n : w ≡ v = cc in a.1 ∙ ap Some n, λ e. let both : Some w ≡ Some v = sym a.1 ∙ e in let n : w ≡ v = cc in ap (λ n. OtherVersion n) n)

pub outcome_none : (s : List ℕ) (rs : List Span) (t : List ℕ) (o : SframeOutcome) → SortOf s rs t o → o ≡ NoDescriptors → HasNoDescriptors s rs
outcome_none s rs t (Sorted used) a e = cc
outcome_none s rs t NoDescriptors a e = (a.1, none_left (read_ones s rs) (ap length a.2))
outcome_none s rs t (OtherVersion v) a e = cc

pub none_outcome : (s : List ℕ) (rs : List Span) (t : List ℕ) (o : SframeOutcome) → SortOf s rs t o → HasNoDescriptors s rs → o ≡ NoDescriptors
none_outcome s rs t (Sorted used) a (one, none) = absurd (no_merge (read_ones s rs) a.c a.cs a.gs (no_functions (read_ones s rs) none) a.merge)
none_outcome s rs t NoDescriptors a h = refl
none_outcome s rs t (OtherVersion v) a (one, none) = clash _ v one a.1

-- A section and ranges have one cause of a refusal.
use Rattle.std.proofs.Common.{◌≡◌, ◌≢◌, ℕ, ℤ, ◌-◌, ◌<◌, ◌≤◌, ◌^◌, Bool, true, false, cond, not, ltb, List, [], ◌∷◌, length, Option, Some, None, refl, sym, ap, subst, ◌∙◌, arith}
use Rattle.std.specs.List.{All, position, position_or_len, slice_get}
use Rattle.std.specs.Option.{option_map}
use Rattle.std.proofs.lemmas.Bool.Decides.{nat_tests}
use Rattle.std.proofs.lemmas.Bool.{false≢true}
use Rattle.std.proofs.lemmas.List.Elements.{All-weaker}
use Rattle.std.proofs.lemmas.List.Sums.{passes_at_first}
use Rattle.elf_format.specs.declared.index.Span.{Span}
use Rattle.sframe_format.specs.declared.fault.SframeFault.{SframeFault}
use Rattle.sframe_format.specs.declared.fault.SframeFault.TheVariants as faults
use Rattle.sframe_format.specs.declared.fault.LargeKind.TheVariants as kinds
use Rattle.sframe_format.specs.Contribution.{Contribution, Function, read_ones, functions}
use Rattle.sframe_format.specs.Merged.{used_len, fre_count, merged_starts}
use Rattle.sframe_format.specs.Order.{InOrder}
use Rattle.sframe_format.specs.Valid.{HasReadableRanges, MergesInOrder, IsSortCause, first_fault, or_else, fits_i32}
use Rattle.elf_format.specs.Span.{IsInside, AreInside, is_inside}
use Rattle.sframe_order.proofs.OneOrder.{InOrder-unique}
use Rattle.sframe_order.proofs.OneResult.{inside_passes, no_first_fault}
use Rattle.sframe_order.proofs.Ordered.{order, order_is}

-- ---- the cause, computed

range_cause : ℕ → List Span → Option SframeFault
range_cause n rs = option_map (λ k. faults.BadRange k) (position (λ r. not (is_inside n r)) rs)

size_cause : ℕ → Option SframeFault
size_cause n = cond (ltb (2 ^ 32 - 1) n) (Some (faults.TooLarge kinds.Section n (2 ^ 32 - 1))) None

far_from : List ℤ → Option ℕ → Option SframeFault
far_from starts None = None
far_from starts (Some k) = option_map (λ z. faults.AddressRange k z) (slice_get starts k)

merge_with : List ℕ → Contribution → List Contribution → List Function → Option SframeFault
merge_with s c cs gs =
    cond (ltb (length s) (used_len c gs)) (Some (faults.TooLarge kinds.Merged (used_len c gs) (length s)))
    (cond (ltb (2 ^ 32 - 1) (fre_count (c ∷ cs))) (Some (faults.TooLarge kinds.Rows (fre_count (c ∷ cs)) (2 ^ 32 - 1)))
    (far_from (merged_starts c cs gs) (position (λ z. not (fits_i32 z)) (merged_starts c cs gs))))

merge_cause : List ℕ → List Contribution → Option SframeFault
merge_cause s [] = None
merge_cause s (c ∷ cs) = merge_with s c cs (order (functions (c ∷ cs)))

first_cause : List ℕ → List Span → Option SframeFault
first_cause s rs = or_else (range_cause (length s) rs) (or_else (size_cause (length s)) (or_else (first_fault (read_ones s rs)) (merge_cause s (read_ones s rs))))

-- ---- each cause is the computed one

none_at : {X : Type 0} (p : X → Bool) (xs : List X) (d : X) (b : Bool) → All (λ x. p x ≡ false) xs → ltb (position_or_len p xs) (length xs) ≡ b → cond b (Some (position_or_len p xs)) None ≡ None
none_at p xs d true none t =
    let below : position_or_len p xs < length xs = grind (arith, nat_tests) in
    absurd (false≢true (sym (none (position_or_len p xs) d below) ∙ passes_at_first p xs d below))
none_at p xs d false none t = refl

no_span : Span
no_span = record { start = 0; stop = 0 }

inside_none : (n : ℕ) (rs : List Span) → AreInside n rs → range_cause n rs ≡ None
unfolding range_cause
inside_none n rs inside =
    ap (option_map (λ k. faults.BadRange k)) (none_at (λ r. not (is_inside n r)) rs no_span _ (All-weaker (IsInside n) (λ r. not (is_inside n r) ≡ false) (inside_passes n) rs inside) refl)

small_test : (n : ℕ) → n < 2 ^ 32 → ltb (2 ^ 32 - 1) n ≡ false
small_test n h = grind (arith, nat_tests)

test_below : (m n : ℕ) → m < n → ltb m n ≡ true
test_below m n h = grind (arith, nat_tests)

test_from : (m n : ℕ) → n ≤ m → ltb m n ≡ false
test_from m n h = grind (arith, nat_tests)

small_none : (n : ℕ) → n < 2 ^ 32 → size_cause n ≡ None
unfolding size_cause
small_none n h = ap (λ b. cond b (Some (faults.TooLarge kinds.Section n (2 ^ 32 - 1))) None) (small_test n h)

past : (o p : Option SframeFault) → o ≡ None → or_else o p ≡ p
past o p e = ap (λ x. or_else x p) e

here : (o p : Option SframeFault) (f : SframeFault) → o ≡ Some f → or_else o p ≡ Some f
here o p f e = ap (λ x. or_else x p) e

section_told : (n needed limit : ℕ) → needed ≡ n → limit ≡ 2 ^ 32 - 1 → limit < needed → size_cause n ≡ Some (faults.TooLarge kinds.Section needed limit)
unfolding size_cause
section_told n needed limit p q h =
    let t : ltb (2 ^ 32 - 1) n ≡ true = test_below (2 ^ 32 - 1) n (omega (arith, q)) in
    ap (λ b. cond b (Some (faults.TooLarge kinds.Section n (2 ^ 32 - 1))) None) t ∙ ap (λ m. Some (faults.TooLarge kinds.Section m (2 ^ 32 - 1))) (sym p) ∙ ap (λ m. Some (faults.TooLarge kinds.Section needed m)) (sym q)

contribution_told : (s : List ℕ) (rs : List Span) (f : SframeFault) → AreInside (length s) rs → length s < 2 ^ 32 → first_fault (read_ones s rs) ≡ Some f → first_cause s rs ≡ Some f
unfolding first_cause
contribution_told s rs f inside size e =
    past (range_cause (length s) rs) _ (inside_none (length s) rs inside) ∙ past (size_cause (length s)) _ (small_none (length s) size) ∙ here (first_fault (read_ones s rs)) _ f e

merge_told : (s : List ℕ) (rs : List Span) (c : Contribution) (cs : List Contribution) (gs : List Function) (f : SframeFault) → HasReadableRanges s rs → MergesInOrder (read_ones s rs) c cs gs → merge_with s c cs gs ≡ Some f → first_cause s rs ≡ Some f
unfolding first_cause merge_cause
merge_told s rs c cs gs f readable merge e =
    let same : order (functions (c ∷ cs)) ≡ gs = InOrder-unique (functions (c ∷ cs)) (order (functions (c ∷ cs))) gs (order_is (functions (c ∷ cs))) (subst (λ (read : List Contribution). InOrder (functions read) gs) merge.read_is merge.order) in
    past (range_cause (length s) rs) _ (inside_none (length s) rs readable.ranges)
    ∙ past (size_cause (length s)) _ (small_none (length s) readable.size)
    ∙ past (first_fault (read_ones s rs)) _ (no_first_fault (read_ones s rs) readable.contributions)
    ∙ ap (merge_cause s) merge.read_is
    ∙ ap (merge_with s c cs) same
    ∙ e

cond_true : {X : Type 0} (b : Bool) (x y : X) → b ≡ true → cond b x y ≡ x
cond_true b x y e = ap (λ t. cond t x y) e

cond_false : {X : Type 0} (b : Bool) (x y : X) → b ≡ false → cond b x y ≡ y
cond_false b x y e = ap (λ t. cond t x y) e

same_large : {k : Rattle.sframe_format.specs.declared.fault.LargeKind.LargeKind} {a a' b b' : ℕ} → a ≡ a' → b ≡ b' → Some (faults.TooLarge k a b) ≡ Some (faults.TooLarge k a' b')
same_large p q = cc

told : (s : List ℕ) (rs : List Span) (f : SframeFault) → f ≢ faults.NoMemory → IsSortCause s rs f → first_cause s rs ≡ Some f
unfolding first_cause range_cause merge_with far_from
told s rs (faults.BadRange k) other h = here (range_cause (length s) rs) _ _ (ap (option_map (λ k. faults.BadRange k)) h)
told s rs (faults.TooLarge kinds.Section needed limit) other (inside, n, l, beyond) = past (range_cause (length s) rs) _ (inside_none (length s) rs inside) ∙ here (size_cause (length s)) _ _ (section_told (length s) needed limit n l beyond)
told s rs (faults.BadMagic value offset) other (inside, size, fault) = contribution_told s rs _ inside size fault
told s rs (faults.Truncated kind offset) other (inside, size, fault) = contribution_told s rs _ inside size fault
told s rs (faults.TooLarge kinds.Merged needed limit) other (readable, one, h) =
    merge_told s rs h.c h.cs h.gs _ readable h.merge (cond_true (ltb (length s) (used_len h.c h.gs)) _ _ (test_below _ _ (omega (arith, h.needed_is, h.limit_is, h.beyond))) ∙ same_large (sym h.needed_is) (sym h.limit_is))
told s rs (faults.TooLarge kinds.Rows needed limit) other (readable, one, h) =
    let fres : needed ≡ fre_count (h.c ∷ h.cs) = h.needed_is ∙ ap fre_count h.merge.read_is in
    merge_told s rs h.c h.cs h.gs _ readable h.merge (cond_false (ltb (length s) (used_len h.c h.gs)) _ _ (test_from _ _ h.short) ∙ cond_true (ltb (2 ^ 32 - 1) (fre_count (h.c ∷ h.cs))) _ _ (test_below _ _ (omega (arith, h.limit_is, h.beyond))) ∙ same_large (sym fres) (sym h.limit_is))
told s rs (faults.AddressRange index value) other (readable, one, h) =
    merge_told s rs h.c h.cs h.gs _ readable h.merge
    (cond_false (ltb (length s) (used_len h.c h.gs)) _ _ (test_from _ _ h.room.used)
    ∙ cond_false (ltb (2 ^ 32 - 1) (fre_count (h.c ∷ h.cs))) _ _ (small_test _ h.room.fres)
    ∙ ap (far_from (merged_starts h.c h.cs h.gs)) h.first.0
    ∙ ap (option_map (λ z. faults.AddressRange index z)) h.first.1)
told s rs faults.NoMemory other h = absurd (other refl)

-- causes other than out of memory are the same one
pub one_cause : (s : List ℕ) (rs : List Span) (e f : SframeFault) → e ≢ faults.NoMemory → f ≢ faults.NoMemory → IsSortCause s rs e → IsSortCause s rs f → e ≡ f
one_cause s rs e f p q a b = let same : Some e ≡ Some f = sym (told s rs e p a) ∙ told s rs f q b in cc
